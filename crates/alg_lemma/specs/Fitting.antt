-- Which patterns are well sorted whatever well sorted trees stand for their letters.
use Rattle.std.specs.Prelude.{ℕ, Bool, true, false, ◌&&◌, ◌||◌, if◌then◌else◌, nat_eq, nat_lt, List, [], ◌∷◌}
use Rattle.alg_law.specs.declared.patterns.PatSort.{PatSort}
use Rattle.alg_law.specs.declared.patterns.PatSort.TheVariants as of
use Rattle.alg_law.specs.declared.rows.Need.{Need}
use Rattle.alg_law.specs.WellSorted.{literal_class}
use Rattle.alg_law.specs.Patterns.{Pat, Letter, PLit, PApp, Pats, PNil, PCons, PatStatement}
use Rattle.alg_lemma.specs.Kinds.{kind_same, kind_has, head_fits}

-- the kind of a letter of a row that is taken at a kind
abbrev pub letter_kind : PatSort → ℕ → PatSort
letter_kind t k = if nat_lt k 4 then t else (if nat_lt k 6 then of.Nat else of.Int)

abbrev pub kind_of : Pat → PatSort
kind_of (Letter k) = letter_kind of.S k
kind_of (PLit t n) = t
kind_of (PApp f t ps) = t

abbrev pub kinds_of : Pats → List PatSort
kinds_of PNil = []
kinds_of (PCons p ps) = kind_of p ∷ kinds_of ps

abbrev pub is_letter : List ℕ → ℕ → Bool
is_letter [] k = false
is_letter (l ∷ ls) k = nat_eq l k || is_letter ls k

-- the letters are these, and sorts, arities and classes fit at every node
abbrev mutual
  pub fits : List Need → List ℕ → Pat → Bool
  fits ns ks (Letter k) = is_letter ks k
  fits ns ks (PLit t n) = kind_has ns t (literal_class n)
  fits ns ks (PApp f t ps) = head_fits ns f t (kinds_of ps) && all_fit ns ks ps

  pub all_fit : List Need → List ℕ → Pats → Bool
  all_fit ns ks PNil = true
  all_fit ns ks (PCons p ps) = fits ns ks p && all_fit ns ks ps

-- both sides fit, and are of the statement's kind
abbrev pub statement_fits : List Need → List ℕ → PatStatement → Bool
statement_fits ns ks p =
    (fits ns ks p.lhs && fits ns ks p.rhs) && (kind_same (kind_of p.lhs) p.sort && kind_same (kind_of p.rhs) p.sort)

abbrev pub statements_fit : List Need → List ℕ → List PatStatement → Bool
statements_fit ns ks [] = true
statements_fit ns ks (p ∷ ps) = statement_fits ns ks p && statements_fit ns ks ps
