-- Whether two patterns are the same.
use Rattle.std.specs.Prelude.{Bool, true, false, ◌&&◌, nat_eq, List, [], ◌∷◌}
use Rattle.alg_terms.specs.declared.symbols.Sym.{Sym}
use Rattle.alg_terms.specs.Keys.{sym_key}
use Rattle.alg_terms.specs.Order.{rel_same}
use Rattle.alg_law.specs.Patterns.{Pat, Letter, PLit, PApp, Pats, PNil, PCons, PatStatement}
use Rattle.alg_lemma.specs.Kinds.{kind_same}

abbrev pub sym_same : Sym → Sym → Bool
sym_same f g = nat_eq (sym_key f) (sym_key g)

abbrev mutual
  pub pattern_same : Pat → Pat → Bool
  pattern_same (Letter j) (Letter k) = nat_eq j k
  pattern_same (Letter j) (PLit u n) = false
  pattern_same (Letter j) (PApp g u qs) = false
  pattern_same (PLit t m) (Letter k) = false
  pattern_same (PLit t m) (PLit u n) = kind_same t u && nat_eq m n
  pattern_same (PLit t m) (PApp g u qs) = false
  pattern_same (PApp f t ps) (Letter k) = false
  pattern_same (PApp f t ps) (PLit u n) = false
  pattern_same (PApp f t ps) (PApp g u qs) = (sym_same f g && kind_same t u) && patterns_same ps qs

  pub patterns_same : Pats → Pats → Bool
  patterns_same PNil PNil = true
  patterns_same PNil (PCons q qs) = false
  patterns_same (PCons p ps) PNil = false
  patterns_same (PCons p ps) (PCons q qs) = pattern_same p q && patterns_same ps qs

abbrev pub pattern_statement_same : PatStatement → PatStatement → Bool
pattern_statement_same a b =
    (rel_same a.rel b.rel && kind_same a.sort b.sort) && (pattern_same a.lhs b.lhs && pattern_same a.rhs b.rhs)

-- the same statements in order
abbrev pub pattern_statements_same : List PatStatement → List PatStatement → Bool
pattern_statements_same [] [] = true
pattern_statements_same [] (b ∷ bs) = false
pattern_statements_same (a ∷ rest) [] = false
pattern_statements_same (a ∷ rest) (b ∷ bs) = pattern_statement_same a b && pattern_statements_same rest bs
