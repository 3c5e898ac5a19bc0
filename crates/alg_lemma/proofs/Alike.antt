-- Patterns that pass the test are the same.
use Rattle.std.proofs.Common.{◌≡◌, ℕ, zero, suc, true, List, [], ◌∷◌, arith, refl, ap, ap₂, sym, ◌∙◌}
use Rattle.std.specs.Prelude.{◌&&◌, nat_eq}
use Rattle.std.proofs.lemmas.Bool.{and_parts}
use Rattle.std.proofs.lemmas.Bool.Decides.{nat_tests}
use Rattle.alg_terms.specs.declared.symbols.Sym.{Sym}
use Rattle.alg_terms.specs.Keys.{sym_key}
use Rattle.alg_terms.proofs.KeyLaws.{sym_key-inj}
use Rattle.alg_terms.specs.Order.{rel_same}
use Rattle.alg_terms.proofs.OrderLaws.{rel_same-equal}
use Rattle.alg_law.specs.declared.patterns.PatSort.{PatSort}
use Rattle.alg_law.specs.declared.patterns.PatSort.TheVariants as of
use Rattle.alg_law.specs.Patterns.{Pat, Letter, PLit, PApp, Pats, PNil, PCons, PatStatement}
use Rattle.alg_lemma.specs.Kinds.{kind_key, kind_same}
use Rattle.alg_lemma.specs.Same.{sym_same, pattern_same, patterns_same, pattern_statement_same, pattern_statements_same}

pub same_number : (m n : ℕ) → nat_eq m n ≡ true → m ≡ n
same_number m n e = grind (arith, nat_tests)

abbrev kind_from : ℕ → PatSort
kind_from zero = of.S
kind_from (suc zero) = of.Nat
kind_from (suc (suc n)) = of.Int

kind_from-key : (t : PatSort) → kind_from (kind_key t) ≡ t
kind_from-key of.S = refl
kind_from-key of.Nat = refl
kind_from-key of.Int = refl

pub kind_same-equal : (t u : PatSort) → kind_same t u ≡ true → t ≡ u
kind_same-equal t u e = sym (kind_from-key t) ∙ ap kind_from (same_number (kind_key t) (kind_key u) e) ∙ kind_from-key u

sym_same-equal : (f g : Sym) → sym_same f g ≡ true → f ≡ g
sym_same-equal f g e = sym_key-inj f g (same_number (sym_key f) (sym_key g) e)

mutual
  pub pattern_same-equal : (p q : Pat) → pattern_same p q ≡ true → p ≡ q
  pattern_same-equal (Letter j) (Letter k) e = ap Letter (same_number j k e)
  pattern_same-equal (Letter j) (PLit u n) e = cc
  pattern_same-equal (Letter j) (PApp g u qs) e = cc
  pattern_same-equal (PLit t m) (Letter k) e = cc
  pattern_same-equal (PLit t m) (PLit u n) e =
      let h = and_parts (kind_same t u) (nat_eq m n) e in
      ap₂ PLit (kind_same-equal t u h.0) (same_number m n h.1)
  pattern_same-equal (PLit t m) (PApp g u qs) e = cc
  pattern_same-equal (PApp f t ps) (Letter k) e = cc
  pattern_same-equal (PApp f t ps) (PLit u n) e = cc
  pattern_same-equal (PApp f t ps) (PApp g u qs) e =
      let h = and_parts (sym_same f g && kind_same t u) (patterns_same ps qs) e in
      let k = and_parts (sym_same f g) (kind_same t u) h.0 in
      let x : f ≡ g = sym_same-equal f g k.0 in
      let y : t ≡ u = kind_same-equal t u k.1 in
      let z : ps ≡ qs = patterns_same-equal ps qs h.1 in
      cc

  patterns_same-equal : (ps qs : Pats) → patterns_same ps qs ≡ true → ps ≡ qs
  patterns_same-equal PNil PNil e = refl
  patterns_same-equal PNil (PCons q qs) e = cc
  patterns_same-equal (PCons p ps) PNil e = cc
  patterns_same-equal (PCons p ps) (PCons q qs) e =
      let h = and_parts (pattern_same p q) (patterns_same ps qs) e in
      ap₂ PCons (pattern_same-equal p q h.0) (patterns_same-equal ps qs h.1)

pub pattern_statement_same-equal : (a b : PatStatement) → pattern_statement_same a b ≡ true → a ≡ b
pattern_statement_same-equal a b e =
    let h = and_parts (rel_same a.rel b.rel && kind_same a.sort b.sort) (pattern_same a.lhs b.lhs && pattern_same a.rhs b.rhs) e in
    let k = and_parts (rel_same a.rel b.rel) (kind_same a.sort b.sort) h.0 in
    let l = and_parts (pattern_same a.lhs b.lhs) (pattern_same a.rhs b.rhs) h.1 in
    let rels : a.rel ≡ b.rel = rel_same-equal a.rel b.rel k.0 in
    let sorts : a.sort ≡ b.sort = kind_same-equal a.sort b.sort k.1 in
    let lefts : a.lhs ≡ b.lhs = pattern_same-equal a.lhs b.lhs l.0 in
    let rights : a.rhs ≡ b.rhs = pattern_same-equal a.rhs b.rhs l.1 in
    λ i. record { rel = rels i; sort = sorts i; lhs = lefts i; rhs = rights i }

pub pattern_statements_same-equal : (xs ys : List PatStatement) → pattern_statements_same xs ys ≡ true → xs ≡ ys
pattern_statements_same-equal [] [] e = refl
pattern_statements_same-equal [] (y ∷ ys) e = cc
pattern_statements_same-equal (x ∷ xs) [] e = cc
pattern_statements_same-equal (x ∷ xs) (y ∷ ys) e =
    let h = and_parts (pattern_statement_same x y) (pattern_statements_same xs ys) e in
    ap₂ (λ u us. u ∷ us) (pattern_statement_same-equal x y h.0) (pattern_statements_same-equal xs ys h.1)
