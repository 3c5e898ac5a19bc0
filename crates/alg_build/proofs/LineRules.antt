-- Lines on literals, bridges, computations and hypotheses are good.
use Rattle.std.proofs.Common.{◌≡◌, ℕ, ◌<◌, ◌^◌, List, [], ◌∷◌, refl, Some, true, nat_lt, arith, Ok, Err}
use Rattle.std.specs.Prelude.{ℤ, Option, Result, IfOk}
use Rattle.std.proofs.lemmas.Bool.Decides.{nat_tests}
use Rattle.alg_terms.specs.declared.sorts.Sort.{Sort}
use Rattle.alg_terms.specs.declared.symbols.Sym.{Sym}
use Rattle.alg_terms.specs.declared.relations.Rel.{Rel}
use Rattle.alg_terms.specs.declared.relations.Rel.TheVariants.{Dvd}
use Rattle.alg_terms.specs.Tree.{Tree, Lit, App, Statement, equal, of_list, sort_of_tree}
use Rattle.alg_expr.specs.declared.memory.Memory.{Memory}
use Rattle.alg_law.specs.declared.marks.Mark.TheVariants.{Good}
use Rattle.alg_law.specs.Declarations.{hypotheses}
use Rattle.alg_law.specs.WellSorted.{IsWellSorted, sort_mark}
use Rattle.alg_law.specs.Derivations.{related}
use Rattle.alg_proof.specs.declared.lines.BridgeKind.{BridgeKind}
use Rattle.alg_proof.specs.declared.lines.ComputeHead.TheVariants as head
use Rattle.alg_proof.specs.Causes.{line_at}
use Rattle.alg_proof.specs.Computations.{numeral_at, numerals_at, value_at}
use Rattle.alg_proof.specs.LiteralLines.{bridge_class, bridge_from, bridge_to, has_literal, relation_class, relation_holds}
use Rattle.alg_proof.specs.Steps.{Step, Bridge, Compute, Hyp, LitRel}
use Rattle.alg_build.specs.Book.{Book, Adds}
use Rattle.alg_build.specs.Computing.{Computes, Divides}
use Rattle.alg_build.specs.Good.{IsGood, MayConclude}
use Rattle.alg_build.proofs.Lines.{lines}
use Rattle.alg_build.proofs.RowLines.{concludes-good}

small : (n : ℕ) → n < 2 ^ 127 → nat_lt n (2 ^ 127) ≡ true
small n l = grind (arith, nat_tests)

module _ (b : Book) (r : Rel) (s : Sort) (m n : ℕ) (known : sort_mark b.theory.declarations s ≡ Good) (class : relation_class b.theory.declarations r s ≡ true) (p : has_literal b.theory.declarations s m ≡ true) (q : has_literal b.theory.declarations s n ≡ true) (i : m < 2 ^ 127) (j : n < 2 ^ 127) (holds : relation_holds r m n ≡ true) where
  pub relation-leads : MayConclude b (LitRel r s m n) (related r s (Lit s m) (Lit s n))
  relation-leads = rw (known, class, p, q, small m i, small n j, holds) refl

  pub relation-good : IsGood b (LitRel r s m n)
  relation-good = concludes-good b (LitRel r s m n) (related r s (Lit s m) (Lit s n)) relation-leads

module _ (b : Book) (k : BridgeKind) (n : ℕ) (x : Tree) (sorted : IsWellSorted b.theory.declarations x) (class : bridge_class b.theory.declarations k (sort_of_tree x) ≡ true) (i : n < 2 ^ 127) where
  pub bridge-leads : MayConclude b (Bridge k n x) (equal (bridge_from k n x) (bridge_to k n x))
  bridge-leads = rw (sorted, class, small n i) refl

  pub bridge-good : IsGood b (Bridge k n x)
  bridge-good = concludes-good b (Bridge k n x) (equal (bridge_from k n x) (bridge_to k n x)) bridge-leads

module _ (b : Book) (f : Sym) (s : Sort) (xs : List ℤ) (c : Computes b f s xs) where
  pub computes-leads : MayConclude b (Compute (head.Named f) s xs) (equal (App f s (of_list (numerals_at s xs))) (numeral_at s c.value))
  computes-leads = rw (c.head, c.name, c.known, c.numerals, c.is, c.small, c.small_value) refl

  pub computes-good : IsGood b (Compute (head.Named f) s xs)
  computes-good = concludes-good b (Compute (head.Named f) s xs) (equal (App f s (of_list (numerals_at s xs))) (numeral_at s c.value)) computes-leads

  value-same : (v : ℤ) → value_at s f xs ≡ Some v → c.value ≡ v
  value-same v e = some-same (value_at s f xs) c.value v c.is e
    where
      some-same : (o : Option ℤ) (x y : ℤ) → o ≡ Some x → o ≡ Some y → x ≡ y
      some-same o x y p q = cc

  pub computes-value : (v : ℤ) → value_at s f xs ≡ Some v → MayConclude b (Compute (head.Named f) s xs) (equal (App f s (of_list (numerals_at s xs))) (numeral_at s v))
  computes-value v e = rw (← value-same v e) computes-leads

module _ (b : Book) (s : Sort) (x y : ℤ) (d : Divides b s x y) where
  pub divides-leads : MayConclude b (Compute head.Dvd s (x ∷ y ∷ [])) (related Dvd s (numeral_at s x) (numeral_at s y))
  divides-leads = rw (d.known, d.integral, d.numerals, d.small, d.divides) refl

  pub divides-good : IsGood b (Compute head.Dvd s (x ∷ y ∷ []))
  divides-good = concludes-good b (Compute head.Dvd s (x ∷ y ∷ [])) (related Dvd s (numeral_at s x) (numeral_at s y)) divides-leads

module _ (b : Book) (n : ℕ) (s : Statement) (e : line_at (hypotheses b.theory.declarations) n ≡ Some s) where
  pub hypothesis-leads : MayConclude b (Hyp n) s
  hypothesis-leads = rw e refl

  pub hypothesis-good : IsGood b (Hyp n)
  hypothesis-good = concludes-good b (Hyp n) s hypothesis-leads

-- from every conclusion to the one
pub adds-one : (a b : Book) (l : Step) (s : Statement) (r : Result ℕ Memory) → IfOk r (λ n. (t : Statement) → MayConclude a l t → Adds a b n l t) → MayConclude a l s → IfOk r (λ n. Adds a b n l s)
adds-one a b l s (Ok n) h e = h s e
adds-one a b l s (Err m) h e = tt

pub adds-each : (a b : Book) (l : Step) (r : Result ℕ Memory) {A : Type 0} (P : A → Type 0) (s : A → Statement) → IfOk r (λ n. (t : Statement) → MayConclude a l t → Adds a b n l t) → ((x : A) → P x → MayConclude a l (s x)) → IfOk r (λ n. (x : A) → P x → Adds a b n l (s x))
adds-each a b l (Ok n) P s h k = λ x p. h (s x) (k x p)
adds-each a b l (Err m) P s h k = tt

pub ruleset line_rules = (lines, relation-good, bridge-good, computes-good, divides-good, hypothesis-good)
