-- Instances of rows, and their premises one by one.
use Rattle.std.proofs.Common.{◌≡◌, ℕ, zero, suc, ◌<◌, List, [], ◌∷◌, get_or, refl, ap, ap₂, sym, ◌∙◌, subst, All, map, length, arith, drop, drop-cons, Bool, true, false, ◌&&◌, Ok, Option}
use Rattle.alg_terms.specs.declared.sorts.Sort.{Sort}
use Rattle.alg_terms.specs.Tree.{Tree, Statement}
use Rattle.alg_expr.specs.declared.ids.ExprId.{ExprId}
use Rattle.alg_expr.specs.declared.ids.Stmt.{Stmt}
use Rattle.alg_expr.specs.Ids.{trees_at, IsIn, statement_of, statements_of, IsStatementIn}
use Rattle.alg_expr.specs.Arena.{Extends}
use Rattle.alg_expr.proofs.ArenaLaws.{statement_of-extends}
use Rattle.alg_law.specs.declared.patterns.PatStmt.{PatStmt}
use Rattle.alg_law.specs.Declarations.{Declaration}
use Rattle.alg_law.specs.WellSorted.{IsStatement}
use Rattle.alg_law.specs.LawRows.{pattern_of}
use Rattle.alg_law.specs.Patterns.{fill_statement}
use Rattle.alg_law.specs.Rows.{Row, letters_of}
use Rattle.alg_proof.specs.Causes.{statement_same}
use Rattle.alg_proof.specs.Instances.{letters_fit, premises_fit, sort_meets_all, class_meets_all, premises_alike, instance_of}
use Rattle.alg_proof.proofs.InstanceLaws.{same-equal}
use Rattle.alg_proof.specs.Admissible.{AllFine}
use Rattle.alg_kernel.proofs.TreeLemmas.{trees_at-extends}

-- a line isn't a statement that isn't well sorted
pub not-same : (ds : List Declaration) (a b : Statement) → IsStatement ds a → (IsStatement ds b → ⊥) → statement_same a b ≡ false
not-same ds a b h n = by-test (statement_same a b) refl
  where
    by-test : (t : Bool) → statement_same a b ≡ t → statement_same a b ≡ false
    by-test false e = e
    by-test true e = absurd (n (subst (IsStatement ds) (same-equal a b e) h))

module _ (t0 t1 : List Tree) (ls : List ℕ) (s : Sort) (with : List ExprId) (patterns : List PatStmt) (lines : List Stmt) (i : ℕ) (d : PatStmt) (e : Stmt) (x : Extends t0 t1) (with_in : All (IsIn t0) with) (lines_in : All (IsStatementIn t0) lines) (l : i < length patterns) (count : length patterns ≡ length lines) where
  pub premise-step : (b : Bool) → b ≡ statement_same (statement_of t1 (get_or lines i e)) (fill_statement ls s (trees_at t1 with) (pattern_of (get_or patterns i d)))
      → premises_alike ls s (trees_at t0 with) (map pattern_of (drop i patterns)) (statements_of t0 (drop i lines)) ≡ (b && premises_alike ls s (trees_at t0 with) (map pattern_of (drop (suc i) patterns)) (statements_of t0 (drop (suc i) lines)))
  premise-step b f =
      let m : i < length lines = omega (arith, l, count) in
      let same : statement_of t1 (get_or lines i e) ≡ statement_of t0 (get_or lines i e) = statement_of-extends t0 t1 (get_or lines i e) x (lines_in i e m) in
      let trees : trees_at t1 with ≡ trees_at t0 with = trees_at-extends t0 t1 with x with_in in
      let alike : b ≡ statement_same (statement_of t0 (get_or lines i e)) (fill_statement ls s (trees_at t0 with) (pattern_of (get_or patterns i d))) =
      f ∙ ap₂ statement_same same (ap (λ xs. fill_statement ls s xs (pattern_of (get_or patterns i d))) trees) in
      rw (drop-cons patterns i d l, drop-cons lines i e m) (ap (λ (c : Bool). c && premises_alike ls s (trees_at t0 with) (map pattern_of (drop (suc i) patterns)) (statements_of t0 (drop (suc i) lines))) (sym alike))

module _ (ds : List Declaration) (r : Row) (s : Sort) (xs : List Tree) (lines : List Statement) where
  pub instance-good : letters_fit s (letters_of r) xs ≡ true → premises_fit s r.premises lines ≡ true → sort_meets_all s r.needs ≡ true → class_meets_all ds s r.needs ≡ true → premises_alike (letters_of r) s xs r.premises lines ≡ true → instance_of ds r s xs lines ≡ Ok (fill_statement (letters_of r) s xs r.conclusion)
  instance-good a b c d e = rw (a, b, c, d, e) refl

-- the lines that were looked up are well sorted
pub lines-sorted : (ds : List Declaration) (given : Option Statement) (ts : List Tree) (ss : List Stmt) → AllFine ds given (statements_of ts ss) → (k : ℕ) (d : Stmt) → k < length ss → IsStatement ds (statement_of ts (get_or ss k d))
lines-sorted ds given ts [] h k d l = absurd (omega (arith, l))
lines-sorted ds given ts (s ∷ ss) h zero d l = h.0.statement
lines-sorted ds given ts (s ∷ ss) h (suc k) d l = lines-sorted ds given ts ss h.1 k d (omega (arith, l))

pub instance-made : (ds : List Declaration) (r : Row) (s : Sort) (xs : List Tree) (lines : List Statement) (j k ls : List ℕ) → ls ≡ letters_of r → j ≡ ls → k ≡ ls
    → letters_fit s j xs ≡ true → premises_fit s r.premises lines ≡ true → sort_meets_all s r.needs ≡ true → class_meets_all ds s r.needs ≡ true → premises_alike k s xs r.premises lines ≡ true → instance_of ds r s xs lines ≡ Ok (fill_statement (letters_of r) s xs r.conclusion)
instance-made ds r s xs lines j k ls e f g a b c d h =
    instance-good ds r s xs lines (subst (λ (x : List ℕ). letters_fit s x xs ≡ true) (f ∙ e) a) b c d (subst (λ (x : List ℕ). premises_alike x s xs r.premises lines ≡ true) (g ∙ e) h)

pub filled-same : (t0 t1 : List Tree) (r : Row) (s : Sort) (with : List ExprId) (k ls : List ℕ) → Extends t0 t1 → All (IsIn t0) with → ls ≡ letters_of r → k ≡ ls → fill_statement k s (trees_at t1 with) r.conclusion ≡ fill_statement (letters_of r) s (trees_at t0 with) r.conclusion
filled-same t0 t1 r s with k ls x h e f = λ i. fill_statement ((f ∙ e) i) s (trees_at-extends t0 t1 with x h i) r.conclusion

pub filled-here : (ts : List Tree) (r : Row) (s : Sort) (with : List ExprId) (k ls : List ℕ) → ls ≡ letters_of r → k ≡ ls → fill_statement k s (trees_at ts with) r.conclusion ≡ fill_statement (letters_of r) s (trees_at ts with) r.conclusion
filled-here ts r s with k ls e f = λ i. fill_statement ((f ∙ e) i) s (trees_at ts with) r.conclusion
