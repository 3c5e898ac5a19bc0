-- Two trees have one map exactly where they have one list in order, and exactly where they have one normal form.
use Rattle.std.proofs.Common.{◌≡◌, ℕ, ap, sym, ◌∙◌, subst, Option, Some, ℤ, pos}
use Rattle.std.specs.Ordering.{eq_by_cmp}
use Rattle.alg_terms.specs.declared.sorts.Sort.{Sort}
use Rattle.alg_terms.specs.declared.sorts.Sort.TheVariants.{Nat}
use Rattle.alg_terms.specs.Tree.{Tree, Lit}
use Rattle.alg_terms.specs.Order.{tree_cmp}
use Rattle.alg_sums.specs.Sum.{IsSameMap}
use Rattle.alg_sums.proofs.TreeOrder.{tree_cmp-IsStrict}
use Rattle.alg_sums.proofs.Normal.{normal_of-same, normal_of-map}
use Rattle.alg_sums.specs.Integers.{integers}
use Rattle.alg_abel_terms.specs.Combination.{terms, combination, HaveSameCombination}
use Rattle.alg_abel_terms.specs.NormalTree.{normal_tree, normal_form}
use Rattle.alg_abel_terms.proofs.NormalTrees.{combination-normal_form}

module _ (value : Tree → Option ℤ) where
  pub combination_same : (t u : Tree) → HaveSameCombination value t u → combination value t ≡ combination value u
  combination_same t u h = normal_of-same integers tree_cmp-IsStrict (terms value t) (terms value u) h

  pub same_combination : (t u : Tree) → combination value t ≡ combination value u → HaveSameCombination value t u
  same_combination t u e k =
      sym (normal_of-map integers tree_cmp-IsStrict (terms value t) k)
      ∙ subst (λ p. IsSameMap integers (eq_by_cmp tree_cmp) p (terms value u)) (sym e) (normal_of-map integers tree_cmp-IsStrict (terms value u)) k

  pub normal_form_same : (s : Sort) (t u : Tree) → HaveSameCombination value t u → normal_form value s t ≡ normal_form value s u
  normal_form_same s t u h = ap (normal_tree s) (combination_same t u h)

  pub same_normal_form : (literal : (n : ℕ) → value (Lit Nat n) ≡ Some (pos n)) (s : Sort) (t u : Tree) → normal_form value s t ≡ normal_form value s u → HaveSameCombination value t u
  same_normal_form literal s t u e = same_combination t u (sym (combination-normal_form value literal s t) ∙ ap (combination value) e ∙ combination-normal_form value literal s u)
