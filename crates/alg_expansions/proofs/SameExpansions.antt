-- Trees with equal expansions have equal normal trees, and only they.
use Rattle.std.proofs.Common.{◌≡◌, List, ap, sym, ◌∙◌, subst}
use Rattle.std.specs.Ordering.{eq_by_cmp}
use Rattle.alg_terms.specs.declared.sorts.Sort.{Sort}
use Rattle.alg_terms.specs.Tree.{Tree, sort_of_tree}
use Rattle.alg_terms.specs.Order.{tree_cmp}
use Rattle.alg_law.specs.declared.classes.Class.TheVariants.{AddGroup}
use Rattle.alg_law.specs.Declarations.{Declaration}
use Rattle.alg_law.specs.Having.{has_class}
use Rattle.alg_law.specs.WellSorted.{IsWellSorted}
use Rattle.alg_sums.specs.Coefficients.{Coefficients}
use Rattle.alg_sums.specs.Monomial.{monomial_cmp}
use Rattle.alg_sums.specs.Sum.{IsSameMap, AllTerms}
use Rattle.alg_sums.proofs.TreeOrder.{tree_cmp-IsStrict}
use Rattle.alg_sums.proofs.Monomials.{monomial_cmp-IsStrict}
use Rattle.alg_sums.proofs.Normal.{normal_of-same, normal_of-map, normal_of-IsNormal}
use Rattle.alg_sums.proofs.Terms.{AllTerms-normal_of}
use Rattle.alg_expansions.specs.Setting.{Setting, setting_of}
use Rattle.alg_expansions.specs.Expansion.{expansion, polynomial, HaveSameExpansion}
use Rattle.alg_expansions.specs.NormalTree.{normal_tree}
use Rattle.alg_expansions.proofs.Terms.{IsAtom, IsTerm, sum_term}
use Rattle.alg_expansions.proofs.NormalTrees.{polynomial-normal_tree}
use Rattle.alg_expansions.proofs.WellSortedTerms.{expansion_terms}

module _ {C : Type 0} (r : Coefficients C) where
  pub same_polynomial : (k : Setting) (t u : Tree) → HaveSameExpansion r k t u → polynomial r k t ≡ polynomial r k u
  same_polynomial k t u h = normal_of-same r (monomial_cmp-IsStrict tree_cmp tree_cmp-IsStrict) (expansion r k t) (expansion r k u) h

  pub polynomial_same : (k : Setting) (t u : Tree) → polynomial r k t ≡ polynomial r k u → HaveSameExpansion r k t u
  polynomial_same k t u e x =
      let s = monomial_cmp-IsStrict tree_cmp tree_cmp-IsStrict in
      sym (normal_of-map r s (expansion r k t) x) ∙ subst (λ p. IsSameMap r (eq_by_cmp (monomial_cmp tree_cmp)) p (expansion r k u)) (sym e) (normal_of-map r s (expansion r k u)) x

  module _ (ds : List Declaration) (s : Sort) where
    abbrev k : Setting
    k = setting_of ds

    polynomial_terms : (t : Tree) → IsWellSorted ds t → sort_of_tree t ≡ s → AllTerms (IsTerm r (k.is_exact s) (has_class ds s AddGroup) (IsAtom r k)) (polynomial r k t)
    polynomial_terms t w e = AllTerms-normal_of r (monomial_cmp tree_cmp) (IsTerm r (k.is_exact s) (has_class ds s AddGroup) (IsAtom r k)) (sum_term r (k.is_exact s) (has_class ds s AddGroup) (IsAtom r k)) (expansion r k t) (expansion_terms r ds s t w e)

    -- the polynomial of the normal tree of a tree is its own
    pub normal_tree-polynomial : (t : Tree) → IsWellSorted ds t → sort_of_tree t ≡ s → polynomial r k (normal_tree r s (polynomial r k t)) ≡ polynomial r k t
    normal_tree-polynomial t w e = polynomial-normal_tree r k s (has_class ds s AddGroup) (IsAtom r k) (λ a j. j) (polynomial r k t) (normal_of-IsNormal r (monomial_cmp-IsStrict tree_cmp tree_cmp-IsStrict) (expansion r k t)) (polynomial_terms t w e)

    -- trees of one normal tree have one polynomial
    pub normal_tree_apart : (t u : Tree) → IsWellSorted ds t → IsWellSorted ds u → sort_of_tree t ≡ s → sort_of_tree u ≡ s → normal_tree r s (polynomial r k t) ≡ normal_tree r s (polynomial r k u) → polynomial r k t ≡ polynomial r k u
    normal_tree_apart t u w v e f q = sym (normal_tree-polynomial t w e) ∙ ap (polynomial r k) q ∙ normal_tree-polynomial u v f
