-- The first argument that has the sort of the value.
use Rattle.std.proofs.Common.{◌≡◌, ℕ, suc, ◌<◌, List, [], ◌∷◌, length, get_or, drop, drop-cons, Some, None, refl, true, false}
use Rattle.alg_terms.specs.declared.sorts.Sort.{Sort}
use Rattle.alg_terms.specs.declared.symbols.Place.{Place}
use Rattle.alg_terms.specs.declared.symbols.Place.TheVariants.{Same, OfNat, OfInt}
use Rattle.alg_terms.specs.Tree.{Tree, sort_of_tree}
use Rattle.alg_expr.specs.declared.ids.ExprId.{ExprId}
use Rattle.alg_expr.specs.Ids.{tree_of}
use Rattle.alg_expr.specs.Applying.{sorts_at}
use Rattle.alg_proof.specs.Steps.{same_sort}
use Rattle.alg_proof.specs.Places.{is_same}

same-head : (p : Place) (ps : List Place) (t : Sort) (ts : List Sort) → is_same p ≡ true → same_sort (p ∷ ps) (t ∷ ts) ≡ Some t
same-head Same ps t ts e = refl
same-head OfNat ps t ts e = cc
same-head OfInt ps t ts e = cc

same-tail : (p : Place) (ps : List Place) (t : Sort) (ts : List Sort) → is_same p ≡ false → same_sort (p ∷ ps) (t ∷ ts) ≡ same_sort ps ts
same-tail Same ps t ts e = cc
same-tail OfNat ps t ts e = refl
same-tail OfInt ps t ts e = refl

pub no-arguments : (ps : List Place) → same_sort ps [] ≡ None
no-arguments [] = refl
no-arguments (p ∷ ps) = refl

module _ (ts : List Tree) (ps : List Place) (es : List ExprId) (i : ℕ) (d : Place) (e : ExprId) (l : i < length ps) (m : i < length es) where
  pub same-here : is_same (get_or ps i d) ≡ true → same_sort (drop i ps) (sorts_at ts (drop i es)) ≡ Some (sort_of_tree (tree_of ts (get_or es i e)))
  same-here t = rw (drop-cons ps i d l, drop-cons es i e m) (same-head (get_or ps i d) (drop (suc i) ps) (sort_of_tree (tree_of ts (get_or es i e))) (sorts_at ts (drop (suc i) es)) t)

  pub same-next : is_same (get_or ps i d) ≡ false → same_sort (drop i ps) (sorts_at ts (drop i es)) ≡ same_sort (drop (suc i) ps) (sorts_at ts (drop (suc i) es))
  same-next t = rw (drop-cons ps i d l, drop-cons es i e m) (same-tail (get_or ps i d) (drop (suc i) ps) (sort_of_tree (tree_of ts (get_or es i e))) (sorts_at ts (drop (suc i) es)) t)
