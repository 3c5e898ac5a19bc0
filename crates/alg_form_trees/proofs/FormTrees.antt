-- The trees of what the steps of forms give: forms of one map have one tree.
use Rattle.std.proofs.Common.{◌≡◌, ℕ, zero, suc, ◌+◌, ◌-◌, ◌<◌, List, refl, ap, sym, ◌∙◌, arith}
use Rattle.alg_terms.specs.declared.sorts.Sort.{Sort}
use Rattle.alg_terms.specs.Tree.{Tree, sort_of_tree}
use Rattle.alg_sums.specs.Coefficients.{Coefficients}
use Rattle.alg_horner.specs.Form.{Form, constant, skip, sum, IsForm, IsSameMap}
use Rattle.alg_horner.specs.Facts.{IsNormalOf}
use Rattle.alg_horner.proofs.Canonical.{canonical}
use Rattle.alg_horner.proofs.Normal.{skip_constant-normal, skip_twice-normal, join_multiple-normal}
use Rattle.alg_form_trees.specs.FormTree.{form_tree, node_tree, raised}

module _ {C : Type 0} (r : Coefficients C) (leaf : C → Tree) (s : Sort) (names : List Tree) where
  -- what the parts are

  pub constant_is : (k : ℕ) (c : C) → form_tree leaf s names k (constant c) ≡ leaf c
  unfolding form_tree
  constant_is k c = refl

  pub skip_is : (k j : ℕ) (h : Form C) → form_tree leaf s names k (skip j h) ≡ form_tree leaf s names (k + j) h
  unfolding form_tree
  skip_is k j h = refl

  pub sum_is : (k : ℕ) (p : Form C) (i : ℕ) (q : Form C) → form_tree leaf s names k (sum p i q) ≡ node_tree s (form_tree leaf s names k p) (raised s names k i) (form_tree leaf s names (k + 1) q)
  unfolding form_tree
  sum_is k p i q = refl

  pub form_sort : ((c : C) → sort_of_tree (leaf c) ≡ s) → (k : ℕ) (f : Form C) → sort_of_tree (form_tree leaf s names k f) ≡ s
  unfolding form_tree
  form_sort e k (constant c) = e c
  form_sort e k (skip j h) = form_sort e (k + j) h
  form_sort e k (sum p i q) = refl

  -- a constant has one tree under all atoms
  pub constant_moved : (k l : ℕ) (c : C) → form_tree leaf s names k (constant c) ≡ form_tree leaf s names l (constant c)
  constant_moved k l c = constant_is k c ∙ sym (constant_is l c)

  pub same_tree : (k : ℕ) (h f : Form C) → IsForm r h → IsForm r f → IsSameMap r h f → form_tree leaf s names k h ≡ form_tree leaf s names k f
  same_tree k h f a b m = ap (form_tree leaf s names k) (canonical r h f a b m)

  -- where `skip` gives h for f
  pub skip_tree : (k j : ℕ) (f h : Form C) → IsForm r f → IsForm r h → IsSameMap r h (skip j f) → form_tree leaf s names k h ≡ form_tree leaf s names (k + j) f
  skip_tree k zero f h a b m =
      let e : k ≡ k + 0 = omega arith in
      ap (form_tree leaf s names k) (canonical r h f b a m) ∙ ap (λ u. form_tree leaf s names u f) e
  skip_tree k (suc j) (constant c) h a b m =
      same_tree k h (constant c) b tt (λ e. m e ∙ sym ((skip_constant-normal r (suc j) c).map e)) ∙ constant_moved k (k + suc j) c
  skip_tree k (suc j) (skip l f) h a b m =
      let n = skip_twice-normal r (suc j) l f in
      let g : IsForm r (skip (suc j + l) f) = (omega arith, a.1, a.2) in
      let e : k + (suc j + l) ≡ k + suc j + l = omega arith in
      same_tree k h (skip (suc j + l) f) b g (λ x. m x ∙ sym (n.map x)) ∙ skip_is k (suc j + l) f ∙ ap (λ u. form_tree leaf s names u f) e ∙ sym (skip_is (k + suc j) l f)
  skip_tree k (suc j) (sum p i q) h a b m =
      let g : IsForm r (skip (suc j) (sum p i q)) = (omega arith, tt, a) in
      same_tree k h (skip (suc j) (sum p i q)) b g m ∙ skip_is k (suc j) (sum p i q)

  -- (p * x^j + 0) * x^i + v is p * x^(j + i) + v
  pub multiple_form : (p v h : Form C) (j i : ℕ) → IsForm r (sum p j (constant r.nil)) → 0 < i → IsForm r v → IsForm r h → IsSameMap r h (sum (sum p j (constant r.nil)) i v) → h ≡ sum p (j + i) v
  multiple_form p v h j i a l b c e =
      let g : IsForm r (sum p (j + i) v) = (omega (arith, l), a.1, a.2, a.3, b) in
      canonical r h (sum p (j + i) v) c g (λ x. e x ∙ sym ((join_multiple-normal r p j i v).map x))

  -- a skip of j atoms is h over the atoms after the first
  pub later_tree : (k j : ℕ) (f h : Form C) → 0 < j → IsForm r f → IsForm r h → IsNormalOf r (skip (j - 1) f) h → form_tree leaf s names k (skip j f) ≡ form_tree leaf s names (k + 1) h
  later_tree k j f h l a b n =
      let d : k + j ≡ k + 1 + (j - 1) = omega (arith, l) in
      skip_is k j f ∙ ap (λ u. form_tree leaf s names u f) d ∙ sym (skip_tree (k + 1) (j - 1) f h a b n.map)

  -- of two skips the one of fewer atoms: the other is h over the atoms after these
  pub fewer_tree : (k i j : ℕ) (f h : Form C) → i < j → IsForm r f → IsForm r h → IsNormalOf r (skip (j - i) f) h → form_tree leaf s names k (skip j f) ≡ form_tree leaf s names (k + i) h
  fewer_tree k i j f h l a b n =
      let d : k + j ≡ k + i + (j - i) = omega (arith, l) in
      skip_is k j f ∙ ap (λ u. form_tree leaf s names u f) d ∙ sym (skip_tree (k + i) (j - i) f h a b n.map)
