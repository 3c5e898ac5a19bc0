-- The parts of sums and products that are well sorted, and of the trees of forms.
use Rattle.std.proofs.Common.{◌≡◌, ◌≢◌, ℕ, ◌+◌, ◌<◌, List, [], ◌∷◌, length, refl, ap, subst, ◌∙◌, ◌⊎◌, inl, inr, Some, None, arith}
use Rattle.std.specs.Prelude.{Option, IfSome, IsNone, All}
use Rattle.std.proofs.lemmas.List.Elements.{All-head, All-tail}
use Rattle.alg_terms.specs.declared.sorts.Sort.{Sort}
use Rattle.alg_terms.specs.declared.symbols.Sym.{Sym}
use Rattle.alg_terms.specs.declared.symbols.Sym.TheVariants.{Add, Mul}
use Rattle.alg_terms.specs.Tree.{Tree, App, Cons, Nil, of_list, product_tree}
use Rattle.alg_expr.specs.declared.ids.ExprId.{ExprId}
use Rattle.alg_expr.specs.Ids.{tree_of, trees_at, IsIn}
use Rattle.alg_law.specs.Declarations.{Declaration}
use Rattle.alg_law.specs.WellSorted.{IsWellSorted}
use Rattle.alg_build.specs.Book.{Book}
use Rattle.alg_build.specs.Rewriting.{Stands}
use Rattle.alg_expansions.proofs.WellSortedTrees.{HasTwoParts, two_parts}
use Rattle.alg_sums.specs.Ratio.{Ratio}
use Rattle.alg_sums.specs.Rational.{rational}
use Rattle.alg_horner.specs.Form.{Form, skip, sum}
use Rattle.alg_form_trees.specs.FormTree.{form_tree, raised}
use Rattle.alg_form_trees.proofs.FormTrees.{skip_is, sum_is}
use Rattle.alg_shown_forms.specs.Parts.{IsOver, IsOverTwo, AreArguments}

sum_parts : (ds : List Declaration) (s : Sort) (x y : Tree) → IsWellSorted ds (App Add s (Cons x (Cons y Nil))) → HasTwoParts ds Add s x y
sum_parts ds s x y h = two_parts ds Add s x y refl h

product_parts : (ds : List Declaration) (s : Sort) (x y : Tree) → IsWellSorted ds (App Mul s (Cons x (Cons y Nil))) → HasTwoParts ds Mul s x y
product_parts ds s x y h = two_parts ds Mul s x y refl h

parts : (ds : List Declaration) (f : Sym) (s : Sort) (x y : Tree) → (f ≡ Add) ⊎ (f ≡ Mul) → IsWellSorted ds (App f s (Cons x (Cons y Nil))) → HasTwoParts ds f s x y
parts ds f s x y (inl e) h = rw e (sum_parts ds s x y (rw e at h))
parts ds f s x y (inr e) h = rw e (product_parts ds s x y (rw e at h))

-- what an id stands for, where the tree of e is an operation over its tree and another
module _ (b : Book) (s : Sort) (e p : ExprId) (f : Sym) (x y : Tree) (h : IsOver b s e f x y) (i : IsIn b.trees p) where
  pub first_part : tree_of b.trees p ≡ x → Stands b s p x
  first_part k =
      let c = parts b.theory.declarations f s x y h.operation h.stands.sorted in
      record { here = i; tree = k; sorted = c.left_good; sort = c.left }

  pub second_part : tree_of b.trees p ≡ y → Stands b s p y
  second_part k =
      let c = parts b.theory.declarations f s x y h.operation h.stands.sorted in
      record { here = i; tree = k; sorted = c.right_good; sort = c.right }

-- a symbol over another number of parts is none over two
not_two : (trees : List Tree) (u x y : Tree) (f g : Sym) (s r : Sort) (args : List ExprId) → u ≡ App f s (of_list (trees_at trees args)) → length args ≢ 2 → u ≡ App g r (Cons x (Cons y Nil)) → ⊥
not_two trees u x y f g s r [] e h i = cc
not_two trees u x y f g s r (a ∷ []) e h i = cc
not_two trees u x y f g s r (a ∷ b ∷ []) e h i = h refl
not_two trees u x y f g s r (a ∷ b ∷ c ∷ args) e h i = cc

same_two : (u v w x y : Tree) (f g : Sym) (s r : Sort) → u ≡ App f s (Cons v (Cons w Nil)) → u ≡ App g r (Cons x (Cons y Nil)) → (v ≡ x) × (w ≡ y)
same_two u v w x y f g s r e h = (cc, cc)

pub are_arguments : (b : Book) (e : ExprId) (f : Sym) (s : Sort) (args : List ExprId) (o : Option (ExprId × ExprId)) → IsIn b.trees e → tree_of b.trees e ≡ App f s (of_list (trees_at b.trees args)) → All (λ a. a.index < e.index) args → IfSome o (λ p. args ≡ p.0 ∷ p.1 ∷ []) → (IsNone o → length args ≢ 2) → AreArguments b e o
are_arguments b e f s args None i h k m n = λ g r x y q. not_two b.trees (tree_of b.trees e) x y f g s r args h (n refl) q
are_arguments b e f s args (Some p) i h k m n =
    let P : ExprId → Type 0 = λ a. a.index < e.index in
    let a : All P (p.0 ∷ p.1 ∷ []) = subst (All P) m k in
    let t : tree_of b.trees e ≡ App f s (Cons (tree_of b.trees p.0) (Cons (tree_of b.trees p.1) Nil)) = h ∙ ap (λ es. App f s (of_list (trees_at b.trees es))) m in
    let l : p.0.index < e.index = All-head P p.0 (p.1 ∷ []) a in
    let j : p.1.index < e.index = All-head P p.1 [] (All-tail P p.0 (p.1 ∷ []) a) in
    (omega (arith, l, i), omega (arith, j, i), λ g r x y q. same_two (tree_of b.trees e) (tree_of b.trees p.0) (tree_of b.trees p.1) x y f g s r t q)

pub is_over_two : (b : Book) (s : Sort) (e : ExprId) (f : Sym) (x y : Tree) → IsOver b s e f x y → IsOverTwo b e
is_over_two b s e f x y h = record { sort = s; symbol = f; left = x; right = y; over = h }

pub over_product : (b : Book) (s : Sort) (e : ExprId) (x y : Tree) → Stands b s e (product_tree s x y) → IsOver b s e Mul x y
over_product b s e x y h = record { stands = h; operation = inr refl }

module _ (leaf : Ratio → Tree) (b : Book) (s : Sort) (names : List Tree) (k : ℕ) (e : ExprId) (f : Form Ratio) (h : Stands b s e (form_tree leaf s names k f)) where
  -- the tree of a node
  pub over_sum : (p : Form Ratio) (i : ℕ) (q : Form Ratio) → f ≡ sum p i q → IsOver b s e Add (product_tree s (form_tree leaf s names k p) (raised s names k i)) (form_tree leaf s names (k + 1) q)
  over_sum p i q x = record { stands = subst (λ t. Stands b s e t) (ap (form_tree leaf s names k) x ∙ sum_is rational leaf s names k p i q) h; operation = inl refl }

  -- the tree of a skip is that of the form after it
  pub after_skip : (j : ℕ) (g : Form Ratio) → f ≡ skip j g → Stands b s e (form_tree leaf s names (k + j) g)
  after_skip j g x = subst (λ t. Stands b s e t) (ap (form_tree leaf s names k) x ∙ skip_is rational leaf s names k j g) h
