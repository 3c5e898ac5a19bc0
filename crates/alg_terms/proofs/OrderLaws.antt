-- Trees, sorts and relations in no order are one.
use Rattle.std.specs.Prelude.{◌≡◌, ℕ, ◌<◌, refl, true}
use Rattle.std.proofs.Common.{ap, sym, ◌∙◌, subst, arith}
use Rattle.std.proofs.lemmas.Bool.Decides.{nat_tests}
use Rattle.std.specs.Ordering.{nat_cmp, ordering_then, MatchOrdering, is_eq}
use Rattle.std.specs.declared.cmp.Ordering.{Ordering}
use Rattle.std.specs.declared.cmp.Ordering.TheVariants.{Less, Equal, Greater}
use Rattle.std.proofs.lemmas.Cmp.{ranked}
use Rattle.alg_terms.specs.declared.sorts.Sort.{Sort}
use Rattle.alg_terms.specs.declared.relations.Rel.{Rel}
use Rattle.alg_terms.specs.Keys.{sort_key, sym_key, rel_key, rel_at, rel_at-rel_key}
use Rattle.alg_terms.proofs.KeyLaws.{sort_key-inj, sym_key-inj}
use Rattle.alg_terms.specs.Tree.{Tree, Lit, Var, App, Trees, Nil, Cons}
use Rattle.alg_terms.specs.Order.{sort_cmp, sym_cmp, tree_cmp, trees_cmp, tree_same, sort_same, rel_same}

-- both parts of a comparison are equal
then-equal : (o p : Ordering) → ordering_then o p ≡ Equal → (o ≡ Equal) × (p ≡ Equal)
then-equal Less p e = cc
then-equal Equal p e = (refl, e)
then-equal Greater p e = cc

nat_cmp-equal : (m n : ℕ) → nat_cmp m n ≡ Equal → m ≡ n
nat_cmp-equal m n e = subst (λ o. MatchOrdering o (m < n) (m ≡ n) (n < m)) e (ranked m n (nat_cmp m n) refl)

-- trees in no order are one tree
mutual
  pub tree_cmp-equal : (a b : Tree) → tree_cmp a b ≡ Equal → a ≡ b
  tree_cmp-equal (Lit s m) (Lit t n) e =
      let h = then-equal (nat_cmp m n) (sort_cmp s t) e in
      let p : m ≡ n = nat_cmp-equal m n h.0 in
      let q : s ≡ t = sort_key-inj s t (nat_cmp-equal (sort_key s) (sort_key t) h.1) in
      cc
  tree_cmp-equal (Lit s m) (Var _ _) e = cc
  tree_cmp-equal (Lit s m) (App _ _ _) e = cc
  tree_cmp-equal (Var d s) (Lit _ _) e = cc
  tree_cmp-equal (Var d s) (Var f t) e =
      let h = then-equal (nat_cmp d f) (sort_cmp s t) e in
      let p : d ≡ f = nat_cmp-equal d f h.0 in
      let q : s ≡ t = sort_key-inj s t (nat_cmp-equal (sort_key s) (sort_key t) h.1) in
      cc
  tree_cmp-equal (Var d s) (App _ _ _) e = cc
  tree_cmp-equal (App f s xs) (Lit _ _) e = cc
  tree_cmp-equal (App f s xs) (Var _ _) e = cc
  tree_cmp-equal (App f s xs) (App g t ys) e =
      let h = then-equal (sym_cmp f g) (ordering_then (trees_cmp xs ys) (sort_cmp s t)) e in
      let k = then-equal (trees_cmp xs ys) (sort_cmp s t) h.1 in
      let p : f ≡ g = sym_key-inj f g (nat_cmp-equal (sym_key f) (sym_key g) h.0) in
      let r : xs ≡ ys = trees_cmp-equal xs ys k.0 in
      let q : s ≡ t = sort_key-inj s t (nat_cmp-equal (sort_key s) (sort_key t) k.1) in
      cc

  pub trees_cmp-equal : (xs ys : Trees) → trees_cmp xs ys ≡ Equal → xs ≡ ys
  trees_cmp-equal Nil Nil e = refl
  trees_cmp-equal Nil (Cons _ _) e = cc
  trees_cmp-equal (Cons x xs) Nil e = cc
  trees_cmp-equal (Cons x xs) (Cons y ys) e =
      let h = then-equal (tree_cmp x y) (trees_cmp xs ys) e in
      let p : x ≡ y = tree_cmp-equal x y h.0 in
      let q : xs ≡ ys = trees_cmp-equal xs ys h.1 in
      cc

nat_cmp-self : (n : ℕ) → nat_cmp n n ≡ Equal
nat_cmp-self n = grind (arith, nat_tests)

mutual
  pub tree_cmp-self : (a : Tree) → tree_cmp a a ≡ Equal
  tree_cmp-self (Lit s m) = rw (nat_cmp-self m) (nat_cmp-self (sort_key s))
  tree_cmp-self (Var d s) = rw (nat_cmp-self d) (nat_cmp-self (sort_key s))
  tree_cmp-self (App f s xs) = rw (nat_cmp-self (sym_key f), trees_cmp-self xs) (nat_cmp-self (sort_key s))

  pub trees_cmp-self : (xs : Trees) → trees_cmp xs xs ≡ Equal
  trees_cmp-self Nil = refl
  trees_cmp-self (Cons x xs) = rw (tree_cmp-self x) (trees_cmp-self xs)

is_eq-equal : (o : Ordering) → is_eq o ≡ true → o ≡ Equal
is_eq-equal Less e = cc
is_eq-equal Equal e = refl
is_eq-equal Greater e = cc

pub tree_same-equal : (x y : Tree) → tree_same x y ≡ true → x ≡ y
tree_same-equal x y e = tree_cmp-equal x y (is_eq-equal (tree_cmp x y) e)

pub tree_same-self : (x : Tree) → tree_same x x ≡ true
tree_same-self x = rw (tree_cmp-self x)

pub sort_same-equal : (s t : Sort) → sort_same s t ≡ true → s ≡ t
sort_same-equal s t e = sort_key-inj s t (nat_cmp-equal (sort_key s) (sort_key t) (is_eq-equal (sort_cmp s t) e))

pub sort_same-self : (s : Sort) → sort_same s s ≡ true
sort_same-self s = rw (nat_cmp-self (sort_key s))

pub rel_same-equal : (r q : Rel) → rel_same r q ≡ true → r ≡ q
rel_same-equal r q e =
    let h : rel_key r ≡ rel_key q = grind (arith, nat_tests) in
    sym (rel_at-rel_key r) ∙ ap rel_at h ∙ rel_at-rel_key q

pub rel_same-self : (r : Rel) → rel_same r r ≡ true
rel_same-self r = grind (arith, nat_tests)
