-- The order of trees is total, and only equal trees tie.
use Rattle.std.proofs.Common.{◌≡◌, ℕ, refl, sym, ap, ap₂, ◌∙◌, Ordering, Less, Equal, Greater}
use Rattle.std.specs.Ordering.{nat_cmp, ordering_then, ordering_reverse}
use Rattle.std.specs.Cmp.{nat_cmp_total, alike_right, then_flip}
use Rattle.alg_terms.specs.Keys.{sort_key, sym_key}
use Rattle.alg_terms.specs.Tree.{Tree, Lit, Var, App, Trees, Nil, Cons}
use Rattle.alg_terms.specs.Order.{tree_cmp, trees_cmp, sort_cmp, sym_cmp}
use Rattle.alg_terms.proofs.OrderLaws.{tree_cmp-equal, trees_cmp-equal}
use Rattle.alg_sums.specs.Sum.{IsStrict}

turn_numbers : (m n : ℕ) → nat_cmp m n ≡ ordering_reverse (nat_cmp n m)
turn_numbers m n = nat_cmp_total.antisymm m n

turn_both : (o o' p p' : Ordering) → o ≡ ordering_reverse o' → p ≡ ordering_reverse p' → ordering_then o p ≡ ordering_reverse (ordering_then o' p')
turn_both o o' p p' e f = ap₂ ordering_then e f ∙ then_flip o' p'

mutual
  turn : (a b : Tree) → tree_cmp a b ≡ ordering_reverse (tree_cmp b a)
  turn (Lit s m) (Lit t n) = turn_both (nat_cmp m n) (nat_cmp n m) (sort_cmp s t) (sort_cmp t s) (turn_numbers m n) (turn_numbers (sort_key s) (sort_key t))
  turn (Lit s m) (Var d t) = refl
  turn (Lit s m) (App f t xs) = refl
  turn (Var d s) (Lit t n) = refl
  turn (Var d s) (Var e t) = turn_both (nat_cmp d e) (nat_cmp e d) (sort_cmp s t) (sort_cmp t s) (turn_numbers d e) (turn_numbers (sort_key s) (sort_key t))
  turn (Var d s) (App f t xs) = refl
  turn (App f s xs) (Lit t n) = refl
  turn (App f s xs) (Var d t) = refl
  turn (App f s xs) (App g t ys) = turn_both (sym_cmp f g) (sym_cmp g f) (ordering_then (trees_cmp xs ys) (sort_cmp s t)) (ordering_then (trees_cmp ys xs) (sort_cmp t s)) (turn_numbers (sym_key f) (sym_key g)) (turn_both (trees_cmp xs ys) (trees_cmp ys xs) (sort_cmp s t) (sort_cmp t s) (turns xs ys) (turn_numbers (sort_key s) (sort_key t)))

  turns : (xs ys : Trees) → trees_cmp xs ys ≡ ordering_reverse (trees_cmp ys xs)
  turns Nil Nil = refl
  turns Nil (Cons y ys) = refl
  turns (Cons x xs) Nil = refl
  turns (Cons x xs) (Cons y ys) = turn_both (tree_cmp x y) (tree_cmp y x) (trees_cmp xs ys) (trees_cmp ys xs) (turn x y) (turns xs ys)

-- three comparisons in a row
record Chains (o p q : Ordering) : Type 0 where
  less : o ≡ Less → p ≡ Less → q ≡ Less
  left : o ≡ Equal → q ≡ p
  right : p ≡ Equal → q ≡ o

numbers : (a b c : ℕ) → Chains (nat_cmp a b) (nat_cmp b c) (nat_cmp a c)
numbers a b c = record {
  less = λ h k. nat_cmp_total.trans a b c h k;
  left = λ h. nat_cmp_total.congr a b c h;
  right = λ h. sym (alike_right nat_cmp_total b c a h);
}

then_less : (o p q o' p' q' : Ordering) → Chains o p q → Chains o' p' q' → ordering_then o o' ≡ Less → ordering_then p p' ≡ Less → ordering_then q q' ≡ Less
then_less Less Less q o' p' q' c d h k = rw (c.less refl refl) refl
then_less Less Equal q o' p' q' c d h k = rw (c.right refl) refl
then_less Less Greater q o' p' q' c d h k = cc
then_less Equal Less q o' p' q' c d h k = rw (c.left refl) refl
then_less Equal Equal q o' p' q' c d h k = rw (c.left refl) (d.less h k)
then_less Equal Greater q o' p' q' c d h k = cc
then_less Greater p q o' p' q' c d h k = cc

then_left : (o p q o' p' q' : Ordering) → Chains o p q → Chains o' p' q' → ordering_then o o' ≡ Equal → ordering_then q q' ≡ ordering_then p p'
then_left Less p q o' p' q' c d h = cc
then_left Equal p q o' p' q' c d h = ap₂ ordering_then (c.left refl) (d.left h)
then_left Greater p q o' p' q' c d h = cc

then_right : (o p q o' p' q' : Ordering) → Chains o p q → Chains o' p' q' → ordering_then p p' ≡ Equal → ordering_then q q' ≡ ordering_then o o'
then_right o Less q o' p' q' c d h = cc
then_right o Equal q o' p' q' c d h = ap₂ ordering_then (c.right refl) (d.right h)
then_right o Greater q o' p' q' c d h = cc

both_chains : (o p q o' p' q' : Ordering) → Chains o p q → Chains o' p' q' → Chains (ordering_then o o') (ordering_then p p') (ordering_then q q')
both_chains o p q o' p' q' c d = record {
  less = then_less o p q o' p' q' c d;
  left = then_left o p q o' p' q' c d;
  right = then_right o p q o' p' q' c d;
}

-- trees whose chain is less have the others from their equality
tree_chain : (a b c : Tree) → (tree_cmp a b ≡ Less → tree_cmp b c ≡ Less → tree_cmp a c ≡ Less) → Chains (tree_cmp a b) (tree_cmp b c) (tree_cmp a c)
tree_chain a b c l = record {
  less = l;
  left = λ h. ap (λ t. tree_cmp t c) (tree_cmp-equal a b h);
  right = λ h. ap (λ t. tree_cmp a t) (sym (tree_cmp-equal b c h));
}

trees_chain : (a b c : Trees) → (trees_cmp a b ≡ Less → trees_cmp b c ≡ Less → trees_cmp a c ≡ Less) → Chains (trees_cmp a b) (trees_cmp b c) (trees_cmp a c)
trees_chain a b c l = record {
  less = l;
  left = λ h. ap (λ t. trees_cmp t c) (trees_cmp-equal a b h);
  right = λ h. ap (λ t. trees_cmp a t) (sym (trees_cmp-equal b c h));
}

mutual
  chain : (a b c : Tree) → tree_cmp a b ≡ Less → tree_cmp b c ≡ Less → tree_cmp a c ≡ Less
  chain (Lit s l) b (Var d t) h k = refl
  chain (Lit s l) b (App f t xs) h k = refl
  chain (Var d s) b (App f t xs) h k = refl
  chain (Lit s l) (Lit t m) (Lit u n) h k = then_less (nat_cmp l m) (nat_cmp m n) (nat_cmp l n) (sort_cmp s t) (sort_cmp t u) (sort_cmp s u) (numbers l m n) (numbers (sort_key s) (sort_key t) (sort_key u)) h k
  chain (Lit s l) (Var d t) (Lit u n) h k = cc
  chain (Lit s l) (App f t xs) (Lit u n) h k = cc
  chain (Var d s) (Lit t m) (Lit u n) h k = cc
  chain (Var d s) (Var e t) (Lit u n) h k = cc
  chain (Var d s) (App f t xs) (Lit u n) h k = cc
  chain (Var d s) (Lit t m) (Var g u) h k = cc
  chain (Var d s) (Var e t) (Var g u) h k = then_less (nat_cmp d e) (nat_cmp e g) (nat_cmp d g) (sort_cmp s t) (sort_cmp t u) (sort_cmp s u) (numbers d e g) (numbers (sort_key s) (sort_key t) (sort_key u)) h k
  chain (Var d s) (App f t xs) (Var g u) h k = cc
  chain (App f s xs) (Lit t m) c h k = cc
  chain (App f s xs) (Var e t) c h k = cc
  chain (App f s xs) (App g t ys) (Lit u n) h k = cc
  chain (App f s xs) (App g t ys) (Var e u) h k = cc
  chain (App f s xs) (App g t ys) (App j u zs) h k =
      then_less (sym_cmp f g) (sym_cmp g j) (sym_cmp f j) (ordering_then (trees_cmp xs ys) (sort_cmp s t)) (ordering_then (trees_cmp ys zs) (sort_cmp t u)) (ordering_then (trees_cmp xs zs) (sort_cmp s u))
      (numbers (sym_key f) (sym_key g) (sym_key j))
      (both_chains (trees_cmp xs ys) (trees_cmp ys zs) (trees_cmp xs zs) (sort_cmp s t) (sort_cmp t u) (sort_cmp s u) (trees_chain xs ys zs (chains xs ys zs)) (numbers (sort_key s) (sort_key t) (sort_key u)))
      h k

  chains : (a b c : Trees) → trees_cmp a b ≡ Less → trees_cmp b c ≡ Less → trees_cmp a c ≡ Less
  chains Nil Nil c h k = cc
  chains Nil (Cons y ys) Nil h k = cc
  chains Nil (Cons y ys) (Cons z zs) h k = refl
  chains (Cons x xs) Nil c h k = cc
  chains (Cons x xs) (Cons y ys) Nil h k = cc
  chains (Cons x xs) (Cons y ys) (Cons z zs) h k =
      then_less (tree_cmp x y) (tree_cmp y z) (tree_cmp x z) (trees_cmp xs ys) (trees_cmp ys zs) (trees_cmp xs zs)
      (tree_chain x y z (chain x y z)) (trees_chain xs ys zs (chains xs ys zs)) h k

pub tree_cmp-IsStrict : IsStrict tree_cmp
tree_cmp-IsStrict = record {
  total = record { antisymm = turn; trans = chain; congr = λ x y z h. ap (λ t. tree_cmp t z) (tree_cmp-equal x y h) };
  ties = tree_cmp-equal;
}
