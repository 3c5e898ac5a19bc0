-- The combinations of sums, negations and multiples, from those of the parts.
use Rattle.std.proofs.Common.{◌≡◌, zero, suc, ◌*◌, ◌<◌, List, [], ◌∷◌, ◌++◌, Bool, true, false, cond, refl, ap, ap₂, sym, ◌∙◌, arith, Option, Some, ℤ, pos, negsuc, neg_ℤ, ◌+ℤ◌, ◌*ℤ◌}
use Rattle.std.specs.Prelude.{unsigned_abs}
use Rattle.std.specs.Ordering.{eq_by_cmp}
use Rattle.std.proofs.lemmas.Int.{ints, unsigned_abs-mul}
use Rattle.std.proofs.Math.IntN.{+ℤ_idl, +ℤ_assoc}
use Rattle.alg_num.proofs.IntegerLaws.{*ℤ-+ℤ, positive_product}
use Rattle.alg_terms.specs.declared.sorts.Sort.{Sort}
use Rattle.alg_terms.specs.declared.symbols.Sym.TheVariants.{Add, Neg, Sub, Nsmul, Zsmul}
use Rattle.alg_terms.specs.Tree.{Tree, App, Nil, Cons}
use Rattle.alg_terms.specs.Order.{tree_cmp}
use Rattle.alg_sums.specs.Sum.{total_at, IsBefore, IsNormal, negated, insert_term, normal_of}
use Rattle.alg_sums.proofs.TreeOrder.{tree_cmp-IsStrict}
use Rattle.alg_sums.proofs.Normal.{normal_of-same, normal_of-map, normal_of-IsNormal, normal_of-itself, is_normal_of}
use Rattle.alg_sums.specs.Integers.{one_zero, integers}
use Rattle.alg_expansions.specs.NormalTree.{binary}
use Rattle.alg_abel_terms.specs.Combination.{atom, multiplied, multiple_or, terms, combination}

abbrev pub at : Tree → List (Tree × ℤ) → ℤ
at k p = total_at integers (eq_by_cmp tree_cmp) k p

-- ---- what lists give at an atom
at-append : (k : Tree) (p q : List (Tree × ℤ)) → at k (p ++ q) ≡ at k p +ℤ at k q
unfolding integers
at-append k [] q = sym (+ℤ_idl (at k q))
at-append k (t ∷ p) q = ap (λ z. cond (eq_by_cmp tree_cmp t.0 k) t.1 (pos 0) +ℤ z) (at-append k p q) ∙ sym (+ℤ_assoc (cond (eq_by_cmp tree_cmp t.0 k) t.1 (pos 0)) (at k p) (at k q))

no_times : (z : ℤ) → z *ℤ pos 0 ≡ pos 0
no_times z = omega (arith, ints)

cond_times : (z c : ℤ) (b : Bool) → cond b (z *ℤ c) (pos 0) ≡ z *ℤ cond b c (pos 0)
cond_times z c true = refl
cond_times z c false = sym (no_times z)

at-multiplied : (k : Tree) (z : ℤ) (p : List (Tree × ℤ)) → at k (multiplied z p) ≡ z *ℤ at k p
unfolding integers
at-multiplied k z [] = sym (no_times z)
at-multiplied k z (t ∷ p) =
    ap₂ (λ x y. x +ℤ y) (cond_times z t.1 (eq_by_cmp tree_cmp t.0 k)) (at-multiplied k z p)
    ∙ sym (*ℤ-+ℤ z (cond (eq_by_cmp tree_cmp t.0 k) t.1 (pos 0)) (at k p))

neg_plus : (y z : ℤ) → neg_ℤ y +ℤ neg_ℤ z ≡ neg_ℤ (y +ℤ z)
neg_plus y z = omega (arith, ints)

cond_minus : (c : ℤ) (b : Bool) → cond b (neg_ℤ c) (pos 0) ≡ neg_ℤ (cond b c (pos 0))
cond_minus c true = refl
cond_minus c false = refl

at-negated : (k : Tree) (p : List (Tree × ℤ)) → at k (negated integers p) ≡ neg_ℤ (at k p)
unfolding integers
at-negated k [] = refl
at-negated k (t ∷ p) =
    ap₂ (λ x y. x +ℤ y) (cond_minus t.1 (eq_by_cmp tree_cmp t.0 k)) (at-negated k p)
    ∙ neg_plus (cond (eq_by_cmp tree_cmp t.0 k) t.1 (pos 0)) (at k p)

abbrev pub in_order : List (Tree × ℤ) → List (Tree × ℤ)
in_order p = normal_of integers tree_cmp p

map_of : (p : List (Tree × ℤ)) (k : Tree) → at k (in_order p) ≡ at k p
map_of p k = normal_of-map integers tree_cmp-IsStrict p k

-- parts may be put in order first
pub order-append : (p q : List (Tree × ℤ)) → in_order (p ++ q) ≡ in_order (in_order p ++ in_order q)
unfolding integers
order-append p q = normal_of-same integers tree_cmp-IsStrict (p ++ q) (in_order p ++ in_order q) (λ k. at-append k p q ∙ ap₂ (λ x y. x +ℤ y) (sym (map_of p k)) (sym (map_of q k)) ∙ sym (at-append k (in_order p) (in_order q)))

pub order-negated : (p : List (Tree × ℤ)) → in_order (negated integers p) ≡ in_order (negated integers (in_order p))
unfolding integers
order-negated p = normal_of-same integers tree_cmp-IsStrict (negated integers p) (negated integers (in_order p)) (λ k. at-negated k p ∙ ap neg_ℤ (sym (map_of p k)) ∙ sym (at-negated k (in_order p)))

pub order-multiplied : (z : ℤ) (p : List (Tree × ℤ)) → in_order (multiplied z p) ≡ in_order (multiplied z (in_order p))
unfolding integers
order-multiplied z p = normal_of-same integers tree_cmp-IsStrict (multiplied z p) (multiplied z (in_order p)) (λ k. at-multiplied k z p ∙ ap (λ y. z *ℤ y) (sym (map_of p k)) ∙ sym (at-multiplied k z (in_order p)))

-- ---- normal lists
-- the product of two numbers other than 0 isn't 0
positive_abs : (z : ℤ) → (z ≡ pos 0 → ⊥) → 0 < unsigned_abs z
positive_abs (pos zero) h = absurd (h refl)
positive_abs (pos (suc n)) h = omega arith
positive_abs (negsuc n) h = omega arith

not_nil : (y z : ℤ) → (y ≡ pos 0 → ⊥) → (z ≡ pos 0 → ⊥) → y *ℤ z ≡ pos 0 → ⊥
not_nil y z h i e =
    let p : 0 < unsigned_abs y * unsigned_abs z = positive_product (unsigned_abs y) (unsigned_abs z) (positive_abs y h) (positive_abs z i) in
    let q : unsigned_abs y * unsigned_abs z ≡ 0 = sym (unsigned_abs-mul y z) ∙ ap unsigned_abs e in
    omega (arith, p, q)

before-multiplied : (a : Tree) (z : ℤ) (p : List (Tree × ℤ)) → IsBefore tree_cmp a p → IsBefore tree_cmp a (multiplied z p)
before-multiplied a z [] h = tt
before-multiplied a z (t ∷ p) h = (h.0, before-multiplied a z p h.1)

multiplied-IsNormal : (z : ℤ) (p : List (Tree × ℤ)) → (z ≡ pos 0 → ⊥) → IsNormal integers tree_cmp p → IsNormal integers tree_cmp (multiplied z p)
unfolding integers
multiplied-IsNormal z [] h n = tt
multiplied-IsNormal z (t ∷ p) h n = (before-multiplied t.0 z p n.0, not_nil z t.1 h n.1, multiplied-IsNormal z p h n.2)

before-negated : (a : Tree) (p : List (Tree × ℤ)) → IsBefore tree_cmp a p → IsBefore tree_cmp a (negated integers p)
before-negated a [] h = tt
before-negated a (t ∷ p) h = (h.0, before-negated a p h.1)

minus_zero : (z : ℤ) → neg_ℤ z ≡ pos 0 → z ≡ pos 0
minus_zero z e = omega (arith, ints, e)

negated-IsNormal : (p : List (Tree × ℤ)) → IsNormal integers tree_cmp p → IsNormal integers tree_cmp (negated integers p)
unfolding integers
negated-IsNormal [] n = tt
negated-IsNormal (t ∷ p) n = (before-negated t.0 p n.0, λ e. n.1 (minus_zero t.1 e), negated-IsNormal p n.2)

order_normal : (p : List (Tree × ℤ)) → IsNormal integers tree_cmp (in_order p)
order_normal p = normal_of-IsNormal integers tree_cmp-IsStrict p

order_itself : (p : List (Tree × ℤ)) → IsNormal integers tree_cmp p → in_order p ≡ p
order_itself p n = normal_of-itself integers tree_cmp-IsStrict p n

-- each term of the one list put into the other
abbrev pub merged : List (Tree × ℤ) → List (Tree × ℤ) → List (Tree × ℤ)
merged [] q = q
merged (t ∷ p) q = insert_term integers tree_cmp t (merged p q)

order-merged : (p q : List (Tree × ℤ)) → in_order (p ++ q) ≡ merged p (in_order q)
unfolding normal_of
order-merged [] q = refl
order-merged (t ∷ p) q = ap (insert_term integers tree_cmp t) (order-merged p q)

-- a normal list is told by what it gives at each atom
pub is_in_order : (n p : List (Tree × ℤ)) → IsNormal integers tree_cmp n → ((k : Tree) → at k n ≡ at k p) → n ≡ in_order p
is_in_order n p h m = is_normal_of integers tree_cmp-IsStrict n p h m

pub is_merged : (n p q : List (Tree × ℤ)) → IsNormal integers tree_cmp n → IsNormal integers tree_cmp q → ((k : Tree) → at k n ≡ at k p +ℤ at k q) → n ≡ merged p q
unfolding integers
is_merged n p q h i m = is_in_order n (p ++ q) h (λ k. m k ∙ sym (at-append k p q)) ∙ order-merged p q ∙ ap (merged p) (order_itself q i)

pub order-sum : (p q : List (Tree × ℤ)) → in_order (p ++ q) ≡ merged (in_order p) (in_order q)
order-sum p q = order-append p q ∙ order-merged (in_order p) (in_order q) ∙ ap (merged (in_order p)) (order_itself (in_order q) (order_normal q))

pub order-minus : (p : List (Tree × ℤ)) → in_order (negated integers p) ≡ negated integers (in_order p)
order-minus p = order-negated p ∙ order_itself (negated integers (in_order p)) (negated-IsNormal (in_order p) (order_normal p))

pub order-times : (z : ℤ) (p : List (Tree × ℤ)) → (z ≡ pos 0 → ⊥) → in_order (multiplied z p) ≡ multiplied z (in_order p)
order-times z p h = order-multiplied z p ∙ order_itself (multiplied z (in_order p)) (multiplied-IsNormal z (in_order p) h (order_normal p))

pub order-zero : (p : List (Tree × ℤ)) → in_order (multiplied (pos 0) p) ≡ []
unfolding integers
order-zero p =
    normal_of-same integers tree_cmp-IsStrict (multiplied (pos 0) p) [] (λ k. at-multiplied k (pos 0) p ∙ (let e : pos 0 *ℤ at k p ≡ pos 0 = omega (arith, ints) in e))
    ∙ order_itself [] tt

-- ---- the combinations of trees
module _ (value : Tree → Option ℤ) (s : Sort) where
  pub combination-sum : (a b : Tree) → combination value (binary Add s a b) ≡ merged (combination value a) (combination value b)
  combination-sum a b = order-sum (terms value a) (terms value b)

  pub combination-difference : (a b : Tree) → combination value (binary Sub s a b) ≡ merged (combination value a) (negated integers (combination value b))
  combination-difference a b = order-sum (terms value a) (negated integers (terms value b)) ∙ ap (merged (combination value a)) (order-minus (terms value b))

  pub combination-negation : (a : Tree) → combination value (App Neg s (Cons a Nil)) ≡ negated integers (combination value a)
  combination-negation a = order-minus (terms value a)

  pub combination-multiple : (k a : Tree) (z : ℤ) → value k ≡ Some z → (z ≡ pos 0 → ⊥) → combination value (binary Nsmul s k a) ≡ multiplied z (combination value a)
  combination-multiple k a z e h = ap (λ o. in_order (multiple_or (binary Nsmul s k a) (terms value a) o)) e ∙ order-times z (terms value a) h

  pub combination-zero : (k a : Tree) → value k ≡ Some (pos 0) → combination value (binary Nsmul s k a) ≡ []
  combination-zero k a e = ap (λ o. in_order (multiple_or (binary Nsmul s k a) (terms value a) o)) e ∙ order-zero (terms value a)

  pub combination-integer_multiple : (k a : Tree) (z : ℤ) → value k ≡ Some z → (z ≡ pos 0 → ⊥) → combination value (binary Zsmul s k a) ≡ multiplied z (combination value a)
  combination-integer_multiple k a z e h = ap (λ o. in_order (multiple_or (binary Zsmul s k a) (terms value a) o)) e ∙ order-times z (terms value a) h

  pub combination-integer_zero : (k a : Tree) → value k ≡ Some (pos 0) → combination value (binary Zsmul s k a) ≡ []
  combination-integer_zero k a e = ap (λ o. in_order (multiple_or (binary Zsmul s k a) (terms value a) o)) e ∙ order-zero (terms value a)

  pub combination-atom : (a : Tree) → terms value a ≡ atom a → combination value a ≡ atom a
  unfolding integers
  combination-atom a e = ap in_order e ∙ order_itself (atom a) (tt, one_zero, tt)
