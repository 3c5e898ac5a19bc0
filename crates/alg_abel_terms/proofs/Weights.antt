-- The absolute values of the coefficients of a tree sum to at most its weight.
use Rattle.std.proofs.Common.{◌≡◌, ℕ, zero, ◌+◌, ◌*◌, ◌≤◌, List, [], ◌∷◌, ◌++◌, Bool, true, false, cond, refl, ap, ap₂, ◌∙◌, arith, Option, Some, None, Ordering, Less, Equal, Greater, ℤ, neg_ℤ, ◌+ℤ◌}
use Rattle.std.specs.Prelude.{unsigned_abs}
use Rattle.std.specs.Ordering.{match_ordering}
use Rattle.std.proofs.lemmas.Int.{ints, unsigned_abs-mul}
use Rattle.alg_terms.specs.declared.symbols.Sym.TheVariants.{Add, Neg, Sub, Nsmul, Zsmul}
use Rattle.alg_terms.specs.Tree.{Tree, Lit, App, Nil, Cons}
use Rattle.alg_terms.specs.Order.{tree_cmp}
use Rattle.alg_sums.specs.Sum.{negated, insert_term, normal_of}
use Rattle.alg_sums.specs.Integers.{integers}
use Rattle.alg_abel_terms.specs.Combination.{multiplied, multiple_or, terms, combination}
use Rattle.alg_abel_terms.specs.Weight.{times_or, weight, total_size}

abs_plus : (a b : ℤ) → unsigned_abs (a +ℤ b) ≤ unsigned_abs a + unsigned_abs b
abs_plus a b = omega (arith, ints)

abs_minus : (z : ℤ) → unsigned_abs (neg_ℤ z) ≡ unsigned_abs z
abs_minus z = omega (arith, ints)

size-append : (p q : List (Tree × ℤ)) → total_size (p ++ q) ≡ total_size p + total_size q
size-append [] q = omega arith
size-append (t ∷ p) q = omega (arith, size-append p q)

size-negated : (p : List (Tree × ℤ)) → total_size (negated integers p) ≡ total_size p
unfolding integers
size-negated [] = refl
size-negated (t ∷ p) = ap₂ (λ m n. m + n) (abs_minus t.1) (size-negated p)

spread : (k m n : ℕ) → k * m + k * n ≡ k * (m + n)
spread k m n = omega arith

size-multiplied : (k : ℤ) (p : List (Tree × ℤ)) → total_size (multiplied k p) ≡ unsigned_abs k * total_size p
size-multiplied k [] = omega arith
size-multiplied k (t ∷ p) = ap₂ (λ m n. m + n) (unsigned_abs-mul k t.1) (size-multiplied k p) ∙ spread (unsigned_abs k) (unsigned_abs t.1) (total_size p)

-- ---- put in order
first_size : (t : Tree × ℤ) (us : List (Tree × ℤ)) (b : Bool) → total_size (cond b us (t ∷ us)) ≤ unsigned_abs t.1 + total_size us
first_size t us true = omega arith
first_size t us false = omega arith

insert_size_step : (t u : Tree × ℤ) (us v : List (Tree × ℤ)) (o : Ordering) → total_size v ≤ unsigned_abs t.1 + total_size us → total_size (match_ordering o (cond (integers.is_nil t.1) (u ∷ us) (t ∷ u ∷ us)) (cond (integers.is_nil (t.1 +ℤ u.1)) us ((u.0, t.1 +ℤ u.1) ∷ us)) (u ∷ v)) ≤ unsigned_abs t.1 + total_size (u ∷ us)
insert_size_step t u us v Less h = first_size t (u ∷ us) (integers.is_nil t.1)
insert_size_step t u us v Equal h = omega (arith, first_size (u.0, t.1 +ℤ u.1) us (integers.is_nil (t.1 +ℤ u.1)), abs_plus t.1 u.1)
insert_size_step t u us v Greater h = omega (arith, h)

insert_size : (t : Tree × ℤ) (us : List (Tree × ℤ)) → total_size (insert_term integers tree_cmp t us) ≤ unsigned_abs t.1 + total_size us
unfolding integers
insert_size t [] = first_size t [] (integers.is_nil t.1)
insert_size t (u ∷ us) = insert_size_step t u us (insert_term integers tree_cmp t us) (tree_cmp t.0 u.0) (insert_size t us)

pub size-normal_of : (p : List (Tree × ℤ)) → total_size (normal_of integers tree_cmp p) ≤ total_size p
unfolding normal_of
size-normal_of [] = omega arith
size-normal_of (t ∷ p) = omega (arith, insert_size t (normal_of integers tree_cmp p), size-normal_of p)

module _ (value : Tree → Option ℤ) where
  size_multiple : (a : Tree) (p : List (Tree × ℤ)) (n : ℕ) (o : Option ℤ) → total_size p ≡ n → total_size (multiple_or a p o) ≡ times_or o n
  size_multiple a p n (Some k) h = size-multiplied k p ∙ ap (λ m. unsigned_abs k * m) h
  size_multiple a p n None h = refl

  -- before equal atoms are joined it is the weight
  pub size-terms : (t : Tree) → total_size (terms value t) ≡ weight value t
  size-terms (Lit s zero) = refl
  size-terms (App Add s (Cons a (Cons b Nil))) = size-append (terms value a) (terms value b) ∙ ap₂ (λ m n. m + n) (size-terms a) (size-terms b)
  size-terms (App Sub s (Cons a (Cons b Nil))) = size-append (terms value a) (negated integers (terms value b)) ∙ ap₂ (λ m n. m + n) (size-terms a) (size-negated (terms value b) ∙ size-terms b)
  size-terms (App Neg s (Cons a Nil)) = size-negated (terms value a) ∙ size-terms a
  size-terms (App Nsmul s (Cons k (Cons a Nil))) = size_multiple (App Nsmul s (Cons k (Cons a Nil))) (terms value a) (weight value a) (value k) (size-terms a)
  size-terms (App Zsmul s (Cons k (Cons a Nil))) = size_multiple (App Zsmul s (Cons k (Cons a Nil))) (terms value a) (weight value a) (value k) (size-terms a)
  size-terms t = refl

  pub combination_within : (t : Tree) → total_size (combination value t) ≤ weight value t
  combination_within t = omega (arith, size-normal_of (terms value t), size-terms t)
