-- How long products, inverses and powers of syllables are, and how large their exponents.
use Rattle.std.proofs.Common.{◌≡◌, ℕ, zero, suc, ◌+◌, ◌*◌, ◌≤◌, Bool, true, false, cond, List, [], ◌∷◌, ◌++◌, length, arith, ℤ, pos, neg_ℤ, ◌+ℤ◌, ◌*ℤ◌, negsuc}
use Rattle.std.specs.Prelude.{unsigned_abs}
use Rattle.std.specs.Ordering.{int_eq}
use Rattle.std.proofs.lemmas.Int.{ints, unsigned_abs-mul}
use Rattle.alg_terms.specs.Tree.{Tree}
use Rattle.alg_terms.specs.Order.{tree_same}
use Rattle.alg_group_words.specs.Syllables.{kept, push, joined, joined_inverse, repeated_join, raised_join, raised_runs, total_size}

abs_plus : (a b : ℤ) → unsigned_abs (a +ℤ b) ≤ unsigned_abs a + unsigned_abs b
abs_plus a b = omega (arith, ints)

abs_minus : (z : ℤ) → unsigned_abs (neg_ℤ z) ≡ unsigned_abs z
abs_minus z = omega (arith, ints)

kept_size : (s : Tree × ℤ) (ss : List (Tree × ℤ)) (b : Bool) → total_size (cond b ss (s ∷ ss)) ≤ unsigned_abs s.1 + total_size ss
kept_size s ss true = omega arith
kept_size s ss false = omega arith

kept_length : (s : Tree × ℤ) (ss : List (Tree × ℤ)) (b : Bool) → length (cond b ss (s ∷ ss)) ≤ suc (length ss)
kept_length s ss true = omega arith
kept_length s ss false = omega arith

push_size : (t s : Tree × ℤ) (b : Bool) → total_size (cond b (kept (t.0, t.1 +ℤ s.1) []) (t ∷ kept s [])) ≤ total_size (t ∷ []) + unsigned_abs s.1
push_size t s true = omega (arith, kept_size (t.0, t.1 +ℤ s.1) [] (int_eq (t.1 +ℤ s.1) (pos 0)), abs_plus t.1 s.1)
push_size t s false = omega (arith, kept_size s [] (int_eq s.1 (pos 0)))

pub size-push : (ss : List (Tree × ℤ)) (s : Tree × ℤ) → total_size (push ss s) ≤ total_size ss + unsigned_abs s.1
size-push [] s = omega (arith, kept_size s [] (int_eq s.1 (pos 0)))
size-push (t ∷ []) s = push_size t s (tree_same t.0 s.0)
size-push (t ∷ u ∷ ts) s = omega (arith, size-push (u ∷ ts) s)

push_length : (t s : Tree × ℤ) (b : Bool) → length (cond b (kept (t.0, t.1 +ℤ s.1) []) (t ∷ kept s [])) ≤ 2
push_length t s true = omega (arith, kept_length (t.0, t.1 +ℤ s.1) [] (int_eq (t.1 +ℤ s.1) (pos 0)))
push_length t s false = omega (arith, kept_length s [] (int_eq s.1 (pos 0)))

pub length-push : (ss : List (Tree × ℤ)) (s : Tree × ℤ) → length (push ss s) ≤ suc (length ss)
length-push [] s = kept_length s [] (int_eq s.1 (pos 0))
length-push (t ∷ []) s = push_length t s (tree_same t.0 s.0)
length-push (t ∷ u ∷ ts) s = omega (arith, length-push (u ∷ ts) s)

pub size-joined : (ss ts : List (Tree × ℤ)) → total_size (joined ss ts) ≤ total_size ss + total_size ts
unfolding joined
size-joined ss [] = omega arith
size-joined ss (t ∷ ts) = omega (arith, size-joined (push ss t) ts, size-push ss t)

pub length-joined : (ss ts : List (Tree × ℤ)) → length (joined ss ts) ≤ length ss + length ts
unfolding joined
length-joined ss [] = omega arith
length-joined ss (t ∷ ts) = omega (arith, length-joined (push ss t) ts, length-push ss t)

size-append : (ss ts : List (Tree × ℤ)) → total_size (ss ++ ts) ≡ total_size ss + total_size ts
size-append [] ts = omega arith
size-append (s ∷ ss) ts = omega (arith, size-append ss ts)

-- also where only the syllables ts of a list are pushed so far
pub size-so_far : (ss ts us : List (Tree × ℤ)) → total_size (joined ss ts) ≤ total_size ss + total_size (ts ++ us)
size-so_far ss ts us = omega (arith, size-joined ss ts, size-append ts us)

pub size-joined_inverse : (ss ts : List (Tree × ℤ)) → total_size (joined_inverse ss ts) ≤ total_size ss + total_size ts
unfolding joined_inverse
size-joined_inverse ss [] = omega arith
size-joined_inverse ss (t ∷ ts) = omega (arith, size-push (joined_inverse ss ts) (t.0, neg_ℤ t.1), size-joined_inverse ss ts, abs_minus t.1)

pub length-joined_inverse : (ss ts : List (Tree × ℤ)) → length (joined_inverse ss ts) ≤ length ss + length ts
unfolding joined_inverse
length-joined_inverse ss [] = omega arith
length-joined_inverse ss (t ∷ ts) = omega (arith, length-push (joined_inverse ss ts) (t.0, neg_ℤ t.1), length-joined_inverse ss ts)

-- also of each step of a power
pub size-repeated : (ss : List (Tree × ℤ)) (n : ℕ) → total_size (repeated_join ss n) ≤ n * total_size ss
size-repeated ss zero = omega arith
size-repeated ss (suc n) = omega (arith, size-joined (repeated_join ss n) ss, size-repeated ss n)

pub length-repeated : (ss : List (Tree × ℤ)) (n : ℕ) → length (repeated_join ss n) ≤ n * length ss
length-repeated ss zero = omega arith
length-repeated ss (suc n) = omega (arith, length-joined (repeated_join ss n) ss, length-repeated ss n)

scaled_le : (n x y : ℕ) → x ≤ y → n * x ≤ n * y
scaled_le zero x y h = omega arith
scaled_le (suc n) x y h = omega (arith, scaled_le n x y h)

join_size : (ss : List (Tree × ℤ)) (k : ℤ) → total_size (raised_join ss k) ≤ unsigned_abs k * total_size ss
join_size ss (pos n) = size-repeated ss n
join_size ss (negsuc n) = omega (arith, size-repeated (joined_inverse [] ss) (suc n), scaled_le (suc n) (total_size (joined_inverse [] ss)) (total_size ss) (omega (arith, size-joined_inverse [] ss)))

join_length : (ss : List (Tree × ℤ)) (k : ℤ) → length (raised_join ss k) ≤ unsigned_abs k * length ss
join_length ss (pos n) = length-repeated ss n
join_length ss (negsuc n) = omega (arith, length-repeated (joined_inverse [] ss) (suc n), scaled_le (suc n) (length (joined_inverse [] ss)) (length ss) (omega (arith, length-joined_inverse [] ss)))

turned : (x y : ℕ) → x * y ≡ y * (x + 0)
turned x y = omega arith

-- a power's exponents sum to at most that many times the base's
pub size-raised : (ss : List (Tree × ℤ)) (k : ℤ) → total_size (raised_runs ss k) ≤ unsigned_abs k * total_size ss
unfolding raised_runs
size-raised [] k = omega arith
size-raised (s ∷ []) k = omega (arith, kept_size (s.0, s.1 *ℤ k) [] (int_eq (s.1 *ℤ k) (pos 0)), unsigned_abs-mul s.1 k, turned (unsigned_abs s.1) (unsigned_abs k))
size-raised (s ∷ t ∷ ts) k = join_size (s ∷ t ∷ ts) k

-- a power of one syllable is one at most, another has at most that many times the base's
pub length-raised_one : (s : Tree × ℤ) (k : ℤ) → length (raised_runs (s ∷ []) k) ≤ 1
unfolding raised_runs
length-raised_one s k = kept_length (s.0, s.1 *ℤ k) [] (int_eq (s.1 *ℤ k) (pos 0))

pub length-raised : (s t : Tree × ℤ) (ts : List (Tree × ℤ)) (k : ℤ) → length (raised_runs (s ∷ t ∷ ts) k) ≤ unsigned_abs k * length (s ∷ t ∷ ts)
unfolding raised_runs
length-raised s t ts k = join_length (s ∷ t ∷ ts) k
