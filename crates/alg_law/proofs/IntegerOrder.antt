-- Laws of the order of the integers, of absolute values, and of what is not 0.
use Rattle.std.proofs.Common.{◌≡◌, ◌≢◌, ℕ, zero, suc, ◌+◌, ◌*◌, Bool, true, false, cond, ℤ, pos, negsuc, ◌+ℤ◌, ◌*ℤ◌, ◌-ℤ◌, neg_ℤ, arith, refl, sym, subst}
use Rattle.std.specs.Prelude.{◌<ℤ◌, ◌≤ℤ◌, unsigned_abs}
use Rattle.std.specs.Int.{int_pow}
use Rattle.std.proofs.lemmas.Int.{ints, by_lt_z}
use Rattle.alg_law.proofs.IntegerLaws.{difference_times}
use Rattle.alg_law.proofs.IntegerPowers.{int_pow-zero, int_pow-suc}
use Rattle.alg_law.specs.IntegerValues.{natural}

pub product_above : (a b : ℤ) → pos 0 <ℤ a → pos 0 <ℤ b → pos 0 <ℤ (a *ℤ b)
product_above (pos zero) b h k = absurd (omega (arith, ints, h))
product_above (pos (suc a)) (pos zero) h k = absurd (omega (arith, ints, k))
product_above (pos (suc a)) (pos (suc b)) h k = omega (arith, ints)
product_above (pos (suc a)) (negsuc b) h k = absurd (omega (arith, ints, k))
product_above (negsuc a) b h k = absurd (omega (arith, ints, h))

pub product_not_below : (a b : ℤ) → pos 0 ≤ℤ a → pos 0 ≤ℤ b → pos 0 ≤ℤ (a *ℤ b)
product_not_below (pos a) (pos b) h k = omega (arith, ints)
product_not_below (pos a) (negsuc b) h k = absurd (omega (arith, ints, k))
product_not_below (negsuc a) b h k = absurd (omega (arith, ints, h))

pub square_not_below : (a : ℤ) → pos 0 ≤ℤ (a *ℤ a)
square_not_below (pos a) = omega (arith, ints)
square_not_below (negsuc a) = omega (arith, ints)

pub product_nonzero : (a b : ℤ) → a ≢ pos 0 → b ≢ pos 0 → a *ℤ b ≢ pos 0
product_nonzero (pos zero) b h k e = h refl
product_nonzero (pos (suc a)) (pos zero) h k e = k refl
product_nonzero (pos (suc a)) (pos (suc b)) h k e = omega (arith, ints, e)
product_nonzero (pos (suc a)) (negsuc b) h k e = omega (arith, ints, e)
product_nonzero (negsuc a) (pos zero) h k e = k refl
product_nonzero (negsuc a) (pos (suc b)) h k e = omega (arith, ints, e)
product_nonzero (negsuc a) (negsuc b) h k e = omega (arith, ints, e)

less_apart : (p q d : ℤ) → d ≡ q -ℤ p → pos 0 <ℤ d → p <ℤ q
less_apart p q d e h = omega (arith, ints)

at_most_apart : (p q d : ℤ) → d ≡ q -ℤ p → pos 0 ≤ℤ d → p ≤ℤ q
at_most_apart p q d e h = omega (arith, ints)

pub less_times : (a b c : ℤ) → a <ℤ b → pos 0 <ℤ c → (a *ℤ c) <ℤ (b *ℤ c)
less_times a b c h k = less_apart (a *ℤ c) (b *ℤ c) ((b -ℤ a) *ℤ c) (difference_times b a c) (product_above (b -ℤ a) c (omega (arith, ints)) k)

pub at_most_times : (a b c : ℤ) → a ≤ℤ b → pos 0 ≤ℤ c → (a *ℤ c) ≤ℤ (b *ℤ c)
at_most_times a b c h k = at_most_apart (a *ℤ c) (b *ℤ c) ((b -ℤ a) *ℤ c) (difference_times b a c) (product_not_below (b -ℤ a) c (omega (arith, ints)) k)

pub one_above : pos 0 <ℤ pos 1
one_above = omega (arith, ints)

one_not_below : pos 0 ≤ℤ pos 1
one_not_below = omega (arith, ints)

one_nonzero : pos 1 ≢ pos 0
one_nonzero e = omega (arith, ints, e)

pub power_above : (a : ℤ) (n : ℕ) → pos 0 <ℤ a → pos 0 <ℤ int_pow a n
power_above a zero h = subst (λ z. pos 0 <ℤ z) (sym (int_pow-zero a)) one_above
power_above a (suc n) h = subst (λ z. pos 0 <ℤ z) (sym (int_pow-suc a n)) (product_above (int_pow a n) a (power_above a n h) h)

pub power_not_below : (a : ℤ) (n : ℕ) → pos 0 ≤ℤ a → pos 0 ≤ℤ int_pow a n
power_not_below a zero h = subst (λ z. pos 0 ≤ℤ z) (sym (int_pow-zero a)) one_not_below
power_not_below a (suc n) h = subst (λ z. pos 0 ≤ℤ z) (sym (int_pow-suc a n)) (product_not_below (int_pow a n) a (power_not_below a n h) h)

pub power_nonzero : (a : ℤ) (n : ℕ) → a ≢ pos 0 → int_pow a n ≢ pos 0
power_nonzero a zero h = subst (λ z. z ≢ pos 0) (sym (int_pow-zero a)) one_nonzero
power_nonzero a (suc n) h = subst (λ z. z ≢ pos 0) (sym (int_pow-suc a n)) (product_nonzero (int_pow a n) a (power_nonzero a n h) h)

pub abs-same : (a : ℤ) → pos 0 ≤ℤ a → pos (unsigned_abs a) ≡ a
abs-same (pos a) h = refl
abs-same (negsuc a) h = absurd (omega (arith, ints, h))

pub abs-opposite : (a : ℤ) → a ≤ℤ pos 0 → pos (unsigned_abs a) ≡ neg_ℤ a
abs-opposite (pos zero) h = refl
abs-opposite (pos (suc a)) h = absurd (omega (arith, ints, h))
abs-opposite (negsuc a) h = refl

pub natural_not_below : (n : ℕ) → pos 0 ≤ℤ pos n
natural_not_below n = omega (arith, ints)

pub abs_above : (a : ℤ) → a ≢ pos 0 → pos 0 <ℤ pos (unsigned_abs a)
abs_above (pos zero) h = absurd (h refl)
abs_above (pos (suc a)) h = omega (arith, ints)
abs_above (negsuc a) h = omega (arith, ints)

pub less_unless_equal : (a b : ℤ) → a ≤ℤ b → a ≢ b → a <ℤ b
less_unless_equal a b h k = by_lt_z a b (λ l. l) (λ l. absurd (k (omega (arith, ints))))

pub not_either : (t : Bool) (a b c : ℤ) → a ≢ c → b ≢ c → cond t a b ≢ c
not_either true a b c h k = h
not_either false a b c h k = k

pub natural-+ℤ : (m n : ℤ) → pos 0 ≤ℤ m → pos 0 ≤ℤ n → natural (m +ℤ n) ≡ natural m + natural n
natural-+ℤ (pos m) (pos n) h k = refl
natural-+ℤ (pos m) (negsuc n) h k = absurd (omega (arith, ints, k))
natural-+ℤ (negsuc m) n h k = absurd (omega (arith, ints, h))

pub natural-*ℤ : (m n : ℤ) → pos 0 ≤ℤ m → pos 0 ≤ℤ n → natural (m *ℤ n) ≡ natural m * natural n
natural-*ℤ (pos m) (pos n) h k = refl
natural-*ℤ (pos m) (negsuc n) h k = absurd (omega (arith, ints, k))
natural-*ℤ (negsuc m) n h k = absurd (omega (arith, ints, h))
