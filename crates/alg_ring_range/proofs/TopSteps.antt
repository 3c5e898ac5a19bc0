-- Absolute values of sums, products and powers.
use Rattle.std.proofs.Common.{◌≡◌, ℕ, ◌+◌, ◌*◌, ◌<◌, ◌≤◌, ℤ, pos, ◌+ℤ◌, ◌*ℤ◌, arith, ap, ap₂, ◌∙◌}
use Rattle.std.specs.Prelude.{unsigned_abs, ◌^◌}
use Rattle.std.proofs.lemmas.Int.{ints, unsigned_abs-mul}
use Rattle.alg_num.proofs.PowerLaws.{unsigned_abs-int_pow}
use Rattle.alg_ring_range.proofs.TopLaws.{sum_bound, abs-add}

pub ruleset top_steps = (unsigned_abs-mul, unsigned_abs-int_pow, sum_bound, abs-add)

-- a sum by its two products
pub scaled_sum_is : (m n l r z : ℤ) (s t : ℕ) → (unsigned_abs m * s ≤ 2 ^ 126 → 0 < s → l ≡ m *ℤ pos s) → (unsigned_abs n * t ≤ 2 ^ 126 → 0 < t → r ≡ n *ℤ pos t) → (unsigned_abs l + unsigned_abs r ≤ 2 ^ 126 → z ≡ l +ℤ r)
    → unsigned_abs m * s + unsigned_abs n * t ≤ 2 ^ 126 → 0 < s → 0 < t → z ≡ m *ℤ pos s +ℤ n *ℤ pos t
scaled_sum_is m n l r z s t f g h bound i j =
    let p : l ≡ m *ℤ pos s = f (omega (arith, bound)) i in
    let q : r ≡ n *ℤ pos t = g (omega (arith, bound)) j in
    let a : unsigned_abs l ≡ unsigned_abs m * s = ap unsigned_abs p ∙ unsigned_abs-mul m (pos s) in
    let b : unsigned_abs r ≡ unsigned_abs n * t = ap unsigned_abs q ∙ unsigned_abs-mul n (pos t) in
    h (omega (arith, a, b, bound)) ∙ ap₂ (λ x y. x +ℤ y) p q
