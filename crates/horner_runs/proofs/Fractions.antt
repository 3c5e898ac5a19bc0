-- Sizes of sums of sixths of atoms.
use Rattle.std.proofs.Common.{◌≡◌, ℕ, ◌+◌, ◌*◌, ◌<◌, ◌≤◌, ℤ, arith, lit≤, mul-le-mul_right}
use Rattle.std.specs.Prelude.{unsigned_abs}
use Rattle.alg_num.specs.Fraction.{Fraction}
use Rattle.alg_num.specs.LowestTerms.{Reduces}
use Rattle.alg_sums.specs.Ratio.{Ratio}
use Rattle.alg_sums.specs.Rational.{rational}
use Rattle.alg_sums.specs.Size.{size_of}
use Rattle.alg_sums.proofs.Sizes.{size_nil}
use Rattle.alg_horner.specs.Form.{Form, constant, skip, sum, degree, shifted, only, exponent, size, cost, IsWhole}
use Rattle.alg_horner.specs.Facts.{IsNormalOf, IsSumOf, CanSum}
use Rattle.alg_horner.specs.FractionMeaning.{ratio_at}
use Rattle.alg_horner.specs.Multiplying.{CanConvolve, HasSmallProduct}
use Rattle.alg_horner.proofs.Degrees.{only-small}
use Rattle.alg_horner.proofs.Weights.{sizes_add}
use Rattle.alg_horner.proofs.Powers.{cost-times, small-whole, whole-more}
use Rattle.alg_horner.proofs.FractionValues.{size_over}

pub sixths_size : (z : ℤ) (p : Fraction) → Reduces (record { numerator = z; denominator = 6 }) p → size_of rational 6 (ratio_at p) ≤ unsigned_abs z
sixths_size z p h =
    let e = size_over (record { numerator = z; denominator = 6 }) p (let o : 0 < 6 = omega arith in o) h in
    omega (arith, e)

alone_size : (c : Ratio) (i o : Form Ratio) → i ≡ constant c → o ≡ constant rational.nil → size rational 6 (sum i 1 o) ≡ size_of rational 6 c
alone_size c i o e f = rw (e, f) (omega (arith, size_nil rational 6))

alone_degree : (v : ℕ → ℕ) (c : Ratio) (i o : Form Ratio) → i ≡ constant c → o ≡ constant rational.nil → degree v (sum i 1 o) ≡ v 0
alone_degree v c i o e f = rw (e, f) (omega arith)

pub part_size : (k : ℕ) (z : ℤ) (c : Ratio) (i o a h : Form Ratio) → unsigned_abs z ≤ 100 → size_of rational 6 c ≤ unsigned_abs z → i ≡ constant c → o ≡ constant rational.nil → IsNormalOf rational (sum i 1 o) a → IsNormalOf rational (skip k a) h → size rational 6 h ≤ 100
part_size k z c i o a h l s e f m n = omega (arith, l, s, alone_size c i o e f, m.weight (size_of rational 6) (size_nil rational 6), n.weight (size_of rational 6) (size_nil rational 6))

pub part_exponents : (k : ℕ) (c : Ratio) (i o a h : Form Ratio) → i ≡ constant c → o ≡ constant rational.nil → IsNormalOf rational (sum i 1 o) a → IsNormalOf rational (skip k a) h → (n : ℕ) → exponent n h ≤ 1
part_exponents k c i o a h e f m l n = omega (arith, alone_degree (shifted k (only n)) c i o e f, m.degree (shifted k (only n)), l.degree (only n), only-small n (k + 0))

pub can_add_parts : (f g : Form Ratio) → size rational 6 f ≤ 100 → size rational 6 g ≤ 100 → CanSum rational f g
can_add_parts f g h k = record { denominator = 6; positive = omega arith; bounded = lit≤ tt; small = omega (arith, h, k) }

pub parts_size : (f g s : Form Ratio) → size rational 6 f ≤ 100 → size rational 6 g ≤ 100 → IsSumOf rational f g s → size rational 6 s ≤ 200
parts_size f g s h k m = let x = m.weight (size_of rational 6) (sizes_add rational 6) (omega (arith, h, k)) in omega (arith, h, k, x)

pub parts_exponents : (f g s : Form Ratio) → ((n : ℕ) → exponent n f ≤ 1) → ((n : ℕ) → exponent n g ≤ 1) → IsSumOf rational f g s → (n : ℕ) → exponent n s ≤ 1
parts_exponents f g s h k m n = omega (arith, h n, k n, m.degree (only n))

pub can_multiply_parts : (f g : Form Ratio) → size rational 6 f ≤ 200 → size rational 6 g ≤ 200 → CanConvolve rational f g
can_multiply_parts f g h k =
    let x : IsWhole rational 6 f = small-whole rational 6 f (omega (arith, h)) in
    let y : IsWhole rational 6 g = small-whole rational 6 g (omega (arith, k)) in
    let c : cost rational (size_of rational 36) f g ≡ size rational 6 f * size rational 6 g = cost-times rational 6 6 f g x y in
    let l : size rational 6 f * size rational 6 g ≤ 200 * size rational 6 g = mul-le-mul_right (size rational 6 g) h in
    record { denominator = 36; positive = omega arith; bounded = lit≤ tt; first = whole-more rational 6 6 f x; second = whole-more rational 6 6 g y; small = omega (arith, c, l, k) }

pub small_multiply_parts : (f g : Form Ratio) → ((n : ℕ) → exponent n f ≤ 1) → ((n : ℕ) → exponent n g ≤ 1) → HasSmallProduct f g
small_multiply_parts f g h k = record { exponents = λ n. omega (arith, h n, k n) }
