-- Sizes and exponents of sums of atoms.
use Rattle.std.proofs.Common.{◌≡◌, ℕ, ◌+◌, ◌*◌, ◌<◌, ◌≤◌, ◌^◌, pos, refl, subst, arith, lit≤, mul-le-mul_right, mul-le-mul_left}
use Rattle.std.specs.Prelude.{max}
use Rattle.std.proofs.Math.Nat.{pow-le-pow_left}
use Rattle.alg_num.proofs.Powers.{one-pow}
use Rattle.alg_sums.specs.Ratio.{Ratio}
use Rattle.alg_sums.specs.RatioRing.{whole_number}
use Rattle.alg_sums.specs.Rational.{rational}
use Rattle.alg_sums.specs.Size.{size_of}
use Rattle.alg_sums.proofs.Sizes.{size_nil, size_one}
use Rattle.alg_horner.specs.Form.{Form, constant, skip, sum, degree, shifted, only, exponent, size, IsWhole}
use Rattle.alg_horner.specs.Facts.{IsNormalOf, IsSumOf, CanSum}
use Rattle.alg_horner.specs.Multiplying.{CanConvolve, HasSmallProduct}
use Rattle.alg_horner.specs.Powers.{CanPower, HasSmallPower, IsPowerOf}
use Rattle.alg_horner.proofs.Degrees.{only-small}
use Rattle.alg_horner.proofs.Weights.{sizes_add}
use Rattle.alg_horner.proofs.Powers.{cost-times, small-whole}
use Rattle.alg_horner.proofs.WholeNumbers.{size_is}

abbrev atom_form : ℕ → Form Ratio
atom_form k = skip k (sum (constant rational.one) 1 (constant rational.nil))

atom_size : (k : ℕ) (a : Form Ratio) → IsNormalOf rational (atom_form k) a → size rational 1 a ≤ 1
atom_size k a n = omega (arith, n.weight (size_of rational 1) (size_nil rational 1), size_one rational, size_nil rational 1)

pub can_add_atom : (k : ℕ) (f a : Form Ratio) → size rational 1 f ≤ 2 ^ 20 → IsNormalOf rational (atom_form k) a → CanSum rational f a
can_add_atom k f a h n = record { denominator = 1; positive = omega arith; bounded = lit≤ tt; small = omega (arith, h, atom_size k a n) }

pub atom_added : (k : ℕ) (f a s : Form Ratio) → size rational 1 f ≤ 2 ^ 20 → IsNormalOf rational (atom_form k) a → IsSumOf rational f a s → size rational 1 s ≤ size rational 1 f + 1
atom_added k f a s h n m =
    let x = atom_size k a n in
    let y = m.weight (size_of rational 1) (sizes_add rational 1) (omega (arith, h, x)) in
    omega (arith, x, y)

weight_small : (k n : ℕ) → shifted k (only n) 0 ≤ 1
weight_small k n = only-small n (k + 0)

pub atom_exponents : (k : ℕ) (f a s : Form Ratio) → IsNormalOf rational (atom_form k) a → IsSumOf rational f a s → (n : ℕ) → exponent n s ≤ max (exponent n f) 1
atom_exponents k f a s h m n = omega (arith, m.degree (only n), h.degree (only n), weight_small k n)

pub none_size : (f : Form Ratio) → f ≡ constant rational.nil → size rational 1 f ≤ 0
none_size f e = rw e (omega (arith, size_nil rational 1))

pub none_exponents : (f : Form Ratio) → f ≡ constant rational.nil → (n : ℕ) → exponent n f ≤ 1
none_exponents f e n = rw e (omega arith)

-- powers
pub can_raise : (f : Form Ratio) (n : ℕ) → size rational 1 f ≤ 2 ^ 20 → size rational 1 f ^ n ≤ 2 ^ 126 → CanPower rational f n
can_raise f n h k = record {
  denominator = 1;
  positive = omega arith;
  bounded = rw (one-pow n) (lit≤ tt);
  whole = small-whole rational 1 f (omega (arith, h));
  small = k;
}

pub small_raise : (f : Form Ratio) (n : ℕ) → n < 2 ^ 32 → ((k : ℕ) → exponent k f ≤ 1) → HasSmallPower f n
small_raise f n h e = record {
  exponents = λ k.
      let x : n * exponent k f ≤ n * 1 = mul-le-mul_left n (e k) in
      omega (arith, x, h);
}

pub power_small : (f : Form Ratio) (count n : ℕ) → size rational 1 f ≤ count → count ^ n ≤ 2 ^ 126 → size rational 1 f ^ n ≤ 2 ^ 126
power_small f count n h k = omega (arith, pow-le-pow_left h n, k)

pub raised_size : (f h : Form Ratio) (n : ℕ) → size rational 1 f ≤ 2 ^ 20 → size rational 1 f ^ n ≤ 2 ^ 126 → IsPowerOf rational f n h → size rational 1 h ≤ size rational 1 f ^ n
raised_size f h n l k m = subst (λ d. size rational d h ≤ size rational 1 f ^ n) (one-pow n) (m.size 1 (small-whole rational 1 f (omega (arith, l))) k)

pub raised_exponents : (f h : Form Ratio) (n : ℕ) → ((k : ℕ) → exponent k f ≤ 1) → IsPowerOf rational f n h → (k : ℕ) → exponent k h ≤ n
raised_exponents f h n l m k =
    let x : n * exponent k f ≤ n * 1 = mul-le-mul_left n (l k) in
    omega (arith, x, m.degree (only k))

pub root_size : (f h : Form Ratio) (count n : ℕ) → size rational 1 f ≤ count → count ^ n ≤ 2 ^ 21 → size rational 1 h ≤ size rational 1 f ^ n → size rational 1 h ≤ 2 ^ 21
root_size f h count n l k s = omega (arith, s, pow-le-pow_left l n, k)

-- high forms
pub size_number_one : size_of rational 1 (whole_number (pos 1)) ≡ 1
size_number_one = size_is 1 (pos 1)

one_size : (o : Form Ratio) → o ≡ constant (whole_number (pos 1)) → size rational 1 o ≡ 1
one_size o e = rw e size_number_one

pub grown : (f o h : Form Ratio) (i : ℕ) → o ≡ constant (whole_number (pos 1)) → IsNormalOf rational (sum f 1 o) h → size rational 1 f ≤ i + 1 → size rational 1 h ≤ i + 1 + 1
grown f o h i e n l = omega (arith, n.weight (size_of rational 1) (size_nil rational 1), one_size o e, l)

one_degree : (v : ℕ → ℕ) (o : Form Ratio) → o ≡ constant (whole_number (pos 1)) → degree v o ≡ 0
one_degree v o e = rw e refl

pub grown_exponents : (f o h : Form Ratio) (i : ℕ) → o ≡ constant (whole_number (pos 1)) → IsNormalOf rational (sum f 1 o) h → ((n : ℕ) → exponent n f ≤ i) → (n : ℕ) → exponent n h ≤ i + 1
grown_exponents f o h i e m l n = omega (arith, m.degree (only n), one_degree (shifted 1 (only n)) o e, l n, only-small n 0)

pub start_size : (f : Form Ratio) → f ≡ constant (whole_number (pos 1)) → size rational 1 f ≤ 1
start_size f e = omega (arith, one_size f e)

pub start_exponents : (f : Form Ratio) → f ≡ constant (whole_number (pos 1)) → (n : ℕ) → exponent n f ≤ 0
start_exponents f e n = rw e (omega arith)

pub can_double : (f : Form Ratio) → size rational 1 f ≤ 2 ^ 21 → CanSum rational f f
can_double f h = record { denominator = 1; positive = omega arith; bounded = lit≤ tt; small = omega (arith, h) }

pub can_multiply : (f g : Form Ratio) → size rational 1 f ≤ 2 ^ 21 → size rational 1 g ≤ 2 ^ 21 → CanConvolve rational f g
can_multiply f g h k =
    let x : IsWhole rational 1 f = small-whole rational 1 f (omega (arith, h)) in
    let y : IsWhole rational 1 g = small-whole rational 1 g (omega (arith, k)) in
    let c = cost-times rational 1 1 f g x y in
    let l : size rational 1 f * size rational 1 g ≤ 2 ^ 21 * size rational 1 g = mul-le-mul_right (size rational 1 g) h in
    record { denominator = 1; positive = omega arith; bounded = lit≤ tt; first = x; second = y; small = omega (arith, c, l, k) }

pub small_multiply : (f g : Form Ratio) → ((n : ℕ) → exponent n f ≤ 2 ^ 20) → ((n : ℕ) → exponent n g ≤ 2 ^ 20) → HasSmallProduct f g
small_multiply f g h k = record { exponents = λ n. omega (arith, h n, k n) }
