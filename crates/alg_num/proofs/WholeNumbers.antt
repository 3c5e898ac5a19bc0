-- Whole numbers as fractions.
use Rattle.std.proofs.Common.{◌≡◌, ℕ, zero, suc, ◌/◌, ℤ, pos, negsuc, neg_ℤ, ◌+ℤ◌, ◌*ℤ◌, arith, refl, ap₂, sym, ◌∙◌, subst, lit≤}
use Rattle.std.specs.Prelude.{unsigned_abs}
use Rattle.std.specs.Int.{IsGcd}
use Rattle.std.proofs.Math.Nat.{one-dvd}
use Rattle.alg_num.proofs.IntegerLaws.{*ℤ-pos_one}
use Rattle.alg_num.proofs.LowestTermsLaws.{Reduces-unique}
use Rattle.alg_num.specs.Range.{InRange}
use Rattle.alg_num.specs.Fraction.{Fraction, NumbersInRange}
use Rattle.alg_num.specs.LowestTerms.{IsInLowestTerms, IsFracValue, Reduces, LowestInRange}
use Rattle.alg_num.specs.Sum.{sum_of}
use Rattle.alg_num.specs.LeastSum.{LeastSumInRange}
use Rattle.alg_num.specs.Product.{product_of}
use Rattle.alg_num.proofs.LeastSums.{parts_of_least, least_of_parts}

-- a whole number over 1
abbrev pub whole_fraction : ℤ → Fraction
whole_fraction z = record { numerator = z; denominator = 1 }

coprime_to_one : (n : ℕ) → IsGcd n 1 1
coprime_to_one n = (one-dvd n, one-dvd 1, λ d i j. j)

pub whole_lowest : (z : ℤ) → IsInLowestTerms (whole_fraction z)
whole_lowest z = record { positive = lit≤ tt; coprime = coprime_to_one (unsigned_abs z) }

pub whole_value : (z : ℤ) → InRange z → IsFracValue (whole_fraction z)
whole_value z h = record { lowest = whole_lowest z; small = record { top = h; bottom = lit≤ tt } }

over_one : (a b : ℤ) → a *ℤ pos (1 / 1) +ℤ b *ℤ pos (1 / 1) ≡ a +ℤ b
over_one a b = ap₂ (λ x y. x +ℤ y) (*ℤ-pos_one a) (*ℤ-pos_one b)

pub wholes_in_range : (a b : ℤ) → LeastSumInRange (whole_fraction a) (whole_fraction b) → InRange (a +ℤ b)
wholes_in_range a b h =
    let w = parts_of_least (whole_fraction a) (whole_fraction b) 1 (lit≤ tt) (lit≤ tt) (coprime_to_one 1) h in
    subst InRange (over_one a b) w.sum.total

pub whole_sum_reduces : (a b : ℤ) → Reduces (sum_of (whole_fraction a) (whole_fraction b)) (whole_fraction (a +ℤ b))
whole_sum_reduces a b = record {
  lowest = whole_lowest (a +ℤ b);
  same = *ℤ-pos_one (a *ℤ pos 1 +ℤ b *ℤ pos 1) ∙ ap₂ (λ x y. x +ℤ y) (*ℤ-pos_one a) (*ℤ-pos_one b) ∙ sym (*ℤ-pos_one (a +ℤ b));
}

pub whole_sums : (a b : ℤ) → InRange a → InRange b → InRange (a +ℤ b) → LeastSumInRange (whole_fraction a) (whole_fraction b)
whole_sums a b h i j = least_of_parts (whole_fraction a) (whole_fraction b) 1 (lit≤ tt) (lit≤ tt) (coprime_to_one 1) (record {
  sum = record {
    left = subst InRange (sym (*ℤ-pos_one a)) h;
    right = subst InRange (sym (*ℤ-pos_one b)) i;
    total = subst InRange (sym (over_one a b)) j;
  };
  bottom = lit≤ tt;
})

pub whole_product_reduces : (a b : ℤ) → Reduces (product_of (whole_fraction a) (whole_fraction b)) (whole_fraction (a *ℤ b))
whole_product_reduces a b = record { lowest = whole_lowest (a *ℤ b); same = refl }

pub product_in_range : (a b : ℤ) → LowestInRange (product_of (whole_fraction a) (whole_fraction b)) → InRange (a *ℤ b)
product_in_range a b h =
    let e : h.lowest ≡ whole_fraction (a *ℤ b) = Reduces-unique (product_of (whole_fraction a) (whole_fraction b)) h.lowest (whole_fraction (a *ℤ b)) (lit≤ tt) h.reduces (whole_product_reduces a b) in
    (subst NumbersInRange e h.small).top

pub whole_products : (a b : ℤ) → InRange (a *ℤ b) → LowestInRange (product_of (whole_fraction a) (whole_fraction b))
whole_products a b h = record { lowest = whole_fraction (a *ℤ b); reduces = whole_product_reduces a b; small = record { top = h; bottom = lit≤ tt } }

unsigned_abs-neg_ℤ : (z : ℤ) → unsigned_abs (neg_ℤ z) ≡ unsigned_abs z
unsigned_abs-neg_ℤ (pos zero) = refl
unsigned_abs-neg_ℤ (pos (suc n)) = refl
unsigned_abs-neg_ℤ (negsuc n) = refl

pub InRange-neg_ℤ : (z : ℤ) → InRange z → InRange (neg_ℤ z)
InRange-neg_ℤ z h = omega (arith, unsigned_abs-neg_ℤ z, h)

pub negative_lowest : (z : ℤ) (d : ℕ) → IsInLowestTerms (record { numerator = z; denominator = d }) → IsInLowestTerms (record { numerator = neg_ℤ z; denominator = d })
negative_lowest z d h = record { positive = h.positive; coprime = let P : ℕ → Type 0 = λ n. IsGcd n d 1 in subst P (sym (unsigned_abs-neg_ℤ z)) h.coprime }

pub negative_value : (z : ℤ) (d : ℕ) → IsFracValue (record { numerator = z; denominator = d }) → IsFracValue (record { numerator = neg_ℤ z; denominator = d })
negative_value z d h = record { lowest = negative_lowest z d h.lowest; small = record { top = InRange-neg_ℤ z h.small.top; bottom = h.small.bottom } }

-- the same of fractions whose denominators are 1
abbrev pub over : ℤ → ℕ → Fraction
over z d = record { numerator = z; denominator = d }

pub sum_past : (a b : ℤ) (d e : ℕ) → d ≡ 1 → e ≡ 1 → (InRange (a +ℤ b) → ⊥) → LeastSumInRange (over a d) (over b e) → ⊥
sum_past a b d e h i n w =
    let P : ℕ → Type 0 = λ m. LeastSumInRange (over a m) (over b e) in
    let Q : ℕ → Type 0 = λ m. LeastSumInRange (whole_fraction a) (over b m) in
    n (wholes_in_range a b (subst Q i (subst P h w)))

pub sum_within : (a b : ℤ) (d e : ℕ) → d ≡ 1 → e ≡ 1 → InRange a → InRange b → InRange (a +ℤ b) → LeastSumInRange (over a d) (over b e) × Reduces (sum_of (over a d) (over b e)) (whole_fraction (a +ℤ b))
sum_within a b d e h i j k l =
    let P : ℕ → Type 0 = λ m. LeastSumInRange (over a m) (over b e) × Reduces (sum_of (over a m) (over b e)) (whole_fraction (a +ℤ b)) in
    let Q : ℕ → Type 0 = λ m. LeastSumInRange (whole_fraction a) (over b m) × Reduces (sum_of (whole_fraction a) (over b m)) (whole_fraction (a +ℤ b)) in
    subst P (sym h) (subst Q (sym i) (whole_sums a b j k l, whole_sum_reduces a b))

pub product_past : (a b : ℤ) (d e : ℕ) → d ≡ 1 → e ≡ 1 → (InRange (a *ℤ b) → ⊥) → LowestInRange (product_of (over a d) (over b e)) → ⊥
product_past a b d e h i n w =
    let P : ℕ → Type 0 = λ m. LowestInRange (product_of (over a m) (over b e)) in
    let Q : ℕ → Type 0 = λ m. LowestInRange (product_of (whole_fraction a) (over b m)) in
    n (product_in_range a b (subst Q i (subst P h w)))

pub product_within : (a b : ℤ) (d e : ℕ) → d ≡ 1 → e ≡ 1 → InRange (a *ℤ b) → LowestInRange (product_of (over a d) (over b e)) × Reduces (product_of (over a d) (over b e)) (whole_fraction (a *ℤ b))
product_within a b d e h i j =
    let P : ℕ → Type 0 = λ m. LowestInRange (product_of (over a m) (over b e)) × Reduces (product_of (over a m) (over b e)) (whole_fraction (a *ℤ b)) in
    let Q : ℕ → Type 0 = λ m. LowestInRange (product_of (whole_fraction a) (over b m)) × Reduces (product_of (whole_fraction a) (over b m)) (whole_fraction (a *ℤ b)) in
    subst P (sym h) (subst Q (sym i) (whole_products a b j, whole_product_reduces a b))
