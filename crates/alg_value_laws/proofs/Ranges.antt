-- What the value of an operation tells of the numbers that it computes.
use Rattle.std.proofs.Common.{◌≡◌, ℕ, zero, suc, ◌*◌, ◌/◌, ◌<◌, ◌≤◌, ◌^◌, ℤ, pos, negsuc, ◌*ℤ◌, ◌+ℤ◌, Bool, true, false, refl, ap, ap₂, sym, ◌∙◌, subst, arith}
use Rattle.std.specs.Prelude.{unsigned_abs}
use Rattle.std.specs.Int.{IsGcd}
use Rattle.std.proofs.Math.Nat.{div-mul_cancel}
use Rattle.std.proofs.lemmas.Int.{unsigned_abs-mul}
use Rattle.alg_num.specs.Fraction.{Fraction, NumbersInRange}
use Rattle.alg_num.specs.Range.{InRange}
use Rattle.alg_num.specs.Reduced.{reduced, greatest_divisor}
use Rattle.alg_num.specs.LowestTerms.{Reduces}
use Rattle.alg_num.specs.Sum.{sum_of, SumInRange}
use Rattle.alg_num.specs.LeastSum.{LeastSumInRange}
use Rattle.alg_num.specs.Product.{product_of}
use Rattle.alg_num.specs.Power.{power_of}
use Rattle.alg_num.proofs.CoprimeLaws.{gcd_positive}
use Rattle.alg_num.proofs.IntegerLaws.{*ℤ_assoc, +ℤ-*ℤ, positive_product}
use Rattle.alg_num.proofs.PowerLaws.{positive_power}
use Rattle.alg_num.proofs.ReducedLaws.{Reduces-reduced, IsGcd-greatest_divisor}
use Rattle.alg_values.specs.Arithmetic.{ranged, where_has, sum_value, product_value, power_value}
use Rattle.alg_values.specs.Ranges.{sum_in_range, numbers_in_range}
use Rattle.alg_values.specs.declared.value.Value.{Value}
use Rattle.alg_values.specs.declared.value.Value.TheVariants.{Num, Past, Without}
use Rattle.alg_value_laws.proofs.LeastSums.{least_of_parts}
use Rattle.alg_values.proofs.Ranging.{numbers_fact, sum_fact}

-- a value that needs a class
pub where_num : (b : Bool) (v : Value) (z : Fraction) → where_has b v ≡ Num z → (b ≡ true) × (v ≡ Num z)
where_num true v z e = (refl, e)
where_num false v z e = cc

pub num_is : (p z : Fraction) → Num p ≡ Num z → p ≡ z
num_is p z e = cc

ranged_num : (t : Bool) (p z : Fraction) → ranged t p ≡ Num z → (t ≡ true) × (reduced p ≡ z)
ranged_num true p z e = (refl, cc)
ranged_num false p z e = cc

ranged_reduces : (t : Bool) (p z : Fraction) → 0 < p.denominator → ranged t p ≡ Num z → Reduces p z
ranged_reduces t p z h e = subst (Reduces p) (ranged_num t p z e).1 (Reduces-reduced p h)

pub sum_reduces : (p q z : Fraction) → 0 < p.denominator → 0 < q.denominator → sum_value p q ≡ Num z → Reduces (sum_of p q) z
sum_reduces p q z h k e = ranged_reduces (sum_in_range p q) (sum_of p q) z (positive_product p.denominator q.denominator h k) e

pub product_reduces : (p q z : Fraction) → 0 < p.denominator → 0 < q.denominator → product_value p q ≡ Num z → Reduces (product_of p q) z
product_reduces p q z h k e = ranged_reduces (numbers_in_range (product_of p q)) (product_of p q) z (positive_product p.denominator q.denominator h k) e

pub power_reduces : (p z : Fraction) (n : ℕ) → 0 < p.denominator → power_value p n ≡ Num z → Reduces (power_of p n) z
power_reduces p z n h e = ranged_reduces (numbers_in_range (power_of p n)) (power_of p n) z (positive_power p.denominator n h) e

pub power_ranged : (p z : Fraction) (n : ℕ) → power_value p n ≡ Num z → NumbersInRange (power_of p n)
power_ranged p z n e = numbers_fact (power_of p n) (ranged_num (numbers_in_range (power_of p n)) (power_of p n) z e).0

-- sums over the least common multiple aren't larger

at_most_product : (m g : ℕ) → 0 < g → m ≤ m * g
at_most_product m zero h = absurd (omega (arith, h))
at_most_product m (suc k) h = omega arith

size-product : (x : ℤ) (g : ℕ) → 0 < g → unsigned_abs x ≤ unsigned_abs (x *ℤ pos g)
size-product x g h = omega (arith, unsigned_abs-mul x (pos g), at_most_product (unsigned_abs x) g h)

smaller : (x : ℤ) (g : ℕ) → 0 < g → InRange (x *ℤ pos g) → InRange x
smaller x g h r = omega (arith, size-product x g h, r)

least_in_range : (p q : Fraction) → 0 < p.denominator → 0 < q.denominator → SumInRange p q → LeastSumInRange p q
least_in_range p q h k r =
    let g : ℕ = greatest_divisor p.denominator q.denominator in
    let i : IsGcd p.denominator q.denominator g = IsGcd-greatest_divisor p.denominator q.denominator in
    let positive : 0 < g = gcd_positive p.denominator q.denominator g k i in
    let x : p.denominator / g * g ≡ p.denominator = div-mul_cancel g i.0 in
    let y : q.denominator / g * g ≡ q.denominator = div-mul_cancel g i.1 in
    let left : (p.numerator *ℤ pos (q.denominator / g)) *ℤ pos g ≡ p.numerator *ℤ pos q.denominator = *ℤ_assoc p.numerator (pos (q.denominator / g)) (pos g) ∙ ap (λ n. p.numerator *ℤ pos n) y in
    let right : (q.numerator *ℤ pos (p.denominator / g)) *ℤ pos g ≡ q.numerator *ℤ pos p.denominator = *ℤ_assoc q.numerator (pos (p.denominator / g)) (pos g) ∙ ap (λ n. q.numerator *ℤ pos n) x in
    let total = +ℤ-*ℤ (p.numerator *ℤ pos (q.denominator / g)) (q.numerator *ℤ pos (p.denominator / g)) (pos g) ∙ ap₂ (λ u v. u +ℤ v) left right in
    let over : p.denominator * (q.denominator / g) * g ≡ p.denominator * q.denominator = omega (arith, ap (λ n. p.denominator * n) y) in
    let P : ℤ → Type 0 = λ z. InRange z in
    let below : p.denominator * (q.denominator / g) ≤ p.denominator * (q.denominator / g) * g = at_most_product (p.denominator * (q.denominator / g)) g positive in
    least_of_parts p q g h k i (record {
      sum = record {
        left = smaller (p.numerator *ℤ pos (q.denominator / g)) g positive (subst P (sym left) r.crossed.left);
        right = smaller (q.numerator *ℤ pos (p.denominator / g)) g positive (subst P (sym right) r.crossed.right);
        total = smaller (p.numerator *ℤ pos (q.denominator / g) +ℤ q.numerator *ℤ pos (p.denominator / g)) g positive (subst P (sym total) r.crossed.total);
      };
      bottom = omega (arith, below, over, r.bottom);
    })

pub sum_ranged : (p q z : Fraction) → 0 < p.denominator → 0 < q.denominator → sum_value p q ≡ Num z → LeastSumInRange p q
sum_ranged p q z h k e = least_in_range p q h k (sum_fact p q (ranged_num (sum_in_range p q) (sum_of p q) z e).0)
