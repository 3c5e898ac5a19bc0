-- What the calls of alg_num answer is the value of the definitions.
use Rattle.std.proofs.Common.{◌≡◌, ◌<◌, pos, Bool, true, false, ap, ◌*ℤ◌}
use Rattle.std.specs.Prelude.{nat_lt, ◌^◌}
use Rattle.std.specs.Cmp.Derive.{both_true}
use Rattle.std.proofs.lemmas.Bool.{lt-ltb, ltb-true, and_parts}
use Rattle.alg_num.specs.Fraction.{Fraction, NumbersInRange}
use Rattle.alg_num.specs.LowestTerms.{Reduces}
use Rattle.alg_num.specs.Sum.{sum_of, SumInRange}
use Rattle.alg_num.proofs.ReducedLaws.{reduced_is}
use Rattle.alg_values.specs.Ranges.{in_range, numbers_in_range, cross_products_in_range, sum_in_range}
use Rattle.alg_values.specs.Arithmetic.{ranged}
use Rattle.alg_values.specs.declared.value.Value.TheVariants.{Num}

pub ranged_num : (t : Bool) (p q : Fraction) → t ≡ true → 0 < p.denominator → Reduces p q → Num q ≡ ranged t p
ranged_num true p q e h r = ap Num (reduced_is p q h r)
ranged_num false p q e h r = cc

pub numbers_test : (p : Fraction) → NumbersInRange p → numbers_in_range p ≡ true
numbers_test p h = both_true (lt-ltb _ _ h.top) (lt-ltb _ _ h.bottom)

pub numbers_fact : (p : Fraction) → numbers_in_range p ≡ true → NumbersInRange p
numbers_fact p e = let parts = and_parts (in_range p.numerator) (nat_lt p.denominator (2 ^ 127)) e in
    record { top = ltb-true _ _ parts.0; bottom = ltb-true _ _ parts.1 }

pub sum_test : (p q : Fraction) → SumInRange p q → sum_in_range p q ≡ true
sum_test p q h = both_true (both_true (lt-ltb _ _ h.crossed.left) (lt-ltb _ _ h.crossed.right)) (both_true (lt-ltb _ _ h.crossed.total) (lt-ltb _ _ h.bottom))

pub sum_fact : (p q : Fraction) → sum_in_range p q ≡ true → SumInRange p q
sum_fact p q e =
    let parts = and_parts (cross_products_in_range p q) (numbers_in_range (sum_of p q)) e in
    let crossed = and_parts (in_range (p.numerator *ℤ pos q.denominator)) (in_range (q.numerator *ℤ pos p.denominator)) parts.0 in
    let total = numbers_fact (sum_of p q) parts.1 in
    record { crossed = record { left = ltb-true _ _ crossed.0; right = ltb-true _ _ crossed.1; total = total.top }; bottom = total.bottom }
