-- Numbers in range as they are read back.
use Rattle.std.proofs.Common.{◌≡◌, ℤ, pos, ◌+ℤ◌, ◌-ℤ◌, neg_ℤ, true, false, nat_eq, arith, ap, sym, ◌∙◌, to_z, of_z}
use Rattle.std.specs.Prelude.{unsigned_abs}
use Rattle.std.specs.Int.{w128}
use Rattle.std.specs.Ordering.{int_eq}
use Rattle.std.proofs.lemmas.Int.{ints, to_z-of_z, fits_signed_from_abs}
use Rattle.std.proofs.lemmas.Bool.Decides.{nat_tests}
use Rattle.alg_num.specs.Range.{InRange}
use Rattle.alg_group_words.proofs.Runs.{not_zero}

pub same-bits : (z : ℤ) → InRange z → to_z w128 (of_z w128 z) ≡ z
same-bits z h = to_z-of_z w128 z (fits_signed_from_abs w128 z h)

pub sum-bits : (y z : ℤ) → InRange y → InRange z → InRange (y +ℤ z) → to_z w128 (of_z w128 (to_z w128 (of_z w128 y) +ℤ to_z w128 (of_z w128 z))) ≡ y +ℤ z
sum-bits y z h k l = rw (same-bits y h, same-bits z k) (same-bits (y +ℤ z) l)

minus-is : (z : ℤ) → pos 0 -ℤ z ≡ neg_ℤ z
minus-is z = omega (arith, ints)

minus-small : (z : ℤ) → InRange z → InRange (neg_ℤ z)
minus-small z h = omega (arith, ints, h)

pub minus-bits : (z : ℤ) → InRange z → to_z w128 (of_z w128 (pos 0 -ℤ to_z w128 (of_z w128 z))) ≡ neg_ℤ z
minus-bits z h = rw (same-bits z h, minus-is z) (same-bits (neg_ℤ z) (minus-small z h))

-- 0, and another number
pub zero-is : (z : ℤ) → nat_eq (unsigned_abs z) 0 ≡ true → z ≡ pos 0
zero-is z e =
    let n : unsigned_abs z ≡ 0 = grind (arith, nat_tests, e) in
    omega (arith, ints, n)

pub some-is : (z : ℤ) → nat_eq (unsigned_abs z) 0 ≡ false → int_eq z (pos 0) ≡ false
some-is z e = not_zero z (λ q. (let n : nat_eq (unsigned_abs z) 0 ≡ true = ap (λ (x : ℤ). nat_eq (unsigned_abs x) 0) q in let f : true ≡ false = sym n ∙ e in cc))
