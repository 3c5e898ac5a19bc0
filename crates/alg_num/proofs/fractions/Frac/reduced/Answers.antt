use Rattle.std.proofs.Common.{◌≡◌, ◌/◌, ℤ, pos, arith, ap, sym, ◌∙◌, subst, to_z, of_z, SFits}
use Rattle.std.specs.Int.{w128}
use Rattle.std.specs.Prelude.{unsigned_abs, int_lt as lt_z}
use Rattle.std.proofs.lemmas.Int.{to_z-of_z}
use Rattle.alg_num.proofs.CoprimeLaws.{gcd_positive}
use Rattle.alg_num.specs.LowestTerms.{Reduces}
use Rattle.alg_num.proofs.ReducedLaws.{reduction, signed, unsigned_abs-signed}
use Rattle.alg_num.proofs.fractions.Frac.reduced.Goals as goal

pub nonzero_div-size : goal.nonzero_div-size
nonzero_div-size c = gcd_positive _ c.args.den _ c.requires.positive c.gcd-common.ensures

pub nonzero_div-result : goal.nonzero_div-result
nonzero_div-result c = gcd_positive _ c.args.den _ c.requires.positive c.gcd-common.ensures

pub returns : goal.returns
returns c =
    let cast : to_z w128 (of_z w128 c.args.num) ≡ c.args.num = to_z-of_z w128 c.args.num c.ranges.num in
    let fits : SFits w128 c.signed.result = record { sfits = c.signed.type_inv } in
    let back : to_z w128 (of_z w128 c.signed.result) ≡ c.signed.result = to_z-of_z w128 c.signed.result fits in
    let P : ℤ → Type 0 = λ r. Reduces (record { numerator = c.args.num; denominator = c.args.den }) (record { numerator = r; denominator = c.args.den / c.gcd-common.result }) in
    subst P (sym back)
    (reduction c.args.num c.args.den c.gcd-common.result c.unsigned_abs-size.result c.signed.result c.requires.positive
    (c.unsigned_abs-size.ensures.value ∙ ap unsigned_abs cast)
    c.gcd-common.ensures
    (c.signed.ensures ∙ ap (λ z. signed (lt_z z (pos 0)) (c.unsigned_abs-size.result / c.gcd-common.result)) cast))

pub invariant_of-result : goal.invariant_of-result
invariant_of-result c =
    let cast : to_z w128 (of_z w128 c.args.num) ≡ c.args.num = to_z-of_z w128 c.args.num c.ranges.num in
    let fits : SFits w128 c.signed.result = record { sfits = c.signed.type_inv } in
    let back : to_z w128 (of_z w128 c.signed.result) ≡ c.signed.result = to_z-of_z w128 c.signed.result fits in
    let size : unsigned_abs c.signed.result ≡ c.unsigned_abs-size.result / c.gcd-common.result = ap unsigned_abs c.signed.ensures ∙ unsigned_abs-signed (lt_z (to_z w128 (of_z w128 c.args.num)) (pos 0)) (c.unsigned_abs-size.result / c.gcd-common.result) in
    let whole : c.unsigned_abs-size.result ≡ unsigned_abs c.args.num = c.unsigned_abs-size.ensures.value ∙ ap unsigned_abs cast in
    record {
      lowest = (returns c).lowest;
      small = record { top = rw back (omega (arith, size, whole, c.requires)); bottom = omega arith };
    }
