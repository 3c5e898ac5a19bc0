use Rattle.std.proofs.Common.{◌≡◌, pos, arith, ap, ◌∙◌, to_z, of_z, SFits}
use Rattle.std.specs.Int.{w128}
use Rattle.std.specs.Prelude.{unsigned_abs, int_lt as lt_z}
use Rattle.std.proofs.lemmas.Int.{to_z-of_z}
use Rattle.alg_num.specs.Inverse.{IsInverse}
use Rattle.alg_num.proofs.ReducedLaws.{signed, unsigned_abs-signed}
use Rattle.alg_num.proofs.Reductions.{cast_back, inversion}
use Rattle.alg_num.proofs.fractions.Frac.inv.Goals as goal

cast_numerator : (c : goal.After-unsigned_abs) → to_z w128 (of_z w128 c.self.inside.num) ≡ c.self.inside.num
cast_numerator c = cast_back c.self.inside.num c.self.invariant.small.top

cast_inverse : (c : goal.After-unsigned_abs) → to_z w128 (of_z w128 c.signed.result) ≡ c.signed.result
cast_inverse c = let fits : SFits w128 c.signed.result = record { sfits = c.signed.type_inv } in to_z-of_z w128 c.signed.result fits

inverse_is : (c : goal.After-unsigned_abs) → IsInverse (record { numerator = c.self.inside.num; denominator = c.self.inside.den }) (record { numerator = c.signed.result; denominator = c.unsigned_abs.result })
inverse_is c =
    inversion c.self.inside.num c.self.inside.den c.unsigned_abs.result c.signed.result c.self.invariant.lowest
    (λ e. c.if-self-eq0.false (ap (of_z w128) e))
    (c.unsigned_abs.ensures.value ∙ ap unsigned_abs (cast_numerator c))
    (c.signed.ensures ∙ ap (λ z. signed (lt_z z (pos 0)) c.self.inside.den) (cast_numerator c))

pub returns : goal.returns
returns c = rw (← c.self.view_is) (rw (cast_inverse c) (inverse_is c))

pub invariant_of-result-2 : goal.invariant_of-result-2
invariant_of-result-2 c =
    let size : unsigned_abs c.signed.result ≡ c.self.inside.den =
    ap unsigned_abs c.signed.ensures ∙ unsigned_abs-signed (lt_z (to_z w128 (of_z w128 c.self.inside.num)) (pos 0)) c.self.inside.den in
    let whole : c.unsigned_abs.result ≡ unsigned_abs c.self.inside.num = c.unsigned_abs.ensures.value ∙ ap unsigned_abs (cast_numerator c) in
    rw (cast_inverse c)
    (record {
      lowest = (inverse_is c).lowest;
      small = record { top = omega (arith, size, c.self.invariant.small.bottom); bottom = omega (arith, whole, c.self.invariant.small.top) };
    })
