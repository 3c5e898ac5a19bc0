use Rattle.std.proofs.Common.{◌≤ℤ◌, ◌<ℤ◌, pos, arith, sym, ◌∙◌}
use Rattle.std.proofs.lemmas.Int.{ints}
use Rattle.alg_fractions.proofs.FractionLemmas.{fraction-quotients, same-plus, same-whole}
use Rattle.alg_fractions.proofs.showing.shown.Goals as goal

pub stays-requires-clause-same : goal.stays-requires-clause-same
stays-requires-clause-same c = same-whole c.args.sort c.args.x.numerator c.args.x.denominator (sym c.den-d.ensures.number ∙ c.if-d-eq1.true)

pub inward-requires-clause-quotients : goal.inward-requires-clause-quotients
inward-requires-clause-quotients c = fraction-quotients _ _ _ (λ e. c.if-d-eq1.false (c.den-d.ensures.number ∙ e)) c.requires.first

pub inward-requires-clause-below : goal.inward-requires-clause-below
inward-requires-clause-below c =
    let below : c.num-n.result <ℤ pos 0 = grind (arith, ints, c.if-n-lt0.true) in
    rw (← c.num-n.ensures.number) below

pub inward-requires-clause-over : goal.inward-requires-clause-over
inward-requires-clause-over c = λ e. c.if-d-eq1.false (c.den-d.ensures.number ∙ e)

pub stays-requires-else-n-lt0-clause-same : goal.stays-requires-else-n-lt0-clause-same
stays-requires-else-n-lt0-clause-same c =
    let over : pos 0 ≤ℤ c.num-n.result = grind (arith, ints, c.if-n-lt0.false) in
    same-plus c.args.sort c.args.x.numerator c.args.x.denominator (rw (← c.num-n.ensures.number) over)
