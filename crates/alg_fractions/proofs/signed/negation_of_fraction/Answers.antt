use Rattle.std.proofs.Common.{sym, ◌∙◌}
use Rattle.alg_fractions.proofs.FractionLemmas.{back, fraction-above, fraction-quotients, signed-whole}
use Rattle.alg_fractions.proofs.signed.negation_of_fraction.Goals as goal

pub negation_of_integer-requires-clause-small : goal.negation_of_integer-requires-clause-small
negation_of_integer-requires-clause-small c = rw (back _ c.num-n.ensures.small) c.num-n.ensures.small

pub negation_of_signed-requires-clause-quotients : goal.negation_of_signed-requires-clause-quotients
negation_of_signed-requires-clause-quotients c = fraction-quotients _ _ _ (λ e. c.if-d-eq1.false (c.den-d.ensures.number ∙ e)) c.requires.first

pub negation_of_signed-requires-clause-some : goal.negation_of_signed-requires-clause-some
negation_of_signed-requires-clause-some c = fraction-above c.args.x.numerator c.args.x.denominator c.den-d.ensures.lowest (λ e. c.if-d-eq1.false (c.den-d.ensures.number ∙ e))

pub returns-then-d-eq1-clause-turns : goal.returns-then-d-eq1-clause-turns
returns-then-d-eq1-clause-turns c =
    let e = rw (back _ c.num-n.ensures.small, c.num-n.ensures.number) at c.negation_of_integer.ensures.turns in
    let d = sym c.den-d.ensures.number ∙ c.if-d-eq1.true in
    rw (signed-whole c.args.sort c.args.x.numerator c.args.x.denominator d, signed-whole c.args.sort _ c.args.x.denominator d) e
