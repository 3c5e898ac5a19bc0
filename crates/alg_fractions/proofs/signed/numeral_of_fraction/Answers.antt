use Rattle.alg_fractions.proofs.FractionLemmas.{back, fraction-quotients, signed-whole}
use Rattle.std.proofs.Common.{sym, ◌∙◌}
use Rattle.alg_fractions.proofs.signed.numeral_of_fraction.Goals as goal

pub numeral_of_integer-requires-clause-has : goal.numeral_of_integer-requires-clause-has
numeral_of_integer-requires-clause-has c = rw (back _ c.num-n.ensures.small, c.num-n.ensures.number) c.requires.has.whole

pub numeral_of_integer-requires-clause-small : goal.numeral_of_integer-requires-clause-small
numeral_of_integer-requires-clause-small c = rw (back _ c.num-n.ensures.small) c.num-n.ensures.small

pub signed_size-requires : goal.signed_size-requires
signed_size-requires c = record { quotients = fraction-quotients _ _ _ (λ e. c.if-d-eq1.false (c.den-d.ensures.number ∙ e)) c.requires.has }

pub returns-then-d-eq1-clause-stands : goal.returns-then-d-eq1-clause-stands
returns-then-d-eq1-clause-stands c =
    let e = rw (back _ c.num-n.ensures.small, c.num-n.ensures.number) at c.numeral_of_integer.ensures.stands in
    rw (signed-whole c.args.sort c.args.x.numerator c.args.x.denominator (sym c.den-d.ensures.number ∙ c.if-d-eq1.true)) e
