use Rattle.alg_arithmetic.proofs.Evaluations.{integer_power_quotients, inverse_power_inverts, inverse_power_small}
use Rattle.alg_arithmetic.proofs.WholeNumbers.{negative_tree}
use Rattle.alg_arithmetic.proofs.powers.power_below_zero.Goals as goal

pub negative_power_of_fraction-requires : goal.negative_power_of_fraction-requires
negative_power_of_fraction-requires c =
    let raises = rw c.size-n.ensures.size at c.in-Some.ensures.1 in
    record {
      quotients = integer_power_quotients _ _ _ _ _ c.requires.evaluates;
      exponent = c.size-n.ensures.small;
      raises = c.in-Some.ensures.1;
      small = c.in-Some.ensures.0;
      inverts = inverse_power_inverts _ _ _ _ _ c.requires.evaluates c.in-Some.w c.den-lowest.ensures.lowest c.requires.below raises;
    }

pub returns-clause-turns : goal.returns-clause-turns
returns-clause-turns c = rw (negative_tree _ c.args.k c.requires.evaluates.fit.1.0 c.requires.below, ← c.size-n.ensures.size) c.negative_power_of_fraction.ensures.turns

pub unreachable-requires : goal.unreachable-requires
unreachable-requires c = c.in-None.ensures (rw c.size-n.ensures.size (inverse_power_small _ _ _ _ _ c.requires.evaluates c.den-lowest.ensures.lowest c.requires.below))
