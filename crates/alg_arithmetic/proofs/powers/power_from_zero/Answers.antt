use Rattle.alg_arithmetic.proofs.Evaluations.{integer_power_quotients, integer_power_raises, integer_power_small}
use Rattle.alg_arithmetic.proofs.WholeNumbers.{integer_tree}
use Rattle.alg_arithmetic.proofs.powers.power_from_zero.Goals as goal

pub integer_power_of_fraction-requires : goal.integer_power_of_fraction-requires
integer_power_of_fraction-requires c = record {
  quotients = integer_power_quotients _ _ _ _ _ c.requires.evaluates;
  exponent = c.size.ensures.small;
  raises = rw c.size.ensures.size (integer_power_raises _ _ _ _ _ c.requires.evaluates c.den-positive.ensures.lowest.positive c.requires.at_least);
  small = rw c.size.ensures.size (integer_power_small _ _ _ _ _ c.requires.evaluates c.requires.at_least);
}

pub returns-clause-turns : goal.returns-clause-turns
returns-clause-turns c = rw (integer_tree _ c.args.k c.requires.evaluates.fit.1.0 c.requires.at_least, ← c.size.ensures.size) c.integer_power_of_fraction.ensures.turns
