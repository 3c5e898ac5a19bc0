use Rattle.alg_arithmetic.proofs.Evaluations.{power_first, power_raises, power_small}
use Rattle.alg_arithmetic.proofs.WholeNumbers.{natural_tree}
use Rattle.alg_arithmetic.proofs.powers.power.Goals as goal

pub power_of_fraction-requires : goal.power_of_fraction-requires
power_of_fraction-requires c = record {
  first = power_first _ _ _ _ _ c.requires;
  exponent = c.size.ensures.small;
  raises = rw c.size.ensures.size (power_raises _ _ _ _ _ c.requires c.den-positive.ensures.lowest.positive);
  small = rw c.size.ensures.size (power_small _ _ _ _ _ c.requires);
}

pub returns-clause-turns : goal.returns-clause-turns
returns-clause-turns c = rw (natural_tree _ c.args.k c.requires.fit.1.0, ← c.size.ensures.size) c.power_of_fraction.ensures.turns
