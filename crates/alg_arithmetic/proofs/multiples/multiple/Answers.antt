use Rattle.alg_arithmetic.proofs.Evaluations.{multiple_first, multiple_multiplies}
use Rattle.alg_arithmetic.proofs.WholeNumbers.{natural_tree}
use Rattle.alg_arithmetic.proofs.multiples.multiple.Goals as goal

pub multiple_of_fraction-requires : goal.multiple_of_fraction-requires
multiple_of_fraction-requires c = record {
  first = multiple_first _ _ _ _ _ c.requires;
  factor = c.size.ensures.small;
  multiplies = multiple_multiplies _ _ _ _ _ c.requires _ c.size.ensures.size c.den.ensures.lowest.positive c.den-2.ensures.lowest.positive;
}

pub returns-clause-turns : goal.returns-clause-turns
returns-clause-turns c = rw (natural_tree _ c.args.k c.requires.fit.0, ← c.size.ensures.size) c.multiple_of_fraction.ensures.turns
