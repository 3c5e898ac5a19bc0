use Rattle.alg_arithmetic.proofs.Evaluations.{integer_multiple_signs, integer_multiple_first, integer_multiple_multiplies}
use Rattle.alg_arithmetic.proofs.WholeNumbers.{integer_tree}
use Rattle.alg_arithmetic.proofs.multiples.multiple_from_zero.Goals as goal

pub integer_multiple_of_fraction-requires : goal.integer_multiple_of_fraction-requires
integer_multiple_of_fraction-requires c = record {
  signs = integer_multiple_signs _ _ _ _ _ c.requires.evaluates;
  first = integer_multiple_first _ _ _ _ _ c.requires.evaluates;
  factor = c.size.ensures.small;
  multiplies = integer_multiple_multiplies _ _ _ _ _ c.requires.evaluates _ c.size.ensures.size c.den.ensures.lowest.positive c.den-2.ensures.lowest.positive c.requires.at_least;
}

pub returns-clause-turns : goal.returns-clause-turns
returns-clause-turns c = rw (integer_tree _ c.args.k c.requires.evaluates.fit.0 c.requires.at_least, ← c.size.ensures.size) c.integer_multiple_of_fraction.ensures.turns
