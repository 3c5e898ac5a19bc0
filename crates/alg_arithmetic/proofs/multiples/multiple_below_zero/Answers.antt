use Rattle.alg_arithmetic.proofs.Evaluations.{integer_multiple_signs, integer_multiple_first, negative_multiple_multiplies}
use Rattle.alg_arithmetic.proofs.WholeNumbers.{negative_back, negative_tree}
use Rattle.alg_arithmetic.proofs.multiples.multiple_below_zero.Goals as goal

pub negative_multiple_of_fraction-requires : goal.negative_multiple_of_fraction-requires
negative_multiple_of_fraction-requires c = record {
  signs = integer_multiple_signs _ _ _ _ _ c.requires.evaluates;
  first = integer_multiple_first _ _ _ _ _ c.requires.evaluates;
  factor = c.size.ensures.small;
  multiplies = negative_multiple_multiplies _ _ _ _ _ c.requires.evaluates _ _ c.size.ensures.size c.neg.ensures c.den.ensures.lowest.positive c.den-2.ensures.lowest.positive c.requires.below;
}

pub returns-clause-turns : goal.returns-clause-turns
returns-clause-turns c = rw (negative_tree _ c.args.k c.requires.evaluates.fit.0 c.requires.below, ← c.size.ensures.size, ← negative_back c.args.z c.neg.result c.neg.ensures) c.negative_multiple_of_fraction.ensures.turns
