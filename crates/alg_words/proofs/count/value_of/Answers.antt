use Rattle.std.proofs.Common.{◌∙◌, ap}
use Rattle.alg_words.specs.Counts.{at_most}
use Rattle.alg_words.proofs.Counting.{past_stays}
use Rattle.alg_words.proofs.count.value_of.Goals as goal

pub returns-then-value-gt10000-clause-value : goal.returns-then-value-gt10000-clause-value
returns-then-value-gt10000-clause-value c = past_stays c.digits.value c.digits.left.now c.if-value-gt10000.true ∙ ap (at_most 10000) c.digits.invariant.rest
