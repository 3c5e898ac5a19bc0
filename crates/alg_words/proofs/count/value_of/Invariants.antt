use Rattle.std.proofs.Common.{◌≡◌, length}
use Rattle.alg_words.specs.Counts.{at_most, digits_value}
use Rattle.alg_words.proofs.count.value_of.Given as goal

abbrev pub invariant-digits : goal.invariant-digits
invariant-digits l = record {
  rest : digits_value l.value l.left ≡ digits_value 0 l.digits;
}

abbrev pub decreases-digits : goal.decreases-digits
decreases-digits l = length l.left
