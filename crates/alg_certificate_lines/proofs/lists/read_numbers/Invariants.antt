use Rattle.std.proofs.Common.{length}
use Rattle.alg_certificate_lines.proofs.ItemLaws.{NumbersFound}
use Rattle.alg_certificate_lines.proofs.lists.read_numbers.Given as goal

abbrev pub invariant-numbers : goal.invariant-numbers
invariant-numbers l = NumbersFound l.text l.left l.found.items

abbrev pub decreases-numbers : goal.decreases-numbers
decreases-numbers l = length l.left
