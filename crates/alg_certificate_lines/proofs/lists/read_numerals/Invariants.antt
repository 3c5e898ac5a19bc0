use Rattle.std.proofs.Common.{length}
use Rattle.alg_certificate_lines.proofs.ItemLaws.{NumeralsFound}
use Rattle.alg_certificate_lines.proofs.lists.read_numerals.Given as goal

abbrev pub invariant-numerals : goal.invariant-numerals
invariant-numerals l = NumeralsFound l.text l.left l.found.items

abbrev pub decreases-numerals : goal.decreases-numerals
decreases-numerals l = length l.left
