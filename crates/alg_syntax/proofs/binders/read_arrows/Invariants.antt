use Rattle.std.proofs.Common.{length}
use Rattle.alg_syntax.specs.Front.{after_fixed, name_first}
use Rattle.alg_syntax.specs.declared.signs.Fixed.TheVariants.{Arrow}
use Rattle.alg_syntax.specs.Parsers.{behind}
use Rattle.alg_syntax.specs.Reading.{has_arrow}
use Rattle.alg_syntax.proofs.Many.{Reading}
use Rattle.alg_syntax.proofs.binders.read_arrows.Given as goal

abbrev pub invariant-arrows : goal.invariant-arrows
invariant-arrows l = Reading (behind (after_fixed Arrow) name_first) has_arrow l.fn.left l.names.items l.left

abbrev pub decreases-arrows : goal.decreases-arrows
decreases-arrows l = length l.left
