use Rattle.std.proofs.Common.{length}
use Rattle.alg_syntax.specs.Front.{name_first}
use Rattle.alg_syntax.specs.Reading.{has_name}
use Rattle.alg_syntax.proofs.Many.{Reading}
use Rattle.alg_syntax.proofs.binders.read_names.Given as goal

abbrev pub invariant-names : goal.invariant-names
invariant-names l = Reading name_first has_name l.fn.left l.names.items l.left

abbrev pub decreases-names : goal.decreases-names
decreases-names l = length l.left
