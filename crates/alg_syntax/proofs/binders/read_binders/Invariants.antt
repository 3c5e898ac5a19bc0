use Rattle.std.proofs.Common.{length}
use Rattle.alg_syntax.specs.Reading.{opens_binder, read_binder}
use Rattle.alg_syntax.proofs.Many.{Reading}
use Rattle.alg_syntax.proofs.binders.read_binders.Given as goal

abbrev pub invariant-binders : goal.invariant-binders
invariant-binders l = Reading read_binder opens_binder l.fn.left l.binders.items l.left

abbrev pub decreases-binders : goal.decreases-binders
decreases-binders l = length l.left
