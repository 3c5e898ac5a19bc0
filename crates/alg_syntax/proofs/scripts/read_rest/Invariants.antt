use Rattle.std.proofs.Common.{length}
use Rattle.alg_syntax.specs.Reading.{read_further, separates}
use Rattle.alg_syntax.proofs.Many.{Reading}
use Rattle.alg_syntax.proofs.scripts.read_rest.Given as goal

abbrev pub invariant-steps : goal.invariant-steps
invariant-steps l = Reading read_further separates l.fn.left l.further.items l.left

abbrev pub decreases-steps : goal.decreases-steps
decreases-steps l = length l.left
