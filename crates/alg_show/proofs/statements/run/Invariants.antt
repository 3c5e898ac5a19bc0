use Rattle.std.proofs.Common.{string_bytes}
use Rattle.alg_show.specs.Tasks.{weights}
use Rattle.alg_show.proofs.Turns.{Goes}
use Rattle.alg_show.proofs.statements.run.Given as goal

abbrev pub invariant-loop-task : goal.invariant-loop-task
invariant-loop-task l = Goes l.base l.arena l.initial.tasks.items l.tasks.items (string_bytes l.initial.out) (string_bytes l.out)

abbrev pub decreases-loop-task : goal.decreases-loop-task
decreases-loop-task l = weights l.arena l.tasks.items
