use Rattle.alg_show.proofs.Turns.{goes_start, goes_popped, goes_on, goes_less}
use Rattle.alg_show.proofs.statements.run.Goals as goal

pub loop-task-init : goal.loop-task-init
loop-task-init c = goes_start _ _ _ _ c.requires

pub step-requires : goal.step-requires
step-requires c = (goes_popped _ _ _ _ _ _ _ _ c.loop-task.invariant c.in-Some.ensures.items).1

pub loop-task-smaller : goal.loop-task-smaller
loop-task-smaller c = goes_less _ _ _ _ _ _ _ _ c.in-Some.ensures.items c.in_ok-step.ensures

pub loop-task-preserved : goal.loop-task-preserved
loop-task-preserved c = goes_on _ _ _ _ _ _ _ _ _ _ c.loop-task.invariant c.in-Some.ensures.items c.in_ok-step.ensures
