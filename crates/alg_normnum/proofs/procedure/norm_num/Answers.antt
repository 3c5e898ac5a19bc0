use Rattle.alg_build.proofs.Lines.{keeps}
use Rattle.alg_build.proofs.Leading.{leaves-grows}
use Rattle.alg_normnum.proofs.Ending.{is_goal}
use Rattle.alg_normnum.proofs.procedure.norm_num.Goals as goal

pub attempted-requires-clause-goal : goal.attempted-requires-clause-goal
attempted-requires-clause-goal g c = is_goal _ _ c.requires.here c.requires.sorted c.requires.lemmas

pub returns-in-Err-clause-grows : goal.returns-in-Err-clause-grows
returns-in-Err-clause-grows g c = rw c.back_to.ensures.lines (leaves-grows _ _ (keeps c.args.cx.now c.attempted.new.cx c.mark-mark.result c.attempted.ensures.grows c.mark-mark.ensures.lines c.mark-mark.ensures.conclusions))
