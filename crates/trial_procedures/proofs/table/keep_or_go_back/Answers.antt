use Rattle.alg_build.proofs.Lines.{keeps}
use Rattle.alg_build.proofs.Leading.{leaves-grows}
use Rattle.trial_procedures.proofs.table.keep_or_go_back.Goals as goal

pub returns-in-Err-clause-grows : goal.returns-in-Err-clause-grows
returns-in-Err-clause-grows c = rw c.back_to.ensures.lines (leaves-grows _ _ (keeps c.args.cx.now c.keep_sides.new.cx c.mark-mark.result c.keep_sides.ensures.grows c.mark-mark.ensures.lines c.mark-mark.ensures.conclusions))
