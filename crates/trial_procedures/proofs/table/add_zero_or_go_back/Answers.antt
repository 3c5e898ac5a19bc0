use Rattle.alg_build.proofs.Lines.{keeps}
use Rattle.alg_build.proofs.Leading.{leaves-grows}
use Rattle.trial_procedures.proofs.table.add_zero_or_go_back.Goals as goal

pub returns-in-Err-clause-grows : goal.returns-in-Err-clause-grows
returns-in-Err-clause-grows c = rw c.back_to.ensures.lines (leaves-grows _ _ (keeps c.args.cx.now c.add_zero.new.cx c.mark-mark.result c.add_zero.ensures.grows c.mark-mark.ensures.lines c.mark-mark.ensures.conclusions))
