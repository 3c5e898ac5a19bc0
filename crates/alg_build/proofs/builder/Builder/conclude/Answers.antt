use Rattle.alg_build.proofs.Lines.{keeps}
use Rattle.alg_build.proofs.Leading.{leaves-grows}
use Rattle.alg_build.proofs.builder.Builder.conclude.Goals as goal

pub returns-in-Err-clause-grows : goal.returns-in-Err-clause-grows
returns-in-Err-clause-grows c = rw c.back_to.ensures.lines (leaves-grows _ _ (keeps c.args.self.now c.lead_all.new.self c.mark-mark.result c.lead_all.ensures.grows c.mark-mark.ensures.lines c.mark-mark.ensures.conclusions))
