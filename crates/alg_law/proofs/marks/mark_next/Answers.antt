use Rattle.alg_law.proofs.MarkLemmas.{mark_of-app}
use Rattle.alg_law.proofs.marks.mark_next.Goals as goal

pub loop-part-init : goal.loop-part-init
loop-part-init c = mark_of-app c.args.base.now c.args.arena.now c.args.id c.in-App.sym c.in-App.sort c.in-App.args.now c.mark_for_head-m.result c.in-App.ensures.shows.0 c.mark_for_head-m.ensures
