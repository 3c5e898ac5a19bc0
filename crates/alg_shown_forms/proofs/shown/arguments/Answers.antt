use Rattle.alg_shown_forms.proofs.Opening.{are_arguments}
use Rattle.alg_shown_forms.proofs.shown.arguments.Goals as goal

pub returns-in-App : goal.returns-in-App
returns-in-App c = let h = rw c.arena.ensures at c.in-App.ensures.shows in
    are_arguments c.args.cx.now c.args.tree c.in-App.sym c.in-App.sort c.in-App.args.now c.pair.result c.requires h.0 h.1 c.pair.ensures.some c.pair.ensures.none
