use Rattle.alg_scripts.proofs.Stepping.{left_leads, left_proves}
use Rattle.alg_scripts.proofs.running.ended.Goals as goal

pub conclude-requires-in-None : goal.conclude-requires-in-None
conclude-requires-in-None c = left_leads c.args.cx.now c.rest.new.self _ c.args.state c.args.backs.now c.requires.stands c.in_ok-last-in-None.ensures.gives

pub returns-in_ok-line-in-None-clause-proves : goal.returns-in_ok-line-in-None-clause-proves
returns-in_ok-line-in-None-clause-proves c = λ s w kept.
    left_proves c.args.cx.now c.rest.new.self c.conclude-in-None.new.self _ _ c.args.state c.args.backs.now c.in-None.is c.requires.here c.in_ok-last-in-None.ensures.gives c.conclude-in-None.ensures.grows
    c.in_ok-line-in-None.ensures.concludes s w kept
