use Rattle.alg_binders.proofs.Kept.{kept_on}
use Rattle.alg_binders.proofs.adding.add_name.Goals as goal

pub returns-clause-here : goal.returns-clause-here
returns-clause-here c =
    kept_on c.args.arena.now c.args.local.now.items _ c.in_ok-declared.declared c.in_ok-push.ensures.items c.requires.local (c.in_ok-declared.ensures.here c.args.arena.now c.requires.said)
