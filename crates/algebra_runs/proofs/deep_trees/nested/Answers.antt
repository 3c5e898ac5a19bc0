use Rattle.alg_expr.proofs.ArenaLaws.{Extends-then, GrowsBy-Extends}
use Rattle.algebra_runs.proofs.deep_trees.nested.Goals as goal

pub loop-preserved : goal.loop-preserved
loop-preserved c =
    let grows = c.in_ok-top-2.ensures.ok in
    (Extends-then c.args.arena.now c.loop.arena c.app.new.self c.loop.invariant.0 (GrowsBy-Extends c.loop.arena c.app.new.self c.in_ok-top-2.top _ grows), grows.here)
