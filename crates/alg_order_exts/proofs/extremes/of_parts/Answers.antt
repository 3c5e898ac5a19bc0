use Rattle.alg_build.proofs.Lines.{grows-then}
use Rattle.alg_build.proofs.Rewritings.{grows-heads, grows-turns, stands-over}
use Rattle.alg_order_exts.proofs.Chains.{grows-tree}
use Rattle.alg_order_exts.proofs.extremes.of_parts.Goals as goal

pub under_two-requires : goal.under_two-requires
under_two-requires c = stands-over _ _ _ _ _ _ _ _ _ _ _ (grows-turns _ _ c.in_ok-y.ensures.grows _ _ _ _ c.in_ok-x.ensures.turns) c.in_ok-y.ensures.turns (grows-heads _ _ _ _ _ (grows-then _ _ _ c.in_ok-x.ensures.grows c.in_ok-y.ensures.grows) c.requires.pair.heads)

pub returns-clause-turns : goal.returns-clause-turns
returns-clause-turns c = rw (← grows-tree _ _ c.in_ok-x.ensures.grows c.args.b.now c.requires.pair.second) (c.in_ok-r.ensures.turns _ _ _ _ _ _ (grows-turns _ _ c.in_ok-y.ensures.grows _ _ _ _ c.in_ok-x.ensures.turns) c.in_ok-y.ensures.turns (grows-heads _ _ _ _ _ (grows-then _ _ _ c.in_ok-x.ensures.grows c.in_ok-y.ensures.grows) c.requires.pair.heads))
