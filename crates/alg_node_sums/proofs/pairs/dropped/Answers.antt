use Rattle.alg_build.proofs.Rewritings.{follows, is-rewriting}
use Rattle.alg_node_sums.proofs.Deriving.{as_rewriting, grows-derives}
use Rattle.alg_node_sums.proofs.pairs.dropped.Goals as goal

pub then-requires : goal.then-requires
then-requires c = follows _ _ _ _ _ _ _ c.in_ok-across.ensures.turns (as_rewriting _ _ _ _ _ (grows-derives _ _ _ c.add_pair_drop.ensures.grows _ _ _ c.requires.later))

pub with_line-requires : goal.with_line-requires
with_line-requires c = is-rewriting _ _ _ _ _ (c.in_ok-r.ensures.turns _ _ _ _ c.in_ok-across.ensures.turns (as_rewriting _ _ _ _ _ (grows-derives _ _ _ c.add_pair_drop.ensures.grows _ _ _ c.requires.later)))

pub returns-clause-derives : goal.returns-clause-derives
returns-clause-derives c = c.in_ok-made.ensures.derives _ _ _ (c.in_ok-r.ensures.turns _ _ _ _ c.in_ok-across.ensures.turns (as_rewriting _ _ _ _ _ (grows-derives _ _ _ c.add_pair_drop.ensures.grows _ _ _ c.requires.later)))
