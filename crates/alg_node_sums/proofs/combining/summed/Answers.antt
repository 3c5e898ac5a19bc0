use Rattle.alg_build.proofs.Rewritings.{turns-in, follows, grows-turns, is-rewriting}
use Rattle.alg_node_sums.proofs.Deriving.{as_rewriting}
use Rattle.alg_node_sums.proofs.combining.summed.Goals as goal

pub plus-requires-clause-left : goal.plus-requires-clause-left
plus-requires-clause-left c = turns-in _ _ _ _ _ (as_rewriting _ _ _ _ _ c.requires.leads.first)

pub plus-requires-clause-right : goal.plus-requires-clause-right
plus-requires-clause-right c = turns-in _ _ _ _ _ (as_rewriting _ _ _ _ _ c.requires.leads.second)

pub then-requires : goal.then-requires
then-requires c = follows _ _ _ _ _ _ _ (grows-turns _ _ c.plus.ensures.grows _ _ _ _ c.requires.leads.turns) (c.in_ok-parts.ensures.turns _ _ _ _ (as_rewriting _ _ _ _ _ c.requires.leads.first) (as_rewriting _ _ _ _ _ c.requires.leads.second))

pub with_line-requires : goal.with_line-requires
with_line-requires c = is-rewriting _ _ _ _ _ (c.in_ok-q.ensures.turns _ _ _ _ (grows-turns _ _ c.plus.ensures.grows _ _ _ _ c.requires.leads.turns) (c.in_ok-parts.ensures.turns _ _ _ _ (as_rewriting _ _ _ _ _ c.requires.leads.first) (as_rewriting _ _ _ _ _ c.requires.leads.second)))

pub returns-clause-derives : goal.returns-clause-derives
returns-clause-derives c = λ t x y h k m. c.in_ok-made.ensures.derives _ _ _ (c.in_ok-q.ensures.turns _ _ _ _ (grows-turns _ _ c.plus.ensures.grows _ _ _ _ h) (c.in_ok-parts.ensures.turns _ _ _ _ (as_rewriting _ _ _ _ _ k) (as_rewriting _ _ _ _ _ m)))
