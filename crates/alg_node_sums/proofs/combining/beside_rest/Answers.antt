use Rattle.alg_build.proofs.Rewritings.{turns-in, is-rewriting}
use Rattle.alg_node_sums.proofs.combining.beside_rest.Goals as goal

pub plus-requires-clause-right : goal.plus-requires-clause-right
plus-requires-clause-right c = turns-in _ _ _ _ _ (c.keep-same.ensures _ _ c.requires.b_in)

pub with_line-requires : goal.with_line-requires
with_line-requires c = is-rewriting _ _ _ _ _ (c.in_ok-q.ensures.turns _ _ _ _ c.requires.turns.turns (c.keep-same.ensures _ _ c.requires.b_in))

pub returns-clause-derives : goal.returns-clause-derives
returns-clause-derives c = λ t u h. c.in_ok-made.ensures.derives _ _ _ (c.in_ok-q.ensures.turns _ _ _ _ h (c.keep-same.ensures _ _ c.requires.b_in))
