use Rattle.std.proofs.Common.{refl}
use Rattle.alg_sorted_sums.proofs.Growing.{holds}
use Rattle.alg_form_sums.proofs.Summing.{told_derives, pair_is, nodes_done}
use Rattle.alg_form_sums.proofs.arms.nodes_sum.Goals as goal

pub both-requires-clause-p_in : goal.both-requires-clause-p_in
both-requires-clause-p_in g c = let h = c.requires.parts in pair_is _ _ _ h.names h.number h.p h.o c.args.power h.q h.t _ _ _ _ _ h.nodes

pub both-requires-clause-q_in : goal.both-requires-clause-q_in
both-requires-clause-q_in g c = holds _ _ _ _ c.requires.parts.nodes.rest_stands

pub both-requires-clause-s_in : goal.both-requires-clause-s_in
both-requires-clause-s_in g c = holds _ _ _ _ c.requires.parts.nodes.tail_stands

pub both-requires-clause-inner : goal.both-requires-clause-inner
both-requires-clause-inner g c = let h = c.requires.parts in told_derives _ _ _ h.names h.number h.p h.o _ _ c.args.inner h.nodes.first h.nodes.second h.nodes.inner_line

pub both-requires-clause-later : goal.both-requires-clause-later
both-requires-clause-later g c = let h = c.requires.parts in told_derives _ _ _ h.names _ h.q h.t _ _ c.args.later h.nodes.rest_stands h.nodes.tail_stands h.nodes.later_line

pub returns-clause-line : goal.returns-clause-line
returns-clause-line g c = λ names k p o q t h. nodes_done _ _ _ _ names k p o _ q t _ _ _ c.args.inner c.args.later _ c.in_ok-made.made h c.in_ok-made.ensures.derives c.in_ok-form.ensures refl refl
