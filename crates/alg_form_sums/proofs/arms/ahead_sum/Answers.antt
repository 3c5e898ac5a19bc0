use Rattle.std.proofs.Common.{refl}
use Rattle.alg_sorted_sums.proofs.Growing.{holds}
use Rattle.alg_form_sums.proofs.Summing.{told_derives, ahead_done}
use Rattle.alg_form_sums.proofs.arms.ahead_sum.Goals as goal

pub head-requires-clause-a_in : goal.head-requires-clause-a_in
head-requires-clause-a_in g c = holds _ _ _ _ c.requires.parts.beside.first

pub head-requires-clause-b_in : goal.head-requires-clause-b_in
head-requires-clause-b_in g c = holds _ _ _ _ c.requires.parts.beside.rest_stands

pub head-requires-clause-c_in : goal.head-requires-clause-c_in
head-requires-clause-c_in g c = holds _ _ _ _ c.requires.parts.beside.tail_stands

pub head-requires-clause-later : goal.head-requires-clause-later
head-requires-clause-later g c = let h = c.requires.parts in told_derives _ _ _ h.names _ h.q h.t _ _ c.args.later h.beside.rest_stands h.beside.tail_stands h.beside.later_line

pub returns-clause-line : goal.returns-clause-line
returns-clause-line g c = λ names k t q h. ahead_done _ _ _ _ names k _ _ t q _ _ _ c.args.later _ c.in_ok-made.made h c.in_ok-made.ensures.derives refl refl
