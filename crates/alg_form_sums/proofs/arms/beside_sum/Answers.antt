use Rattle.std.proofs.Common.{refl}
use Rattle.alg_sorted_sums.proofs.Growing.{holds}
use Rattle.alg_form_sums.proofs.Summing.{told_derives, beside_done}
use Rattle.alg_form_sums.proofs.arms.beside_sum.Goals as goal

pub tail-requires-clause-a_in : goal.tail-requires-clause-a_in
tail-requires-clause-a_in g c = holds _ _ _ _ c.requires.parts.beside.first

pub tail-requires-clause-b_in : goal.tail-requires-clause-b_in
tail-requires-clause-b_in g c = holds _ _ _ _ c.requires.parts.beside.rest_stands

pub tail-requires-clause-c_in : goal.tail-requires-clause-c_in
tail-requires-clause-c_in g c = holds _ _ _ _ c.requires.parts.beside.tail_stands

pub tail-requires-clause-later : goal.tail-requires-clause-later
tail-requires-clause-later g c = let h = c.requires.parts in told_derives _ _ _ h.names _ h.q h.t _ _ c.args.later h.beside.rest_stands h.beside.tail_stands h.beside.later_line

pub returns-clause-line : goal.returns-clause-line
returns-clause-line g c = λ names k q t h. beside_done _ _ _ _ names k _ _ q t _ _ _ c.args.later _ c.in_ok-made.made h c.in_ok-made.ensures.derives refl refl
