use Rattle.alg_atom_powers.proofs.raising.multiplied.Goals as goal

pub returns-clause-derives : goal.returns-clause-derives
returns-clause-derives c = c.in_ok-made.ensures.derives _ _ _ c.in_ok-r.ensures.turns
