use Rattle.alg_fraction_powers.proofs.powers.power_line.Goals as goal

pub returns-clause-proves : goal.returns-clause-proves
returns-clause-proves c = rw c.requires.raises (c.in_ok-line.ensures.proves _ _ _ c.in_ok-r.ensures.turns)
