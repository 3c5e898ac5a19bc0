use Rattle.alg_fraction_powers.proofs.integer_powers.integer_power_line.Goals as goal

pub returns-clause-proves : goal.returns-clause-proves
returns-clause-proves c = c.in_ok-line.ensures.proves _ _ _ c.in_ok-r.ensures.turns
