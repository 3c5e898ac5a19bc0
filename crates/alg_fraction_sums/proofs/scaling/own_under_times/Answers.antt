use Rattle.alg_fraction_sums.proofs.scaling.own_under_times.Goals as goal

pub returns-clause-turns : goal.returns-clause-turns
returns-clause-turns c = c.in_ok-r.ensures.turns _ _ c.in_ok-own.ensures.turns
