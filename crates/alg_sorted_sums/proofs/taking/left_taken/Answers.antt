use Rattle.alg_sorted_sums.proofs.taking.left_taken.Goals as goal

pub returns-clause-line : goal.returns-clause-line
returns-clause-line c = c.in_ok-line.ensures.proves _ _ _ c.in_ok-r.ensures.turns
