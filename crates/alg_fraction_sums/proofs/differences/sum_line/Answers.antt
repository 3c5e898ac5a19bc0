use Rattle.alg_build.proofs.Lines.{grows-then}
use Rattle.alg_fraction_sums.proofs.differences.sum_line.Goals as goal

pub returns-clause-proves : goal.returns-clause-proves
returns-clause-proves c = c.in_ok-line.ensures.proves _ _ _ c.in_ok-r.ensures.turns

pub returns-in_err-line-clause-grows : goal.returns-in_err-line-clause-grows
returns-in_err-line-clause-grows c = grows-then _ _ _ c.sum_of_fractions.ensures.grows c.line_of.ensures.grows

pub returns-clause-grows : goal.returns-clause-grows
returns-clause-grows c = grows-then _ _ _ c.sum_of_fractions.ensures.grows c.line_of.ensures.grows
