use Rattle.alg_build.proofs.Lines.{grows-then}
use Rattle.alg_build.proofs.Rewritings.{follows, grows-turns}
use Rattle.alg_fraction_sums.proofs.scaling.scaled_by_own.Goals as goal

pub then-requires : goal.then-requires
then-requires c =
    let first = grows-turns _ _ c.times_numerator.ensures.grows _ _ _ _ c.in_ok-both.ensures.turns in
    follows _ _ _ _ _ _ _ first c.in_ok-total.ensures.turns

pub returns-clause-turns : goal.returns-clause-turns
returns-clause-turns c =
    let first = grows-turns _ _ c.times_numerator.ensures.grows _ _ _ _ c.in_ok-both.ensures.turns in
    c.in_ok-r.ensures.turns _ _ _ _ first c.in_ok-total.ensures.turns

pub returns-in_err-r-clause-grows : goal.returns-in_err-r-clause-grows
returns-in_err-r-clause-grows c = grows-then _ _ _ c.own_under_times.ensures.grows (grows-then _ _ _ c.times_numerator.ensures.grows c.then.ensures.grows)

pub returns-clause-grows : goal.returns-clause-grows
returns-clause-grows c = grows-then _ _ _ c.own_under_times.ensures.grows (grows-then _ _ _ c.times_numerator.ensures.grows c.then.ensures.grows)
