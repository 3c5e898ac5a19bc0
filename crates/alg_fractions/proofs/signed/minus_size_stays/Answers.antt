use Rattle.alg_fractions.proofs.signed.minus_size_stays.Goals as goal

pub returns-clause-turns : goal.returns-clause-turns
returns-clause-turns c = c.keep.ensures _ _ c.in_ok-e.ensures.stands
