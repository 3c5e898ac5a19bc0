use Rattle.alg_fractions.proofs.showing.stays.Goals as goal

pub returns-clause-turns : goal.returns-clause-turns
returns-clause-turns c = rw (← c.requires.same) (c.keep.ensures _ _ c.in_ok-e.ensures.stands)
