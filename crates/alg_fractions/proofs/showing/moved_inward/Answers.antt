use Rattle.alg_fractions.proofs.showing.moved_inward.Goals as goal

pub returns-clause-turns : goal.returns-clause-turns
returns-clause-turns c =
    rw (← c.in_ok-a.ensures.first.tree, ← c.in_ok-a.ensures.second.tree) c.neg_div.ensures.turns
