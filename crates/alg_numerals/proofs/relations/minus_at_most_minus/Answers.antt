use Rattle.alg_numerals.proofs.relations.minus_at_most_minus.Goals as goal

pub returns-clause-concludes : goal.returns-clause-concludes
returns-clause-concludes c =
    let q = c.in_ok-q.ensures.compares in
    rw (← q.first.tree, ← q.second.tree) c.neg_le_neg.ensures.concludes
