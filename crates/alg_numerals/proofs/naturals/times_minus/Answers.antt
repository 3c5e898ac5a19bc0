use Rattle.alg_numerals.proofs.naturals.times_minus.Goals as goal

pub returns-clause-turns : goal.returns-clause-turns
returns-clause-turns c =
    let q = c.in_ok-q.ensures.combines in
    rw (← q.first.tree, ← q.second.tree, ← q.total.tree) c.mul_neg_lit.ensures.turns
