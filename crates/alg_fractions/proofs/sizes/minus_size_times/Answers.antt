use Rattle.alg_fractions.proofs.sizes.minus_size_times.Goals as goal

pub returns-clause-turns : goal.returns-clause-turns
returns-clause-turns c =
    let q = c.in_ok-q.ensures.combines in
    rw (← q.first.tree, ← q.second.tree, ← q.total.tree) c.neg_mul_lit.ensures.turns
