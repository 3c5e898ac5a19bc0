use Rattle.alg_numerals.proofs.differences.difference_to.Goals as goal

pub returns-clause-turns : goal.returns-clause-turns
returns-clause-turns c =
    let q = c.in_ok-q.ensures.combines in
    rw (← q.first.tree, ← q.second.tree, ← q.total.tree) c.sub_eq_of_add.ensures.turns
