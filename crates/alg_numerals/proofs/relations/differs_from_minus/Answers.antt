use Rattle.alg_numerals.proofs.LiteralLemmas.{grows-combines}
use Rattle.alg_numerals.proofs.relations.differs_from_minus.Goals as goal

pub pos_ne_neg-requires-clause-second_line : goal.pos_ne_neg-requires-clause-second_line
pos_ne_neg-requires-clause-second_line c =
    let q = grows-combines _ _ c.relation_of_literals.ensures.grows _ _ _ _ _ _ c.in_ok-q.ensures.combines in
    rw q.total.tree c.in_ok-line.ensures.concludes

pub returns-clause-concludes : goal.returns-clause-concludes
returns-clause-concludes c =
    let q = grows-combines _ _ c.relation_of_literals.ensures.grows _ _ _ _ _ _ c.in_ok-q.ensures.combines in
    rw (← q.first.tree, ← q.second.tree) c.pos_ne_neg.ensures.concludes
