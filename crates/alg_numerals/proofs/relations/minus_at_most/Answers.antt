use Rattle.alg_numerals.proofs.RelationLemmas.{grows-compares, own-second}
use Rattle.alg_numerals.proofs.relations.minus_at_most.Goals as goal

pub neg_le_nonneg-requires-clause-first_line : goal.neg_le_nonneg-requires-clause-first_line
neg_le_nonneg-requires-clause-first_line c = own-second _ _ _ _ _ _ (grows-compares _ _ c.compared_literals-2.ensures.grows _ _ _ _ _ c.in_ok-p.ensures.compares)

pub returns-clause-concludes : goal.returns-clause-concludes
returns-clause-concludes c =
    let p = grows-compares _ _ c.compared_literals-2.ensures.grows _ _ _ _ _ c.in_ok-p.ensures.compares in
    let q = c.in_ok-q.ensures.compares in
    rw (← p.second.tree, ← q.second.tree) c.neg_le_nonneg.ensures.concludes
