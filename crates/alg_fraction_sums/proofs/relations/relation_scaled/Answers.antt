use Rattle.alg_build.proofs.Leading.{concludes-grows}
use Rattle.alg_fraction_sums.proofs.relations.relation_scaled.Goals as goal

pub cancelled-requires-clause-relation : goal.cancelled-requires-clause-relation
cancelled-requires-clause-relation c =
    rw (c.in_ok-a.ensures.first.tree, c.in_ok-a.ensures.second.tree, c.den.ensures.number, c.den-2.ensures.number)
    (concludes-grows _ _ _ _ c.two_products.ensures.grows c.in_ok-line.ensures.concludes)
