use Rattle.alg_build.proofs.Rewritings.{grows-stands, grows-turns}
use Rattle.alg_build.proofs.Lines.{grows-then}
use Rattle.alg_fraction_sums.proofs.sums.sum_by.Goals as goal

pub equal_by_products-requires-clause-left_turns : goal.equal_by_products-requires-clause-left_turns
equal_by_products-requires-clause-left_turns c =
    let a = grows-stands _ _ c.signed_size.ensures.grows _ _ _ c.in_ok-a.ensures.stands in
    rw a.tree (grows-turns _ _ (grows-then _ _ _ c.sum_tree_of.ensures.grows c.signed_size.ensures.grows) _ _ _ _ c.requires.left_turns)

pub equal_by_products-requires-clause-right_turns : goal.equal_by_products-requires-clause-right_turns
equal_by_products-requires-clause-right_turns c =
    rw c.in_ok-b.ensures.stands.tree (grows-turns _ _ (grows-then _ _ _ c.sum_tree_of.ensures.grows c.signed_size.ensures.grows) _ _ _ _ c.requires.right_turns)

pub returns-clause-turns : goal.returns-clause-turns
returns-clause-turns c =
    let a = grows-stands _ _ c.signed_size.ensures.grows _ _ _ c.in_ok-a.ensures.stands in
    rw (← a.tree, ← c.in_ok-b.ensures.stands.tree) c.equal_by_products.ensures.turns
