use Rattle.alg_fraction_products.proofs.SignTrees.{plus-tree, minus-tree, multiply}
use Rattle.alg_fraction_products.proofs.SignNumbers.{minus-minus, minus-plus}
use Rattle.alg_fraction_products.proofs.signed_products.minus_by_sign.Goals as goal

pub minus_by_minus-requires-clause-multiply : goal.minus_by_minus-requires-clause-multiply
minus_by_minus-requires-clause-multiply c = multiply c.args.x c.args.y c.args.z _ _ _ c.size_of_fraction-a.ensures c.size_of_fraction-b.ensures c.size_of_fraction-c.ensures c.requires.multiplies

pub minus_by_size-requires-clause-multiply : goal.minus_by_size-requires-clause-multiply
minus_by_size-requires-clause-multiply c = multiply c.args.x c.args.y c.args.z _ _ _ c.size_of_fraction-a.ensures c.size_of_fraction-b.ensures c.size_of_fraction-c.ensures c.requires.multiplies

pub returns-then-is_below-clause-turns : goal.returns-then-is_below-clause-turns
returns-then-is_below-clause-turns c =
    let k = c.is_below.ensures.yes c.if-is_below.true in
    rw (minus-tree c.args.sort c.args.x _ c.size_of_fraction-a.ensures c.requires.below, minus-tree c.args.sort c.args.y _ c.size_of_fraction-b.ensures k, plus-tree c.args.sort c.args.z _ c.size_of_fraction-c.ensures (minus-minus c.args.x c.args.y c.args.z c.size_of_fraction-a.ensures.lowest c.size_of_fraction-b.ensures.lowest c.requires.multiplies c.requires.below k)) c.minus_by_minus.ensures.turns

pub returns-else-is_below-clause-turns : goal.returns-else-is_below-clause-turns
returns-else-is_below-clause-turns c =
    let k = c.is_below.ensures.no c.if-is_below.false in
    rw (minus-tree c.args.sort c.args.x _ c.size_of_fraction-a.ensures c.requires.below, plus-tree c.args.sort c.args.y _ c.size_of_fraction-b.ensures k, minus-tree c.args.sort c.args.z _ c.size_of_fraction-c.ensures (minus-plus c.args.x c.args.y c.args.z c.size_of_fraction-a.ensures.lowest c.size_of_fraction-b.ensures.lowest c.requires.multiplies c.requires.below k c.requires.second_some)) c.minus_by_size.ensures.turns
