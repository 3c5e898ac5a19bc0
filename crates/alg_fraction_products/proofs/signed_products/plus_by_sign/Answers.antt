use Rattle.alg_fraction_products.proofs.SignTrees.{plus-tree, minus-tree, multiply}
use Rattle.alg_fraction_products.proofs.SignNumbers.{plus-plus, plus-minus}
use Rattle.alg_fraction_products.proofs.signed_products.plus_by_sign.Goals as goal

pub size_by_minus-requires-clause-multiply : goal.size_by_minus-requires-clause-multiply
size_by_minus-requires-clause-multiply c = multiply c.args.x c.args.y c.args.z _ _ _ c.size_of_fraction-a.ensures c.size_of_fraction-b.ensures c.size_of_fraction-c.ensures c.requires.multiplies

pub product_of_sizes-requires-clause-multiply : goal.product_of_sizes-requires-clause-multiply
product_of_sizes-requires-clause-multiply c = multiply c.args.x c.args.y c.args.z _ _ _ c.size_of_fraction-a.ensures c.size_of_fraction-b.ensures c.size_of_fraction-c.ensures c.requires.multiplies

pub returns-then-is_below-clause-turns : goal.returns-then-is_below-clause-turns
returns-then-is_below-clause-turns c =
    let k = c.is_below.ensures.yes c.if-is_below.true in
    rw (plus-tree c.args.sort c.args.x _ c.size_of_fraction-a.ensures c.requires.at_least, minus-tree c.args.sort c.args.y _ c.size_of_fraction-b.ensures k, minus-tree c.args.sort c.args.z _ c.size_of_fraction-c.ensures (plus-minus c.args.x c.args.y c.args.z c.size_of_fraction-a.ensures.lowest c.size_of_fraction-b.ensures.lowest c.requires.multiplies c.requires.at_least c.requires.first_some k)) c.size_by_minus.ensures.turns

pub returns-else-is_below-clause-turns : goal.returns-else-is_below-clause-turns
returns-else-is_below-clause-turns c =
    let k = c.is_below.ensures.no c.if-is_below.false in
    rw (plus-tree c.args.sort c.args.x _ c.size_of_fraction-a.ensures c.requires.at_least, plus-tree c.args.sort c.args.y _ c.size_of_fraction-b.ensures k, plus-tree c.args.sort c.args.z _ c.size_of_fraction-c.ensures (plus-plus c.args.x c.args.y c.args.z c.size_of_fraction-a.ensures.lowest c.size_of_fraction-b.ensures.lowest c.requires.multiplies c.requires.at_least k)) c.product_of_sizes.ensures.turns
