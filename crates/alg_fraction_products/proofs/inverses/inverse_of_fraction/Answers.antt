use Rattle.std.proofs.Common.{sym, arith, ◌∙◌, ◌<◌}
use Rattle.alg_fraction_products.proofs.SignTrees.{plus-tree, minus-tree, zero-tree, no-size, plus-inverse_tree, minus-inverse_tree}
use Rattle.alg_fraction_products.proofs.inverses.inverse_of_fraction.Goals as goal

pub minus_size_inverse-requires-clause-first_above : goal.minus_size_inverse-requires-clause-first_above
minus_size_inverse-requires-clause-first_above c = omega (arith, c.if-a-eq0.false)

pub minus_size_inverse-requires-clause-second_above : goal.minus_size_inverse-requires-clause-second_above
minus_size_inverse-requires-clause-second_above c = omega (arith, c.size_of_fraction-a.ensures.bottom, c.size_of_fraction-a.ensures.lowest.positive)

pub minus_size_inverse-requires-clause-first_small : goal.minus_size_inverse-requires-clause-first_small
minus_size_inverse-requires-clause-first_small c = c.size_of_fraction-a.ensures.small.top

pub minus_size_inverse-requires-clause-second_small : goal.minus_size_inverse-requires-clause-second_small
minus_size_inverse-requires-clause-second_small c = c.size_of_fraction-a.ensures.small.bottom

pub size_inverse-requires-clause-first_above : goal.size_inverse-requires-clause-first_above
size_inverse-requires-clause-first_above c = omega (arith, c.if-a-eq0.false)

pub size_inverse-requires-clause-second_above : goal.size_inverse-requires-clause-second_above
size_inverse-requires-clause-second_above c = omega (arith, c.size_of_fraction-a.ensures.bottom, c.size_of_fraction-a.ensures.lowest.positive)

pub size_inverse-requires-clause-first_small : goal.size_inverse-requires-clause-first_small
size_inverse-requires-clause-first_small c = c.size_of_fraction-a.ensures.small.top

pub size_inverse-requires-clause-second_small : goal.size_inverse-requires-clause-second_small
size_inverse-requires-clause-second_small c = c.size_of_fraction-a.ensures.small.bottom

pub returns-then-a-eq0-clause-turns : goal.returns-then-a-eq0-clause-turns
returns-then-a-eq0-clause-turns c =
    let u = no-size c.args.x.numerator (sym c.size_of_fraction-a.ensures.top ∙ c.if-a-eq0.true) in
    rw (zero-tree c.args.sort c.args.x c.size_of_fraction-a.ensures.lowest u, zero-tree c.args.sort c.args.z c.requires.inverts.lowest (c.requires.inverts.at_zero u)) c.inv_zero.ensures.turns

pub returns-then-is_below-clause-turns : goal.returns-then-is_below-clause-turns
returns-then-is_below-clause-turns c =
    let k = c.is_below.ensures.yes c.if-is_below.true in
    rw (minus-tree c.args.sort c.args.x _ c.size_of_fraction-a.ensures k, minus-inverse_tree c.args.sort c.args.z c.args.x _ c.size_of_fraction-a.ensures c.requires.inverts k) c.minus_size_inverse.ensures.turns

pub returns-else-is_below-clause-turns : goal.returns-else-is_below-clause-turns
returns-else-is_below-clause-turns c =
    let k = c.is_below.ensures.no c.if-is_below.false in
    let l : 0 < c.size_of_fraction-a.result.top = omega (arith, c.if-a-eq0.false) in
    rw (plus-tree c.args.sort c.args.x _ c.size_of_fraction-a.ensures k, plus-inverse_tree c.args.sort c.args.z c.args.x _ c.size_of_fraction-a.ensures c.requires.inverts k l) c.size_inverse.ensures.turns
