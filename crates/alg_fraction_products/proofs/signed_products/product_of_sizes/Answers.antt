use Rattle.std.proofs.Common.{arith}
use Rattle.alg_fraction_products.proofs.ProductNumbers.{is-crossed, top-joined, bottom-joined}
use Rattle.alg_fraction_products.proofs.signed_products.product_of_sizes.Goals as goal

pub joined-requires-clause-first_small : goal.joined-requires-clause-first_small
joined-requires-clause-first_small c = c.requires.multiply.first.top

pub joined-requires-clause-first_over : goal.joined-requires-clause-first_over
joined-requires-clause-first_over c = c.requires.multiply.first.bottom

pub joined-requires-clause-second_small : goal.joined-requires-clause-second_small
joined-requires-clause-second_small c = c.requires.multiply.second.top

pub joined-requires-clause-second_over : goal.joined-requires-clause-second_over
joined-requires-clause-second_over c = c.requires.multiply.second.bottom

pub joined-requires-clause-first_above : goal.joined-requires-clause-first_above
joined-requires-clause-first_above c = c.requires.multiply.sizes.first.positive

pub joined-requires-clause-second_above : goal.joined-requires-clause-second_above
joined-requires-clause-second_above c = c.requires.multiply.sizes.second.positive

pub joined-requires-clause-small : goal.joined-requires-clause-small
joined-requires-clause-small c = omega (arith, top-joined c.args.a.top c.args.a.bottom c.args.b.top c.args.b.bottom c.args.c.top c.args.c.bottom c.requires.multiply.sizes c.gcd-left.result c.gcd-right.result c.gcd-left.ensures c.gcd-right.ensures (c.both_one.ensures.yes c.if-both_one.true).0 (c.both_one.ensures.yes c.if-both_one.true).1, c.requires.multiply.product.top)

pub joined-requires-clause-over : goal.joined-requires-clause-over
joined-requires-clause-over c = omega (arith, bottom-joined c.args.a.top c.args.a.bottom c.args.b.top c.args.b.bottom c.args.c.top c.args.c.bottom c.requires.multiply.sizes c.gcd-left.result c.gcd-right.result c.gcd-left.ensures c.gcd-right.ensures (c.both_one.ensures.yes c.if-both_one.true).0 (c.both_one.ensures.yes c.if-both_one.true).1, c.requires.multiply.product.bottom)

pub nonzero_div-first : goal.nonzero_div-first
nonzero_div-first c =
    let w = is-crossed c.args.a.top c.args.a.bottom c.args.b.top c.args.b.bottom c.args.c.top c.args.c.bottom c.requires.multiply.sizes c.gcd-left.result c.gcd-right.result c.gcd-left.ensures c.gcd-right.ensures in
    omega (arith, w.left_above)

pub nonzero_div-first_over : goal.nonzero_div-first_over
nonzero_div-first_over c =
    let w = is-crossed c.args.a.top c.args.a.bottom c.args.b.top c.args.b.bottom c.args.c.top c.args.c.bottom c.requires.multiply.sizes c.gcd-left.result c.gcd-right.result c.gcd-left.ensures c.gcd-right.ensures in
    omega (arith, w.right_above)

pub nonzero_div-second : goal.nonzero_div-second
nonzero_div-second c =
    let w = is-crossed c.args.a.top c.args.a.bottom c.args.b.top c.args.b.bottom c.args.c.top c.args.c.bottom c.requires.multiply.sizes c.gcd-left.result c.gcd-right.result c.gcd-left.ensures c.gcd-right.ensures in
    omega (arith, w.right_above)

pub nonzero_div-second_over : goal.nonzero_div-second_over
nonzero_div-second_over c =
    let w = is-crossed c.args.a.top c.args.a.bottom c.args.b.top c.args.b.bottom c.args.c.top c.args.c.bottom c.requires.multiply.sizes c.gcd-left.result c.gcd-right.result c.gcd-left.ensures c.gcd-right.ensures in
    omega (arith, w.left_above)

pub product_crossed-requires-clause-first_above : goal.product_crossed-requires-clause-first_above
product_crossed-requires-clause-first_above c =
    let w = is-crossed c.args.a.top c.args.a.bottom c.args.b.top c.args.b.bottom c.args.c.top c.args.c.bottom c.requires.multiply.sizes c.gcd-left.result c.gcd-right.result c.gcd-left.ensures c.gcd-right.ensures in
    w.first_above

pub product_crossed-requires-clause-second_above : goal.product_crossed-requires-clause-second_above
product_crossed-requires-clause-second_above c =
    let w = is-crossed c.args.a.top c.args.a.bottom c.args.b.top c.args.b.bottom c.args.c.top c.args.c.bottom c.requires.multiply.sizes c.gcd-left.result c.gcd-right.result c.gcd-left.ensures c.gcd-right.ensures in
    w.second_above

pub product_crossed-requires-clause-left_above : goal.product_crossed-requires-clause-left_above
product_crossed-requires-clause-left_above c =
    let w = is-crossed c.args.a.top c.args.a.bottom c.args.b.top c.args.b.bottom c.args.c.top c.args.c.bottom c.requires.multiply.sizes c.gcd-left.result c.gcd-right.result c.gcd-left.ensures c.gcd-right.ensures in
    w.left_above

pub product_crossed-requires-clause-right_above : goal.product_crossed-requires-clause-right_above
product_crossed-requires-clause-right_above c =
    let w = is-crossed c.args.a.top c.args.a.bottom c.args.b.top c.args.b.bottom c.args.c.top c.args.c.bottom c.requires.multiply.sizes c.gcd-left.result c.gcd-right.result c.gcd-left.ensures c.gcd-right.ensures in
    w.right_above

pub product_crossed-requires-clause-common : goal.product_crossed-requires-clause-common
product_crossed-requires-clause-common c = c.both_one.ensures.no c.if-both_one.false

pub product_crossed-requires-clause-first_small : goal.product_crossed-requires-clause-first_small
product_crossed-requires-clause-first_small c =
    let w = is-crossed c.args.a.top c.args.a.bottom c.args.b.top c.args.b.bottom c.args.c.top c.args.c.bottom c.requires.multiply.sizes c.gcd-left.result c.gcd-right.result c.gcd-left.ensures c.gcd-right.ensures in
    omega (arith, w.first, c.requires.multiply.first.top)

pub product_crossed-requires-clause-first_over : goal.product_crossed-requires-clause-first_over
product_crossed-requires-clause-first_over c =
    let w = is-crossed c.args.a.top c.args.a.bottom c.args.b.top c.args.b.bottom c.args.c.top c.args.c.bottom c.requires.multiply.sizes c.gcd-left.result c.gcd-right.result c.gcd-left.ensures c.gcd-right.ensures in
    omega (arith, w.first_over, c.requires.multiply.first.bottom)

pub product_crossed-requires-clause-second_small : goal.product_crossed-requires-clause-second_small
product_crossed-requires-clause-second_small c =
    let w = is-crossed c.args.a.top c.args.a.bottom c.args.b.top c.args.b.bottom c.args.c.top c.args.c.bottom c.requires.multiply.sizes c.gcd-left.result c.gcd-right.result c.gcd-left.ensures c.gcd-right.ensures in
    omega (arith, w.second, c.requires.multiply.second.top)

pub product_crossed-requires-clause-second_over : goal.product_crossed-requires-clause-second_over
product_crossed-requires-clause-second_over c =
    let w = is-crossed c.args.a.top c.args.a.bottom c.args.b.top c.args.b.bottom c.args.c.top c.args.c.bottom c.requires.multiply.sizes c.gcd-left.result c.gcd-right.result c.gcd-left.ensures c.gcd-right.ensures in
    omega (arith, w.second_over, c.requires.multiply.second.bottom)

pub product_crossed-requires-clause-small : goal.product_crossed-requires-clause-small
product_crossed-requires-clause-small c =
    let w = is-crossed c.args.a.top c.args.a.bottom c.args.b.top c.args.b.bottom c.args.c.top c.args.c.bottom c.requires.multiply.sizes c.gcd-left.result c.gcd-right.result c.gcd-left.ensures c.gcd-right.ensures in
    omega (arith, w.top, c.requires.multiply.product.top)

pub product_crossed-requires-clause-over : goal.product_crossed-requires-clause-over
product_crossed-requires-clause-over c =
    let w = is-crossed c.args.a.top c.args.a.bottom c.args.b.top c.args.b.bottom c.args.c.top c.args.c.bottom c.requires.multiply.sizes c.gcd-left.result c.gcd-right.result c.gcd-left.ensures c.gcd-right.ensures in
    omega (arith, w.bottom, c.requires.multiply.product.bottom)

pub returns-then-both_one-clause-turns : goal.returns-then-both_one-clause-turns
returns-then-both_one-clause-turns c = rw (top-joined c.args.a.top c.args.a.bottom c.args.b.top c.args.b.bottom c.args.c.top c.args.c.bottom c.requires.multiply.sizes c.gcd-left.result c.gcd-right.result c.gcd-left.ensures c.gcd-right.ensures (c.both_one.ensures.yes c.if-both_one.true).0 (c.both_one.ensures.yes c.if-both_one.true).1, bottom-joined c.args.a.top c.args.a.bottom c.args.b.top c.args.b.bottom c.args.c.top c.args.c.bottom c.requires.multiply.sizes c.gcd-left.result c.gcd-right.result c.gcd-left.ensures c.gcd-right.ensures (c.both_one.ensures.yes c.if-both_one.true).0 (c.both_one.ensures.yes c.if-both_one.true).1) at c.joined.ensures.turns

pub returns-else-both_one-clause-turns : goal.returns-else-both_one-clause-turns
returns-else-both_one-clause-turns c =
    let w = is-crossed c.args.a.top c.args.a.bottom c.args.b.top c.args.b.bottom c.args.c.top c.args.c.bottom c.requires.multiply.sizes c.gcd-left.result c.gcd-right.result c.gcd-left.ensures c.gcd-right.ensures in
    rw (w.first, w.first_over, w.second, w.second_over, w.top, w.bottom) at c.product_crossed.ensures.turns
