use Rattle.alg_fraction_products.proofs.signed_products.product_by_sign.Goals as goal

pub minus_by_sign-requires-clause-below : goal.minus_by_sign-requires-clause-below
minus_by_sign-requires-clause-below c = c.is_below.ensures.yes c.if-is_below.true

pub plus_by_sign-requires-clause-at_least : goal.plus_by_sign-requires-clause-at_least
plus_by_sign-requires-clause-at_least c = c.is_below.ensures.no c.if-is_below.false
