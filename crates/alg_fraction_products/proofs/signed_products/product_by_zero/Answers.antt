use Rattle.std.proofs.Common.{sym, arith, ◌∙◌}
use Rattle.alg_fraction_products.proofs.signed_products.product_by_zero.Goals as goal

pub zero_by-requires-clause-zero : goal.zero_by-requires-clause-zero
zero_by-requires-clause-zero c = sym c.size_of_fraction-a.ensures.top ∙ c.if-a-eq0.true

pub by_zero-requires-clause-zero : goal.by_zero-requires-clause-zero
by_zero-requires-clause-zero c = sym c.size_of_fraction-b.ensures.top ∙ c.if-b-eq0.true

pub product_by_sign-requires-clause-first_some : goal.product_by_sign-requires-clause-first_some
product_by_sign-requires-clause-first_some c = omega (arith, c.size_of_fraction-a.ensures.top, c.if-a-eq0.false)

pub product_by_sign-requires-clause-second_some : goal.product_by_sign-requires-clause-second_some
product_by_sign-requires-clause-second_some c = omega (arith, c.size_of_fraction-b.ensures.top, c.if-b-eq0.false)
