use Rattle.alg_numerals.proofs.LiteralLemmas.{own-stands}
use Rattle.alg_fractions.proofs.SizeLemmas.{grows-quotients}
use Rattle.alg_fraction_products.proofs.SignTrees.{zero-tree, no-size}
use Rattle.alg_fraction_products.proofs.SignNumbers.{zero-first}
use Rattle.alg_fraction_products.proofs.signed_products.zero_by.Goals as goal

pub zero_mul-requires-clause-a_stands : goal.zero_mul-requires-clause-a_stands
zero_mul-requires-clause-a_stands c = own-stands _ _ _ _ c.in_ok-e.ensures.stands

pub zero_mul-requires-clause-semiring : goal.zero_mul-requires-clause-semiring
zero_mul-requires-clause-semiring c = (grows-quotients _ _ c.signed_size.ensures.grows _ c.requires.quotients).signs.literals.semiring

pub returns-clause-turns : goal.returns-clause-turns
returns-clause-turns c =
    let u = no-size c.args.x.numerator c.requires.zero in
    rw (zero-tree c.args.sort c.args.x c.den-first.ensures.lowest u, zero-tree c.args.sort c.args.z c.den-total.ensures.lowest (zero-first c.args.x c.args.y c.args.z c.den-first.ensures.lowest c.den-second.ensures.lowest c.requires.multiplies u), ← c.in_ok-e.ensures.stands.tree) c.zero_mul.ensures.turns
