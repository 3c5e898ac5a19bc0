use Rattle.alg_build.proofs.Rewritings.{grows-turns, follows}
use Rattle.alg_fractions.proofs.FractionLemmas.{grows-fraction}
use Rattle.alg_fraction_products.proofs.SignTrees.{literal-tree}
use Rattle.alg_fraction_products.proofs.HavingLemmas.{literal-has}
use Rattle.alg_fraction_products.proofs.multiples.multiple_of_fraction.Goals as goal

pub product_of_fractions-requires-clause-first : goal.product_of_fractions-requires-clause-first
product_of_fractions-requires-clause-first c = rw c.whole_fraction-factor.ensures (literal-has _ _ _ (grows-fraction _ _ c.multiple_as_product.ensures.grows _ _ c.requires.first).whole.literals)

pub product_of_fractions-requires-clause-second : goal.product_of_fractions-requires-clause-second
product_of_fractions-requires-clause-second c = (grows-fraction _ _ c.multiple_as_product.ensures.grows _ _ c.requires.first)

pub product_of_fractions-requires-clause-multiplies : goal.product_of_fractions-requires-clause-multiplies
product_of_fractions-requires-clause-multiplies c = rw c.whole_fraction-factor.ensures c.requires.multiplies

pub then-requires : goal.then-requires
then-requires c =
    let t = rw c.whole_fraction-factor.ensures at c.in_ok-total.ensures.turns in
    let u = rw (literal-tree c.args.sort c.args.n) at t in
    let h = grows-turns _ _ c.product_of_fractions.ensures.grows _ _ _ _ c.in_ok-crossed.ensures.turns in
    follows _ _ _ _ _ _ _ h u

pub returns-clause-turns : goal.returns-clause-turns
returns-clause-turns c =
    let t = rw c.whole_fraction-factor.ensures at c.in_ok-total.ensures.turns in
    let u = rw (literal-tree c.args.sort c.args.n) at t in
    let h = grows-turns _ _ c.product_of_fractions.ensures.grows _ _ _ _ c.in_ok-crossed.ensures.turns in
    c.in_ok-r.ensures.turns _ _ _ _ h u
