use Rattle.std.proofs.Common.{◌∙◌}
use Rattle.alg_fraction_numbers.proofs.CommonLemmas.{back}
use Rattle.alg_fractions.proofs.FractionLemmas.{signed-whole}
use Rattle.alg_fraction_products.proofs.SignTrees.{total-tree, total-fits}
use Rattle.alg_fraction_products.proofs.signed_products.product_of_wholes.Goals as goal

pub product_of_integers-requires-clause-first : goal.product_of_integers-requires-clause-first
product_of_integers-requires-clause-first c = rw (back c.num-m.result c.num-m.ensures.small, c.num-m.ensures.number) c.requires.first

pub product_of_integers-requires-clause-second : goal.product_of_integers-requires-clause-second
product_of_integers-requires-clause-second c = rw (back c.num-n.result c.num-n.ensures.small, c.num-n.ensures.number) c.requires.second

pub product_of_integers-requires-clause-first_small : goal.product_of_integers-requires-clause-first_small
product_of_integers-requires-clause-first_small c = rw (back c.num-m.result c.num-m.ensures.small) c.num-m.ensures.small

pub product_of_integers-requires-clause-second_small : goal.product_of_integers-requires-clause-second_small
product_of_integers-requires-clause-second_small c = rw (back c.num-n.result c.num-n.ensures.small) c.num-n.ensures.small

pub product_of_integers-requires-clause-small : goal.product_of_integers-requires-clause-small
product_of_integers-requires-clause-small c =
    let m = back c.num-m.result c.num-m.ensures.small ∙ c.num-m.ensures.number in
    let n = back c.num-n.result c.num-n.ensures.small ∙ c.num-n.ensures.number in
    let t = rw c.num-total.ensures.number at c.num-total.ensures.small in
    rw (m, n) (total-fits c.args.x c.args.y c.args.z c.requires.first_whole c.requires.second_whole c.requires.multiplies t)

pub returns-clause-turns : goal.returns-clause-turns
returns-clause-turns c =
    let m = back c.num-m.result c.num-m.ensures.small ∙ c.num-m.ensures.number in
    let n = back c.num-n.result c.num-n.ensures.small ∙ c.num-n.ensures.number in
    let t = rw (m, n) at c.product_of_integers.ensures.turns in
    rw (signed-whole c.args.sort c.args.x.numerator c.args.x.denominator c.requires.first_whole, signed-whole c.args.sort c.args.y.numerator c.args.y.denominator c.requires.second_whole, total-tree c.args.x c.args.y c.args.z c.requires.first_whole c.requires.second_whole c.requires.multiplies c.args.sort) t
