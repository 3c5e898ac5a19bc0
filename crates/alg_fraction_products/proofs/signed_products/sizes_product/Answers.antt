use Rattle.alg_build.proofs.Lines.{grows-proves}
use Rattle.alg_numerals.proofs.LiteralLemmas.{combines}
use Rattle.alg_fraction_products.proofs.signed_products.sizes_product.Goals as goal

pub three_sizes-requires-clause-first_small : goal.three_sizes-requires-clause-first_small
three_sizes-requires-clause-first_small c = c.requires.multiply.first

pub three_sizes-requires-clause-second_small : goal.three_sizes-requires-clause-second_small
three_sizes-requires-clause-second_small c = c.requires.multiply.second

pub three_sizes-requires-clause-small : goal.three_sizes-requires-clause-small
three_sizes-requires-clause-small c = c.requires.multiply.product

pub returns-clause-combines : goal.returns-clause-combines
returns-clause-combines c =
    let q = c.in_ok-t.ensures in
    combines _ _ _ _ _ _ _ _ q.first q.second q.total q.line (grows-proves _ _ _ _ _ c.three_sizes.ensures.grows c.in_ok-line.ensures.proves)
