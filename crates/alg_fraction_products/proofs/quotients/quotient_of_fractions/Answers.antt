use Rattle.alg_build.proofs.Lines.{grows-then, grows-proves}
use Rattle.alg_fractions.proofs.SizeLemmas.{grows-quotients}
use Rattle.alg_fraction_products.proofs.quotients.quotient_of_fractions.Goals as goal

pub product_line-requires-clause-quotients : goal.product_line-requires-clause-quotients
product_line-requires-clause-quotients c = grows-quotients _ _ c.inverse_line.ensures.grows _ c.requires.quotients

pub quotient_by-requires-clause-quotients : goal.quotient_by-requires-clause-quotients
quotient_by-requires-clause-quotients c = grows-quotients _ _ (grows-then _ _ _ c.inverse_line.ensures.grows c.product_line.ensures.grows) _ c.requires.quotients

pub quotient_by-requires-clause-inverts : goal.quotient_by-requires-clause-inverts
quotient_by-requires-clause-inverts c = grows-proves _ _ _ _ _ c.product_line.ensures.grows c.in_ok-inverse.ensures.proves

pub quotient_by-requires-clause-multiplies : goal.quotient_by-requires-clause-multiplies
quotient_by-requires-clause-multiplies c = c.in_ok-product.ensures.proves
