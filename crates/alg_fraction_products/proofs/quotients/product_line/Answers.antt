use Rattle.alg_build.proofs.Rewritings.{is-rewriting}
use Rattle.alg_fractions.proofs.FractionLemmas.{quotients-fraction}
use Rattle.alg_fraction_products.proofs.quotients.product_line.Goals as goal

pub product_of_fractions-requires-clause-first : goal.product_of_fractions-requires-clause-first
product_of_fractions-requires-clause-first c = quotients-fraction _ _ _ c.requires.quotients

pub product_of_fractions-requires-clause-second : goal.product_of_fractions-requires-clause-second
product_of_fractions-requires-clause-second c = quotients-fraction _ _ _ c.requires.quotients

pub line_of-requires : goal.line_of-requires
line_of-requires c = is-rewriting _ _ _ _ _ c.in_ok-r.ensures.turns

pub returns-clause-proves : goal.returns-clause-proves
returns-clause-proves c = c.in_ok-line.ensures.proves _ _ _ c.in_ok-r.ensures.turns
