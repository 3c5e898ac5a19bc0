use Rattle.alg_build.proofs.Rewritings.{is-rewriting}
use Rattle.alg_fraction_products.proofs.multiples.integer_multiple_line.Goals as goal

pub line_of-requires : goal.line_of-requires
line_of-requires c = is-rewriting _ _ _ _ _ c.in_ok-r.ensures.turns

pub returns-clause-proves : goal.returns-clause-proves
returns-clause-proves c = c.in_ok-line.ensures.proves _ _ _ c.in_ok-r.ensures.turns
