use Rattle.alg_arithmetic.proofs.Having.{fits_fraction}
use Rattle.alg_arithmetic.proofs.Trees.{same_signed, same_numeral}
use Rattle.alg_arithmetic.proofs.evaluating.shown.Goals as goal

pub shown-requires : goal.shown-requires
shown-requires c = record { first = fits_fraction _ _ c.requires.known c.requires.library _ c.requires.fits }

pub returns-clause-turns : goal.returns-clause-turns
returns-clause-turns c = rw (← same_signed c.args.sort c.args.x, ← same_numeral c.args.sort c.args.x) c.shown.ensures.turns
