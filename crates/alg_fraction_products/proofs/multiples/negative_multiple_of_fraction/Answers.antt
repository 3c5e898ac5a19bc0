use Rattle.alg_build.proofs.Lines.{grows-then, grows-proves}
use Rattle.alg_numerals.proofs.LiteralLemmas.{grows-signs}
use Rattle.alg_fractions.proofs.FractionLemmas.{grows-fraction}
use Rattle.alg_fraction_products.proofs.HavingLemmas.{multiple-has}
use Rattle.alg_fraction_products.proofs.multiples.negative_multiple_of_fraction.Goals as goal

pub negation_line-requires-clause-signs : goal.negation_line-requires-clause-signs
negation_line-requires-clause-signs c = grows-signs _ _ c.integer_multiple_line.ensures.grows _ c.requires.signs

pub negation_line-requires-clause-first : goal.negation_line-requires-clause-first
negation_line-requires-clause-first c = multiple-has _ _ c.args.n c.args.x c.args.z c.den-lowest.ensures.lowest (grows-fraction _ _ c.integer_multiple_line.ensures.grows _ _ c.requires.first) c.requires.multiplies

pub negative_multiple_by-requires-clause-signs : goal.negative_multiple_by-requires-clause-signs
negative_multiple_by-requires-clause-signs c = grows-signs _ _ (grows-then _ _ _ c.integer_multiple_line.ensures.grows c.negation_line.ensures.grows) _ c.requires.signs

pub negative_multiple_by-requires-clause-first : goal.negative_multiple_by-requires-clause-first
negative_multiple_by-requires-clause-first c = grows-fraction _ _ (grows-then _ _ _ c.integer_multiple_line.ensures.grows c.negation_line.ensures.grows) _ _ c.requires.first

pub negative_multiple_by-requires-clause-second : goal.negative_multiple_by-requires-clause-second
negative_multiple_by-requires-clause-second c = multiple-has _ _ c.args.n c.args.x c.args.z c.den-lowest.ensures.lowest (grows-fraction _ _ (grows-then _ _ _ c.integer_multiple_line.ensures.grows c.negation_line.ensures.grows) _ _ c.requires.first) c.requires.multiplies

pub negative_multiple_by-requires-clause-multiple : goal.negative_multiple_by-requires-clause-multiple
negative_multiple_by-requires-clause-multiple c = grows-proves _ _ _ _ _ c.negation_line.ensures.grows c.in_ok-line.ensures.proves

pub negative_multiple_by-requires-clause-minus : goal.negative_multiple_by-requires-clause-minus
negative_multiple_by-requires-clause-minus c = c.in_ok-minus.ensures.proves
