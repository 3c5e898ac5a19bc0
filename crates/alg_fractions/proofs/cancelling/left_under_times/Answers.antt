use Rattle.alg_build.proofs.Rewritings.{grows-turns, turns-in}
use Rattle.alg_numerals.proofs.LiteralLemmas.{grows-literals}
use Rattle.alg_fractions.proofs.SizeLemmas.{literals-semigroup}
use Rattle.alg_fractions.proofs.cancelling.left_under_times.Goals as goal

pub times-requires-clause-class : goal.times-requires-clause-class
times-requires-clause-class c = literals-semigroup _ _ (grows-literals _ _ c.literal.ensures.grows _ c.requires.quotients.signs.literals)

pub times-requires-clause-right : goal.times-requires-clause-right
times-requires-clause-right c = turns-in _ _ _ _ _ (c.keep-right.ensures _ _ c.in_ok-e.ensures.stands)

pub returns-clause-turns : goal.returns-clause-turns
returns-clause-turns c = λ a b h. c.in_ok-r.ensures.turns _ _ _ _ (grows-turns _ _ c.literal.ensures.grows _ _ _ _ h) (c.keep-right.ensures _ _ c.in_ok-e.ensures.stands)
