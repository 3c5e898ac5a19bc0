use Rattle.alg_build.proofs.Leading.{concludes-grows}
use Rattle.alg_fractions.proofs.FractionLemmas.{grows-fraction}
use Rattle.alg_numerals.proofs.LiteralLemmas.{own-stands}
use Rattle.alg_order_exts.proofs.absolutes.absolute_of_itself.Goals as goal

pub numeral_of_fraction-requires : goal.numeral_of_fraction-requires
numeral_of_fraction-requires c = record { has = grows-fraction _ _ c.in_ok-line.ensures.grows _ _ c.requires.has }

pub abs_of_nonneg-requires-clause-a_stands : goal.abs_of_nonneg-requires-clause-a_stands
abs_of_nonneg-requires-clause-a_stands c = own-stands _ _ _ _ c.in_ok-a.ensures.stands

pub abs_of_nonneg-requires-clause-line : goal.abs_of_nonneg-requires-clause-line
abs_of_nonneg-requires-clause-line c = rw c.in_ok-a.ensures.stands.tree (concludes-grows _ _ _ _ c.in_ok-a.ensures.grows c.in_ok-line.ensures.concludes)

pub returns-clause-turns : goal.returns-clause-turns
returns-clause-turns c = rw (← c.in_ok-a.ensures.stands.tree) c.in_ok-r.ensures.turns
