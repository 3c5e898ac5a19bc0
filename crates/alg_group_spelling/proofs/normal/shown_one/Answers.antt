use Rattle.alg_group_spelling.proofs.NormalLemmas.{shown-first, shown-inverse}
use Rattle.alg_group_spelling.proofs.normal.shown_one.Goals as goal

pub inverse_power-requires-clause-base : goal.inverse_power-requires-clause-base
inverse_power-requires-clause-base c = c.requires.power.atom

pub returns-then-is_below-clause-turns : goal.returns-then-is_below-clause-turns
returns-then-is_below-clause-turns c = shown-inverse _ _ _ _ _ c.requires.one (c.is_below.ensures.below c.if-is_below.true) c.in_ok-down.ensures.turns

pub first_power-requires-clause-base : goal.first_power-requires-clause-base
first_power-requires-clause-base c = c.requires.power.atom

pub returns-clause-turns : goal.returns-clause-turns
returns-clause-turns c = shown-first _ _ _ _ _ c.requires.one (c.is_below.ensures.above c.if-is_below.false) c.in_ok-up.ensures.turns
