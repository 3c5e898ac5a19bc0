use Rattle.std.proofs.Common.{sym, ◌∙◌, ◌<◌}
use Rattle.alg_group_spelling.proofs.NormalLemmas.{shown-above, shown-below}
use Rattle.alg_group_spelling.proofs.normal.shown.Goals as goal

pub shown_one-requires-clause-one : goal.shown_one-requires-clause-one
shown_one-requires-clause-one c = sym c.is_one.ensures ∙ c.if-is_one.true

pub returns-then-is_below-clause-turns : goal.returns-then-is_below-clause-turns
returns-then-is_below-clause-turns c = shown-below _ _ _ _ _ (sym c.is_one.ensures ∙ c.if-is_one.false) (c.is_below.ensures.below c.if-is_below.true) (c.keep-kept.ensures _ _ c.requires.power.power)

pub natural_power-requires-clause-base : goal.natural_power-requires-clause-base
natural_power-requires-clause-base c = c.requires.power.atom

pub natural_power-requires-clause-small : goal.natural_power-requires-clause-small
natural_power-requires-clause-small c = rw c.size_of.ensures c.requires.power.small

pub returns-clause-turns : goal.returns-clause-turns
returns-clause-turns c = shown-above _ _ _ _ _ (sym c.is_one.ensures ∙ c.if-is_one.false) (c.is_below.ensures.above c.if-is_below.false) (rw c.size_of.ensures at c.in_ok-up.ensures.turns)
