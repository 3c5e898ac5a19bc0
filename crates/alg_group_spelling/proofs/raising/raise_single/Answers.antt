use Rattle.std.proofs.Common.{[], sym, ◌∙◌}
use Rattle.alg_group_stack.proofs.WordLemmas.{placed_met}
use Rattle.alg_group_spelling.proofs.RaiseLemmas.{empty-word, raised-single, times-some}
use Rattle.alg_group_spelling.proofs.raising.raise_single.Goals as goal

pub scaled-requires-clause-first : goal.scaled-requires-clause-first
scaled-requires-clause-first c = c.requires.power.small

pub returns-clause-word : goal.returns-clause-word
returns-clause-word c = (placed_met _ _ _ [] _ _ _ _ _ _ c.raise_one.ensures.grows (empty-word _ _) c.requires.power (times-some c.args.x.exponent c.args.z.now c.requires.power.some c.requires.some) c.requires.small c.in_ok-m.ensures.power c.in_ok-m.ensures.turns (rw (c.new-word.ensures.items, c.scaled.ensures) at c.in_ok-push.ensures.items)).word

pub returns-clause-pairs : goal.returns-clause-pairs
returns-clause-pairs c = (placed_met _ _ _ [] _ _ _ _ _ _ c.raise_one.ensures.grows (empty-word _ _) c.requires.power (times-some c.args.x.exponent c.args.z.now c.requires.power.some c.requires.some) c.requires.small c.in_ok-m.ensures.power c.in_ok-m.ensures.turns (rw (c.new-word.ensures.items, c.scaled.ensures) at c.in_ok-push.ensures.items)).pairs ∙ sym (raised-single _ c.args.z.now (times-some c.args.x.exponent c.args.z.now c.requires.power.some c.requires.some))

pub returns-clause-turns : goal.returns-clause-turns
returns-clause-turns c = (placed_met _ _ _ [] _ _ _ _ _ _ c.raise_one.ensures.grows (empty-word _ _) c.requires.power (times-some c.args.x.exponent c.args.z.now c.requires.power.some c.requires.some) c.requires.small c.in_ok-m.ensures.power c.in_ok-m.ensures.turns (rw (c.new-word.ensures.items, c.scaled.ensures) at c.in_ok-push.ensures.items)).turns
