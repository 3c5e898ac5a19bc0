use Rattle.alg_build.proofs.Rewritings.{turns-in}
use Rattle.alg_group_stack.proofs.BitLemmas.{same-bits}
use Rattle.alg_group_stack.proofs.WordLemmas.{placed_same}
use Rattle.alg_group_stack.proofs.stack.place.Goals as goal

pub times-requires-clause-left : goal.times-requires-clause-left
times-requires-clause-left c = turns-in _ _ _ _ _ (c.keep-left.ensures _ _ c.whole-before.ensures)

pub times-requires-clause-right : goal.times-requires-clause-right
times-requires-clause-right c = turns-in _ _ _ _ _ (c.keep-right.ensures _ _ c.requires.power.power)

pub returns-clause-word : goal.returns-clause-word
returns-clause-word c = (placed_same _ _ _ _ _ _ _ _ c.times.ensures.grows c.requires.word c.requires.power (c.in_ok-r.ensures.turns _ _ _ _ (c.keep-left.ensures _ _ (rw c.as_slice.ensures.value at c.whole-before.ensures)) (c.keep-right.ensures _ _ c.requires.power.power)) (rw (same-bits c.args.x.exponent c.requires.power.small) at c.in_ok-push.ensures.items)).word

pub returns-clause-pairs : goal.returns-clause-pairs
returns-clause-pairs c = (placed_same _ _ _ _ _ _ _ _ c.times.ensures.grows c.requires.word c.requires.power (c.in_ok-r.ensures.turns _ _ _ _ (c.keep-left.ensures _ _ (rw c.as_slice.ensures.value at c.whole-before.ensures)) (c.keep-right.ensures _ _ c.requires.power.power)) (rw (same-bits c.args.x.exponent c.requires.power.small) at c.in_ok-push.ensures.items)).pairs

pub returns-clause-turns : goal.returns-clause-turns
returns-clause-turns c = (placed_same _ _ _ _ _ _ _ _ c.times.ensures.grows c.requires.word c.requires.power (c.in_ok-r.ensures.turns _ _ _ _ (c.keep-left.ensures _ _ (rw c.as_slice.ensures.value at c.whole-before.ensures)) (c.keep-right.ensures _ _ c.requires.power.power)) (rw (same-bits c.args.x.exponent c.requires.power.small) at c.in_ok-push.ensures.items)).turns
