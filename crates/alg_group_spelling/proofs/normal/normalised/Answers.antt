use Rattle.std.proofs.Common.{ap, refl}
use Rattle.alg_build.proofs.Rewritings.{follows, grows-turns}
use Rattle.alg_group_spelling.proofs.normal.normalised.Goals as goal

pub normal-requires-clause-word : goal.normal-requires-clause-word
normal-requires-clause-word c = rw c.deref.ensures.value c.requires.spells.word

pub then-requires : goal.then-requires
then-requires c = follows _ _ _ _ _ _ _ (grows-turns _ _ c.normal.ensures.grows _ _ _ _ c.requires.spells.turns) (rw c.deref.ensures.value at c.in_ok-r.ensures.turns)

pub returns-clause-turns : goal.returns-clause-turns
returns-clause-turns c = c.in_ok-p.ensures.turns _ _ _ _ (grows-turns _ _ c.normal.ensures.grows _ _ _ _ c.requires.spells.turns) (rw c.deref.ensures.value at c.in_ok-r.ensures.turns)
