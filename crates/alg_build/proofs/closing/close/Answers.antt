use Rattle.alg_build.proofs.Rewritings.{begins, follows, grows-turns, is-rewriting}
use Rattle.alg_build.proofs.ClosingLemmas.{meets-goal}
use Rattle.alg_build.proofs.closing.close.Goals as goal

pub back-requires : goal.back-requires
back-requires c = begins _ _ _ _ _ _ c.requires.right c.requires.right_turns

pub then-requires : goal.then-requires
then-requires c = follows _ _ _ _ _ _ _ (grows-turns _ _ c.back.ensures.grows _ _ _ _ c.requires.left_turns) (c.in_ok-up.ensures.turns _ _ _ c.requires.right c.requires.right_turns)

pub line_of-requires : goal.line_of-requires
line_of-requires c = is-rewriting _ _ _ _ _ (c.in_ok-whole.ensures.turns _ _ _ _ (grows-turns _ _ c.back.ensures.grows _ _ _ _ c.requires.left_turns) (c.in_ok-up.ensures.turns _ _ _ c.requires.right c.requires.right_turns))

pub returns-clause-concludes : goal.returns-clause-concludes
returns-clause-concludes c = meets-goal _ _ _ _ _ _ c.requires (c.in_ok-line.ensures.proves _ _ _ (c.in_ok-whole.ensures.turns _ _ _ _ (grows-turns _ _ c.back.ensures.grows _ _ _ _ c.requires.left_turns) (c.in_ok-up.ensures.turns _ _ _ c.requires.right c.requires.right_turns)))
