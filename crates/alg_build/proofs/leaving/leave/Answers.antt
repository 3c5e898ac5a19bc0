use Rattle.alg_build.proofs.Rewritings.{grows-turns, is-rewriting}
use Rattle.alg_build.proofs.ClosingLemmas.{remains-left, remains-gives}
use Rattle.alg_build.proofs.leaving.leave.Goals as goal

pub line_of-requires : goal.line_of-requires
line_of-requires c = is-rewriting _ _ _ _ _ c.requires.left_turns

pub line_of-requires-2 : goal.line_of-requires-2
line_of-requires-2 c = is-rewriting _ _ _ _ _ (grows-turns _ _ c.line_of.ensures.grows _ _ _ _ c.requires.right_turns)

pub returns-clause-leads : goal.returns-clause-leads
returns-clause-leads c = remains-left _ _ _ _ _ _ _ _ c.requires c.line_of.ensures.grows c.line_of-2.ensures.grows c.in_ok-i.ensures.proves c.in_ok-j.ensures.proves

pub returns-clause-gives : goal.returns-clause-gives
returns-clause-gives c = remains-gives _ _ _ _ _ _ _ _ c.requires c.line_of.ensures.grows c.line_of-2.ensures.grows c.in_ok-i.ensures.proves c.in_ok-j.ensures.proves
