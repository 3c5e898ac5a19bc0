use Rattle.alg_build.proofs.Rewritings.{begins, grows-stands, grows-turns}
use Rattle.alg_build.proofs.ClosingLemmas.{relates_there, relates_left, relates_right, relates_left_same, relates_right_same, relates_ends}
use Rattle.alg_build.proofs.closing.close_by.Goals as goal

pub line_back-requires : goal.line_back-requires
line_back-requires c = begins _ _ _ _ _ _ c.requires.left c.requires.left_turns

pub line_back-requires-2 : goal.line_back-requires-2
line_back-requires-2 c = begins _ _ _ _ _ _ (grows-stands _ _ c.line_back.ensures.grows _ _ _ c.requires.right) (grows-turns _ _ c.line_back.ensures.grows _ _ _ _ c.requires.right_turns)

pub subst-requires-clause-there : goal.subst-requires-clause-there
subst-requires-clause-there c = relates_there _ _ _ _ _ _ _ _ _ c.requires c.line_back.ensures.grows c.line_back-2.ensures.grows c.in_ok-i.ensures.proves c.in_ok-j.ensures.proves

pub subst-requires-clause-second : goal.subst-requires-clause-second
subst-requires-clause-second c = relates_left _ _ _ _ _ _ _ _ _ c.requires c.line_back.ensures.grows c.line_back-2.ensures.grows c.in_ok-i.ensures.proves c.in_ok-j.ensures.proves

pub subst-requires-clause-third : goal.subst-requires-clause-third
subst-requires-clause-third c = relates_right _ _ _ _ _ _ _ _ _ c.requires c.line_back.ensures.grows c.line_back-2.ensures.grows c.in_ok-i.ensures.proves c.in_ok-j.ensures.proves

pub subst-requires-clause-left : goal.subst-requires-clause-left
subst-requires-clause-left c = relates_left_same _ _ _ _ _ _ _ _ _ c.requires c.line_back.ensures.grows c.line_back-2.ensures.grows c.in_ok-i.ensures.proves c.in_ok-j.ensures.proves

pub subst-requires-clause-right : goal.subst-requires-clause-right
subst-requires-clause-right c = relates_right_same _ _ _ _ _ _ _ _ _ c.requires c.line_back.ensures.grows c.line_back-2.ensures.grows c.in_ok-i.ensures.proves c.in_ok-j.ensures.proves

pub returns-clause-concludes : goal.returns-clause-concludes
returns-clause-concludes c = relates_ends _ _ _ _ _ _ _ _ _ c.requires c.line_back.ensures.grows c.line_back-2.ensures.grows c.in_ok-i.ensures.proves c.in_ok-j.ensures.proves _ _ _ c.in_ok-whole.ensures.adds
