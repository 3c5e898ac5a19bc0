use Rattle.alg_build.proofs.Rewritings.{is-rewriting}
use Rattle.alg_build.proofs.closing.line_back.Goals as goal

pub line_of-requires : goal.line_of-requires
line_of-requires c = is-rewriting _ _ _ _ _ (c.in_ok-up.ensures.turns _ _ _ c.requires.stands c.requires.turns)

pub returns-clause-proves : goal.returns-clause-proves
returns-clause-proves c t x y h k = c.in_ok-line.ensures.proves t y x (c.in_ok-up.ensures.turns t x y h k)
