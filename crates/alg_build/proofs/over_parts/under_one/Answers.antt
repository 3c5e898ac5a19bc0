use Rattle.alg_build.proofs.OnePart.{one_stands, one_later}
use Rattle.alg_build.proofs.Rewritings.{is-rewriting}
use Rattle.alg_build.proofs.over_parts.under_one.Goals as goal

pub line_of-requires : goal.line_of-requires
line_of-requires c = is-rewriting _ _ _ _ _ c.requires.turns

pub over_all-requires : goal.over_all-requires
over_all-requires c = one_stands _ _ _ _ _ _ c.requires c.line_of.ensures.grows c.in_ok-i.ensures.proves

pub returns-clause-turns : goal.returns-clause-turns
returns-clause-turns c t x y p h = one_later _ _ _ _ _ _ c.line_of.ensures.grows c.in_ok-i.ensures.proves _ _ c.in_ok-q.ensures.turns t x y p h
