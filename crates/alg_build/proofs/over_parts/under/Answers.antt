use Rattle.alg_build.proofs.ListLemmas.{kept-all, all-prove-same, all-rewriting, can-stand, all-later}
use Rattle.alg_build.proofs.over_parts.under.Goals as goal

pub returns-then-are_kept-clause-turns : goal.returns-then-are_kept-clause-turns
returns-then-are_kept-clause-turns c s ss xs ys h k w = kept-all _ _ _ s ss _ xs ys (c.are_kept.ensures c.if-are_kept.true) h k

pub lines_of-requires : goal.lines_of-requires
lines_of-requires c = all-rewriting _ _ _ _ _ c.requires.turn

pub over_all-requires : goal.over_all-requires
over_all-requires c = can-stand _ _ _ _ _ c.lines_of.ensures.grows (λ ss xs ys h. all-prove-same _ _ _ xs ys c.deref.ensures.value (c.in_ok-lines.ensures.prove ss xs ys h)) _ _ _ _ c.requires.turn c.requires.heads

pub returns-clause-turns : goal.returns-clause-turns
returns-clause-turns c = all-later _ _ _ _ _ c.lines_of.ensures.grows (λ ss xs ys h. all-prove-same _ _ _ xs ys c.deref.ensures.value (c.in_ok-lines.ensures.prove ss xs ys h)) _ _ _ c.over_all.ensures.turns
