use Rattle.alg_build.proofs.Lines.{grows-proves, grows-then}
use Rattle.alg_build.proofs.Rewritings.{grows-turns, grows-heads, grows-rewriting, is-rewriting}
use Rattle.alg_build.proofs.TwoParts.{two_later, sorts-heads}
use Rattle.alg_build.proofs.over_parts.under_two.Goals as goal

pub line_of-requires-2 : goal.line_of-requires-2
line_of-requires-2 c = grows-rewriting _ _ c.line_of.ensures.grows _ (is-rewriting _ _ _ _ _ c.requires.right)

pub over_two-requires : goal.over_two-requires
over_two-requires c =
    let o = c.requires in
    let g = grows-then _ _ _ c.line_of.ensures.grows c.line_of-2.ensures.grows in
    (c.args.sort, o.from_left, o.into_left, o.from_right, o.into_right, grows-proves _ _ _ _ _ c.line_of-2.ensures.grows (c.in_ok-i.ensures.proves _ _ _ o.left), c.in_ok-j.ensures.proves _ _ _ (grows-turns _ _ c.line_of.ensures.grows _ _ _ _ o.right), sorts-heads _ _ _ _ _ o.from_left o.from_right (grows-heads _ _ _ _ _ g o.heads) o.left.left o.right.left)

pub returns-clause-turns : goal.returns-clause-turns
returns-clause-turns c =
    two_later _ _ _ _ c.args.sort _ _ _ _ (grows-then _ _ _ c.line_of.ensures.grows c.line_of-2.ensures.grows)
    (λ s x y p. grows-proves _ _ _ x y c.line_of-2.ensures.grows (c.in_ok-i.ensures.proves s x y p))
    (λ s x y p. c.in_ok-j.ensures.proves s x y (grows-turns _ _ c.line_of.ensures.grows s _ x y p))
    _ c.over_two.ensures.turns
