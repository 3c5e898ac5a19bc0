use Rattle.alg_build.proofs.Lines.{grows-proves, grows-then}
use Rattle.alg_build.proofs.Rewritings.{grows-stands}
use Rattle.alg_fraction_sums.proofs.differences.difference_by.Goals as goal

pub sub_of_neg-requires-clause-first_line : goal.sub_of_neg-requires-clause-first_line
sub_of_neg-requires-clause-first_line c =
    let g = c.two_fractions-2.ensures.grows in
    let b = grows-stands _ _ g _ _ _ c.in_ok-a.ensures.second in
    rw (b.tree, c.in_ok-c.ensures.first.tree, c.neg.ensures)
    (grows-proves _ _ _ _ _ (grows-then _ _ _ c.two_fractions.ensures.grows g) c.requires.minus)

pub sub_of_neg-requires-clause-second_line : goal.sub_of_neg-requires-clause-second_line
sub_of_neg-requires-clause-second_line c =
    let g = c.two_fractions-2.ensures.grows in
    let a = grows-stands _ _ g _ _ _ c.in_ok-a.ensures.first in
    rw (a.tree, c.in_ok-c.ensures.first.tree, c.in_ok-c.ensures.second.tree, c.neg.ensures)
    (grows-proves _ _ _ _ _ (grows-then _ _ _ c.two_fractions.ensures.grows g) c.requires.total)

pub returns-clause-turns : goal.returns-clause-turns
returns-clause-turns c =
    let g = c.two_fractions-2.ensures.grows in
    let a = grows-stands _ _ g _ _ _ c.in_ok-a.ensures.first in
    let b = grows-stands _ _ g _ _ _ c.in_ok-a.ensures.second in
    rw (← a.tree, ← b.tree, ← c.in_ok-c.ensures.second.tree) c.sub_of_neg.ensures.turns

pub returns-clause-grows : goal.returns-clause-grows
returns-clause-grows c = grows-then _ _ _ c.two_fractions.ensures.grows (grows-then _ _ _ c.two_fractions-2.ensures.grows c.sub_of_neg.ensures.grows)
