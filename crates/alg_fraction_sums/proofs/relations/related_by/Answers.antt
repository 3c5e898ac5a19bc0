use Rattle.alg_build.proofs.Leading.{concludes-grows}
use Rattle.alg_build.proofs.Rewritings.{grows-turns, relates}
use Rattle.alg_fraction_sums.proofs.relations.related_by.Goals as goal

pub close_by-requires : goal.close_by-requires
close_by-requires c =
    let g = c.two_scaled.ensures.grows in
    relates _ _ _ _ _ _ _ _ _ c.in_ok-lhs.ensures.first c.in_ok-lhs.ensures.second
    (grows-turns _ _ g _ _ _ _ c.requires.left_turns)
    (grows-turns _ _ g _ _ _ _ c.requires.right_turns)
    (concludes-grows _ _ _ _ g c.requires.relation)
