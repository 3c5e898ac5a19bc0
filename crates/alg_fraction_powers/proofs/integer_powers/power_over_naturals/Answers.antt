use Rattle.alg_build.proofs.Lines.{adds-proves}
use Rattle.alg_build.proofs.Rewritings.{is-proved}
use Rattle.alg_fraction_powers.proofs.integer_powers.power_over_naturals.Goals as goal

pub by_line-requires : goal.by_line-requires
by_line-requires c = is-proved _ _ _ _ (adds-proves _ _ _ _ _ _ c.in_ok-line.ensures.adds)

pub returns-clause-turns : goal.returns-clause-turns
returns-clause-turns c =
    let w = c.in_ok-e.ensures.stands in
    let t = c.by_line.ensures _ _ (adds-proves _ _ _ _ _ _ c.in_ok-line.ensures.adds) in
    rw (w.tree, w.sort) at t
