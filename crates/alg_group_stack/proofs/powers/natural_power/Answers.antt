use Rattle.alg_build.proofs.Lines.{adds-proves}
use Rattle.alg_build.proofs.Rewritings.{is-proved}
use Rattle.alg_group_stack.proofs.Homes.{home-inverses}
use Rattle.alg_group_stack.proofs.powers.natural_power.Goals as goal

pub bridge-requires-clause-class : goal.bridge-requires-clause-class
bridge-requires-clause-class c = rw c.requires.base.sort (home-inverses _ _ c.requires.home)

pub by_line-requires : goal.by_line-requires
by_line-requires c = is-proved _ _ _ _ (adds-proves _ _ _ _ _ _ c.in_ok-line.ensures.adds)

pub returns-clause-turns : goal.returns-clause-turns
returns-clause-turns c =
    let t = c.by_line.ensures _ _ (adds-proves _ _ _ _ _ _ c.in_ok-line.ensures.adds) in
    rw c.requires.base.sort at t
