use Rattle.alg_build.proofs.Rewritings.{is-proved}
use Rattle.alg_build.proofs.Lines.{adds-proves}
use Rattle.alg_numerals.proofs.LiteralLemmas.{grows-signs}
use Rattle.alg_fraction_products.proofs.multiples.multiple_over_naturals.Goals as goal

pub numeral_of_fraction-requires : goal.numeral_of_fraction-requires
numeral_of_fraction-requires c = record { has = c.requires.first }

pub bridge-requires-clause-here : goal.bridge-requires-clause-here
bridge-requires-clause-here c = c.in_ok-e.ensures.stands.here

pub bridge-requires-clause-sorted : goal.bridge-requires-clause-sorted
bridge-requires-clause-sorted c = rw c.in_ok-e.ensures.stands.tree c.in_ok-e.ensures.stands.sorted

pub bridge-requires-clause-class : goal.bridge-requires-clause-class
bridge-requires-clause-class c = rw (c.in_ok-e.ensures.stands.tree, c.in_ok-e.ensures.stands.sort) (grows-signs _ _ c.numeral_of_fraction.ensures.grows _ c.requires.signs).group

pub by_line-requires : goal.by_line-requires
by_line-requires c = is-proved _ _ _ _ (adds-proves _ _ _ _ _ _ c.in_ok-line.ensures.adds)

pub returns-clause-turns : goal.returns-clause-turns
returns-clause-turns c =
    let t = c.by_line.ensures _ _ (adds-proves _ _ _ _ _ _ c.in_ok-line.ensures.adds) in
    rw (c.in_ok-e.ensures.stands.tree, c.in_ok-e.ensures.stands.sort) at t
