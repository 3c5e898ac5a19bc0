use Rattle.std.proofs.Common.{refl}
use Rattle.alg_ring_range.proofs.WalkLemmas.{node_one, node_two, node_else}
use Rattle.alg_ring_range.proofs.walk.node.Goals as goal

pub returns-in-Some : goal.returns-in-Some
returns-in-Some c =
    let shows = c.in-App.ensures.shows in
    node_one _ _ c.args.found.now c.args.e c.in-App.sym c.in-App.sort c.in-App.args.now shows.0 c.over_one.result c.in-Some.a c.in-Some.ensures.some (c.requires.parts _ _ _ shows.0 shows.1)
    (rw c.number.ensures at c.over_one.ensures)

pub returns-in-Some-two : goal.returns-in-Some-two
returns-in-Some-two c =
    let shows = c.in-App.ensures.shows in
    node_two _ _ c.args.found.now c.args.e c.in-App.sym c.in-App.sort c.in-App.args.now shows.0 c.over_two.result c.in-Some-two.a c.in-Some-two.b c.in-Some-two.ensures.some (c.requires.parts _ _ _ shows.0 shows.1)
    (rw (c.number-in-Some-two.ensures, c.number-in-Some-two-2.ensures) at c.over_two.ensures)

pub returns-in-None-two : goal.returns-in-None-two
returns-in-None-two c =
    let shows = c.in-App.ensures.shows in
    node_else _ _ c.args.found.now c.args.e c.in-App.sym c.in-App.sort c.in-App.args.now shows.0 c.atom-in-None-two.result (c.in-None.ensures.none refl) (c.in-None-two.ensures.none refl) c.atom-in-None-two.ensures
