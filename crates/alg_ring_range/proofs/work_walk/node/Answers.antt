use Rattle.std.proofs.Common.{◌<◌, refl, arith, length}
use Rattle.alg_expr.specs.Ids.{tree_of}
use Rattle.alg_expansions.specs.Setting.{setting_of}
use Rattle.alg_ring_range.proofs.WalkLemmas.{first_below, second_below}
use Rattle.alg_ring_range.proofs.WorkLemmas.{work_one, work_two, work_else, steps_at}
use Rattle.alg_ring_range.proofs.work_walk.node.Goals as goal

pub returns-in-Some : goal.returns-in-Some
returns-in-Some c = λ o told works.
    let shows = c.in-App.ensures.shows in
    work_one o (setting_of c.args.base.now) c.args.arena.now c.args.found.now c.args.works.now c.args.e c.in-App.sym c.in-App.sort c.in-App.args.now c.over_one.result c.in-Some.a shows.0 c.in-Some.ensures.some (c.requires.parts _ _ _ shows.0 shows.1) (works _ _ _ shows.0 shows.1)
    (λ t x w. rw (c.number.ensures, c.number-in-Some.ensures) at (c.over_one.ensures o c.in-App.sort t x w))

pub returns-in-Some-two : goal.returns-in-Some-two
returns-in-Some-two c = λ o told works.
    let shows = c.in-App.ensures.shows in
    let here = c.requires.here in
    let first : c.in-Some-two.a.index < length c.args.arena.now = omega (arith, first_below c.in-App.args.now c.in-Some-two.a c.in-Some-two.b c.args.e.index c.in-Some-two.ensures.some shows.1, here) in
    let second : c.in-Some-two.b.index < length c.args.arena.now = omega (arith, second_below c.in-App.args.now c.in-Some-two.a c.in-Some-two.b c.args.e.index c.in-Some-two.ensures.some shows.1, here) in
    work_two o (setting_of c.args.base.now) c.args.arena.now c.args.found.now c.args.works.now c.args.e c.in-App.sym c.in-App.sort c.in-App.args.now c.over_two.result c.in-Some-two.a c.in-Some-two.b shows.0 c.in-Some-two.ensures.some (c.requires.parts _ _ _ shows.0 shows.1) (works _ _ _ shows.0 shows.1)
    (λ x y v w.
    let h = rw (c.number-in-Some-two.ensures, c.number-in-Some-two-2.ensures, c.number-in-Some-two-3.ensures, c.number-in-Some-two-4.ensures, c.number-in-Some-two-5.ensures, c.number-in-Some-two-6.ensures) at
    (c.over_two.ensures o (tree_of c.args.arena.now c.in-Some-two.a) (tree_of c.args.arena.now c.in-Some-two.b) x y v w) in
    h (told.terms c.in-Some-two.a.index first) (told.terms c.in-Some-two.b.index second) (steps_at o c.args.arena.now c.args.counts.now c.args.steps.now c.args.e c.in-App.sym c.in-App.sort c.in-App.args.now c.in-Some-two.a c.in-Some-two.b told here shows.0 c.in-Some-two.ensures.some))

pub returns-in-None-two : goal.returns-in-None-two
returns-in-None-two c = λ o told works.
    let shows = c.in-App.ensures.shows in
    work_else o (setting_of c.args.base.now) c.args.arena.now c.args.found.now c.args.works.now c.args.e c.in-App.sym c.in-App.sort c.in-App.args.now c.leaf-in-None-two.result shows.0 (c.in-None.ensures.none refl) (c.in-None-two.ensures.none refl) c.leaf-in-None-two.ensures
