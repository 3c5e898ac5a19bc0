use Rattle.std.proofs.Common.{◌≡◌, ◌∙◌, ◌<◌, refl, ap, arith, get_or, true, false, length}
use Rattle.alg_expr.specs.Ids.{tree_of}
use Rattle.alg_expansions.specs.Setting.{setting_of}
use Rattle.alg_ring_range.specs.Numbers.{numbers}
use Rattle.alg_ring_range.specs.Found.{IsFound, absent}
use Rattle.alg_expansions.specs.Visited.{is_listed}
use Rattle.alg_ring_range.proofs.Plans.{atoms_one, atoms_two, atom_else}
use Rattle.alg_ring_range.proofs.Visiting.{one_of, first_of, second_of}
use Rattle.alg_ring_range.proofs.atoms.plan_of.Goals as goal

pub returns-in-Some-clause-plan : goal.returns-in-Some-clause-plan
returns-in-Some-clause-plan c =
    let k = setting_of c.args.base.now in
    let ts = c.args.arena.now in
    let shows = c.in-App.ensures.shows in
    let is = c.in-Some.ensures.some in
    let node = atoms_one k ts c.args.e c.in-App.sym c.in-App.sort c.in-App.args.now c.in-Some.a shows.0 is in
    let below = one_of (λ a. a.index < c.args.e.index) c.in-App.args.now c.in-Some.a is shows.1 in
    let found = one_of (λ a. IsFound (get_or c.args.found.now a.index absent) (numbers k (tree_of ts a))) c.in-App.args.now c.in-Some.a is (c.requires.parts _ _ _ shows.0 shows.1).each in
    let here = c.requires.here in
    record {
      same = λ t. ap (is_listed t) node.1 ∙ (rw c.number.ensures at (c.plan_one.ensures.same k ts (numbers k (tree_of ts c.in-Some.a)) t node.0)) found;
      first = (c.plan_one.ensures.before c.args.e.index below).0;
      second = (c.plan_one.ensures.before c.args.e.index below).1;
      atom = c.plan_one.ensures.atom (length ts) (omega (arith, below, here)) here;
    }

pub returns-in-Some-clause-wanted : goal.returns-in-Some-clause-wanted
returns-in-Some-clause-wanted c = λ w h want.
    let shows = c.in-App.ensures.shows in
    c.plan_one.ensures.wanted w (one_of (λ a. get_or w a.index false ≡ true) c.in-App.args.now c.in-Some.a c.in-Some.ensures.some (h.parts c.args.e _ _ _ want shows.0 shows.1))

pub returns-in-Some-two-clause-plan : goal.returns-in-Some-two-clause-plan
returns-in-Some-two-clause-plan c =
    let k = setting_of c.args.base.now in
    let ts = c.args.arena.now in
    let shows = c.in-App.ensures.shows in
    let is = c.in-Some-two.ensures.some in
    let node = atoms_two k ts c.args.e c.in-App.sym c.in-App.sort c.in-App.args.now c.in-Some-two.a c.in-Some-two.b shows.0 is in
    let below = first_of (λ a. a.index < c.args.e.index) c.in-App.args.now c.in-Some-two.a c.in-Some-two.b is shows.1 in
    let below' = second_of (λ a. a.index < c.args.e.index) c.in-App.args.now c.in-Some-two.a c.in-Some-two.b is shows.1 in
    let found = second_of (λ a. IsFound (get_or c.args.found.now a.index absent) (numbers k (tree_of ts a))) c.in-App.args.now c.in-Some-two.a c.in-Some-two.b is (c.requires.parts _ _ _ shows.0 shows.1).each in
    let here = c.requires.here in
    record {
      same = λ t. ap (is_listed t) node.1 ∙ (rw c.number-in-Some-two.ensures at (c.plan_two.ensures.same k ts (numbers k (tree_of ts c.in-Some-two.a)) (numbers k (tree_of ts c.in-Some-two.b)) t node.0)) found;
      first = (c.plan_two.ensures.before c.args.e.index below below').0;
      second = (c.plan_two.ensures.before c.args.e.index below below').1;
      atom = c.plan_two.ensures.atom (length ts) (omega (arith, below, here)) (omega (arith, below', here)) here;
    }

pub returns-in-Some-two-clause-wanted : goal.returns-in-Some-two-clause-wanted
returns-in-Some-two-clause-wanted c = λ w h want.
    let shows = c.in-App.ensures.shows in
    let all = h.parts c.args.e _ _ _ want shows.0 shows.1 in
    c.plan_two.ensures.wanted w
    (first_of (λ a. get_or w a.index false ≡ true) c.in-App.args.now c.in-Some-two.a c.in-Some-two.b c.in-Some-two.ensures.some all)
    (second_of (λ a. get_or w a.index false ≡ true) c.in-App.args.now c.in-Some-two.a c.in-Some-two.b c.in-Some-two.ensures.some all)

pub returns-in-None-two-clause-plan : goal.returns-in-None-two-clause-plan
returns-in-None-two-clause-plan c =
    let shows = c.in-App.ensures.shows in
    rw c.only-in-None-two.ensures (record {
      same = atom_else (setting_of c.args.base.now) c.args.arena.now c.args.e c.in-App.sym c.in-App.sort c.in-App.args.now shows.0 (c.in-None.ensures.none refl) (c.in-None-two.ensures.none refl);
      first = tt;
      second = tt;
      atom = c.requires.here;
    })
