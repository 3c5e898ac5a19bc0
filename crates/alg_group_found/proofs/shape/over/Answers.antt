use Rattle.std.proofs.Common.{arith, refl}
use Rattle.alg_group_found.proofs.ShapeLemmas.{other-shape}
use Rattle.alg_group_found.proofs.shape.over.Goals as goal

pub returns-in-Some-two : goal.returns-in-Some-two
returns-in-Some-two c = λ ts e s t p.
    let q = c.in-Some-two.ensures.some in
    c.over_two.ensures ts e s (rw q at t) ((rw q at p) 0 c.in-Some-two.a (omega arith)) ((rw q at p) 1 c.in-Some-two.a (omega arith))

pub returns-in-None-two : goal.returns-in-None-two
returns-in-None-two c = λ ts e s t p ds. other-shape ds s c.args.sym ts c.args.args.now _ t (c.in-None.ensures.none refl) (c.in-None-two.ensures.none refl)
