use Rattle.alg_compute.proofs.Answering.{as_literal}
use Rattle.alg_compute.proofs.Multiples.{divisor_is}
use Rattle.alg_compute.proofs.naturals.at_two.Goals as goal

pub returns-in-Gcd : goal.returns-in-Gcd
returns-in-Gcd c =
    rw c.in-Gcd.is
    (as_literal c.limited-in-Gcd.result c.gcd.result _ (divisor_is c.args.a c.args.b c.gcd.result c.gcd.ensures) c.limited-in-Gcd.ensures)
