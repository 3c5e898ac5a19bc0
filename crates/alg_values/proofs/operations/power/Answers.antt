use Rattle.alg_num.specs.Power.{power_of}
use Rattle.alg_num.proofs.PowerLaws.{positive_power}
use Rattle.alg_values.specs.Ranges.{numbers_in_range}
use Rattle.alg_values.proofs.Ranging.{ranged_num, numbers_test}
use Rattle.alg_values.proofs.operations.power.Goals as goal

pub returns-in-Some : goal.returns-in-Some
returns-in-Some c = let p = c.args.p.now in
    ranged_num (numbers_in_range (power_of p c.args.n)) (power_of p c.args.n) c.in-Some.r (numbers_test (power_of p c.args.n) c.in-Some.ensures.0) (positive_power p.denominator c.args.n c.den-positive.ensures.lowest.positive) c.in-Some.ensures.1
