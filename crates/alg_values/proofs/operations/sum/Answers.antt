use Rattle.alg_num.specs.Sum.{sum_of}
use Rattle.alg_num.proofs.IntegerLaws.{positive_product}
use Rattle.alg_values.specs.Ranges.{sum_in_range}
use Rattle.alg_values.proofs.Ranging.{ranged_num, sum_test}
use Rattle.alg_values.proofs.operations.sum.Goals as goal

pub returns-in-Some : goal.returns-in-Some
returns-in-Some c = let p = c.args.p.now in let q = c.args.q.now in
    ranged_num (sum_in_range p q) (sum_of p q) c.in-Some.r (sum_test p q c.in-Some.ensures.0) (positive_product p.denominator q.denominator c.den.ensures.lowest.positive c.den-2.ensures.lowest.positive) c.in-Some.ensures.1
