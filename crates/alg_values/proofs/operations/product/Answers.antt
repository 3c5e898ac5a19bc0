use Rattle.alg_num.specs.Product.{product_of}
use Rattle.alg_num.proofs.IntegerLaws.{positive_product}
use Rattle.alg_values.specs.Ranges.{numbers_in_range}
use Rattle.alg_values.proofs.Ranging.{ranged_num, numbers_test}
use Rattle.alg_values.proofs.operations.product.Goals as goal

pub returns-in-Some : goal.returns-in-Some
returns-in-Some c = let p = c.args.p.now in let q = c.args.q.now in
    ranged_num (numbers_in_range (product_of p q)) (product_of p q) c.in-Some.r (numbers_test (product_of p q) c.in-Some.ensures.0) (positive_product p.denominator q.denominator c.den.ensures.lowest.positive c.den-2.ensures.lowest.positive) c.in-Some.ensures.1
