use Rattle.alg_arithmetic.proofs.Evaluations.{product_first, product_second, product_multiplies}
use Rattle.alg_arithmetic.proofs.products.product.Goals as goal

pub product_of_fractions-requires : goal.product_of_fractions-requires
product_of_fractions-requires c = record {
  first = product_first _ _ _ _ _ c.requires;
  second = product_second _ _ _ _ _ c.requires;
  multiplies = product_multiplies _ _ _ _ _ c.requires c.den.ensures.lowest.positive c.den-2.ensures.lowest.positive;
}
