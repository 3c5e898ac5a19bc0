use Rattle.alg_arithmetic.proofs.Evaluations.{inverse_quotients, inverse_inverts}
use Rattle.alg_arithmetic.proofs.products.inverse.Goals as goal

pub inverse_of_fraction-requires : goal.inverse_of_fraction-requires
inverse_of_fraction-requires c = record {
  quotients = inverse_quotients _ _ _ _ c.requires;
  inverts = inverse_inverts _ _ _ _ c.requires c.den-lowest.ensures.lowest;
}
