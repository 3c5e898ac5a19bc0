use Rattle.alg_arithmetic.proofs.Evaluations.{quotient_quotients, quotient_multiplies}
use Rattle.alg_arithmetic.proofs.products.quotient.Goals as goal

pub quotient_of_fractions-requires : goal.quotient_of_fractions-requires
quotient_of_fractions-requires c = record {
  quotients = quotient_quotients _ _ _ _ _ c.requires;
  inverts = c.inv.ensures;
  multiplies = quotient_multiplies _ _ _ _ _ c.requires _ c.den.ensures.lowest.positive c.den-2.ensures.lowest c.inv.ensures;
}
