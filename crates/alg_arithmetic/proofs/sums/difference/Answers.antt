use Rattle.alg_arithmetic.proofs.Evaluations.{difference_signs, difference_first, difference_second, difference_subtracts, difference_small}
use Rattle.alg_arithmetic.proofs.sums.difference.Goals as goal

pub difference_of_fractions-requires : goal.difference_of_fractions-requires
difference_of_fractions-requires c =
    let p = c.den.ensures.lowest.positive in
    let q = c.den-2.ensures.lowest.positive in
    record {
      signs = difference_signs _ _ _ _ _ c.requires;
      first = difference_first _ _ _ _ _ c.requires;
      second = difference_second _ _ _ _ _ c.requires;
      subtracts = difference_subtracts _ _ _ _ _ c.requires p q;
      small = difference_small _ _ _ _ _ c.requires p q;
    }
