use Rattle.alg_arithmetic.proofs.Evaluations.{sum_first, sum_second, sum_adds, sum_small}
use Rattle.alg_arithmetic.proofs.sums.sum.Goals as goal

pub sum_of_fractions-requires : goal.sum_of_fractions-requires
sum_of_fractions-requires c =
    let p = c.den.ensures.lowest.positive in
    let q = c.den-2.ensures.lowest.positive in
    record {
      first = sum_first _ _ _ _ _ c.requires;
      second = sum_second _ _ _ _ _ c.requires;
      adds = sum_adds _ _ _ _ _ c.requires p q;
      small = sum_small _ _ _ _ _ c.requires p q;
    }
