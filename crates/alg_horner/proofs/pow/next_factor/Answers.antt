use Rattle.alg_sums.specs.Rational.{rational}
use Rattle.alg_horner.proofs.CoefficientPowers.{next_can}
use Rattle.alg_horner.proofs.pow.next_factor.Goals as goal

pub mul-requires : goal.mul-requires
mul-requires g c = rw c.requires.power (next_can rational _ c.args.all c.args.done c.requires.more c.requires.can)
