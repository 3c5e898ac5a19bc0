use Rattle.alg_num.proofs.Reductions.{cast_back}
use Rattle.alg_num.proofs.WholeNumbers.{whole_value}
use Rattle.alg_num.proofs.fractions.Frac.whole.Goals as goal

pub invariant_of-result : goal.invariant_of-result
invariant_of-result c = rw (cast_back c.args.num c.requires) (whole_value c.args.num c.requires)
