use Rattle.alg_kernel.proofs.NumeralLemmas.{all-small}
use Rattle.alg_kernel.proofs.computations.value.Goals as goal

pub integer-requires : goal.integer-requires
integer-requires c = all-small c.args.numbers.now c.requires
