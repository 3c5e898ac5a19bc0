use Rattle.alg_group_stack.proofs.BitLemmas.{sum-bits}
use Rattle.alg_group_stack.proofs.stack.summed.Goals as goal

pub returns : goal.returns
returns c = sum-bits c.args.x.exponent c.args.y.exponent c.requires.first c.requires.second c.requires.small
