use Rattle.horner_runs.proofs.Atoms.{can_multiply, small_multiply}
use Rattle.horner_runs.proofs.product.Goals as goal

pub mul-requires-clause-can : goal.mul-requires-clause-can
mul-requires-clause-can c = can_multiply c.args.f.now c.args.g.now c.requires.first c.requires.second

pub mul-requires-clause-degree : goal.mul-requires-clause-degree
mul-requires-clause-degree c = small_multiply c.args.f.now c.args.g.now c.requires.first_exponents c.requires.second_exponents
