use Rattle.alg_expr.specs.Ids.{tree_of}
use Rattle.alg_ring_range.specs.Atoms.{visited_atoms}
use Rattle.alg_ring_range.proofs.Plans.{atom_one}
use Rattle.alg_ring_range.proofs.atoms.plan_one.Goals as goal

pub returns-in_default-clause-same : goal.returns-in_default-clause-same
returns-in_default-clause-same c = rw c.only-in_default.ensures (λ k trees x t is found. atom_one c.args.sym c.args.sort (tree_of trees c.args.a) (tree_of trees c.args.e) t x (visited_atoms k (tree_of trees c.args.a)) c.in_default.not-Neg c.in_default.not-Inv is)
