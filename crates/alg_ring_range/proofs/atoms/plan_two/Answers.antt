use Rattle.alg_expr.specs.Ids.{tree_of}
use Rattle.alg_ring_range.proofs.Plans.{atom_two}
use Rattle.alg_ring_range.proofs.atoms.plan_two.Goals as goal

pub returns-in_default-clause-same : goal.returns-in_default-clause-same
returns-in_default-clause-same c =
    rw c.only-in_default.ensures
    (λ k trees x y t is found.
    atom_two c.args.sym c.args.sort (tree_of trees c.args.a) (tree_of trees c.args.b) (tree_of trees c.args.e) t x y _ _ c.in_default.not-Add c.in_default.not-Mul c.in_default.not-Sub c.in_default.not-Div c.in_default.not-Npow is)
