use Rattle.alg_expr.proofs.Undoing.{cut_back}
use Rattle.alg_expr.proofs.arena.Arena.cut_back.Goals as goal

pub invariant_of-self : goal.invariant_of-self
invariant_of-self c =
    rw c.truncate.ensures.entries (cut_back c.self.inside.nodes.entries c.args.self.now c.args.len c.self.view_is c.requires c.self.invariant).0

pub returns : goal.returns
returns c =
    rw c.truncate.ensures.entries (cut_back c.self.inside.nodes.entries c.args.self.now c.args.len c.self.view_is c.requires c.self.invariant).1
