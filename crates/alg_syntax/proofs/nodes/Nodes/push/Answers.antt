use Rattle.std.proofs.Common.{arith, length, ap, ◌∙◌, subst, ◌≡◌, ℕ}
use Rattle.alg_syntax.specs.Nodes.{trees_of, IsBelow}
use Rattle.alg_syntax.proofs.NodeLemmas.{length-trees_of, push_grows, AllBelow-push}
use Rattle.alg_syntax.proofs.nodes.Nodes.push.Goals as goal

pub invariant_of-self-2 : goal.invariant_of-self-2
invariant_of-self-2 c =
    let size : length c.args.self.now ≡ length c.self.inside.items.items = omega (arith, ap length c.self.view_is, length-trees_of c.self.inside.items.items) in
    rw c.in_ok-push.ensures.items (AllBelow-push c.self.inside.items.items c.args.node c.self.invariant (subst (λ (k : ℕ). IsBelow k c.args.node) size c.requires))

pub returns-clause-pushed : goal.returns-clause-pushed
returns-clause-pushed c = (
  omega (arith, ap length c.self.view_is, length-trees_of c.self.inside.items.items, c.self.inside.items.ok.0, c.len-id.ensures),
  ap trees_of c.in_ok-push.ensures.items ∙ push_grows c.self.inside.items.items c.args.node c.args.self.now c.self.view_is,
)
