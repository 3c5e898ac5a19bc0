use Rattle.std.proofs.Common.{◌∙◌, ap, subst, arith}
use Rattle.alg_syntax.specs.Nodes.{tree_at, tree_of, IsBelow}
use Rattle.alg_elaborate.proofs.SpineLemmas.{count_apply, head_apply}
use Rattle.alg_elaborate.proofs.spines.head.Goals as goal

pub down-preserved : goal.down-preserved
down-preserved c =
    let a = tree_at c.args.nodes.now c.in-Apply.a in
    let b = tree_at c.args.nodes.now c.in-Apply.field-1 in
    let e = c.get.ensures.tree ∙ ap (tree_of c.args.nodes.now) c.in-Apply.is in
    let below = (subst (IsBelow c.down.at) c.in-Apply.is c.get.ensures.parts).0 in
    record {
      in_nodes = omega (arith, below, c.down.invariant.in_nodes);
      room = omega (arith, below, c.down.invariant.room);
      head = c.down.invariant.head ∙ head_apply _ a b e;
      counted = omega (arith, c.down.invariant.counted, count_apply _ a b e);
    }
