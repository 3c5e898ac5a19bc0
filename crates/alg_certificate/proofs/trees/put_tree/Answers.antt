use Rattle.alg_expr.specs.Ids.{tree_of}
use Rattle.alg_certificate.proofs.Pieces.{smaller, still}
use Rattle.alg_certificate.proofs.Ranges.{still_in_range}
use Rattle.alg_certificate.proofs.trees.put_tree.Goals as goal

pub steps-smaller : goal.steps-smaller
steps-smaller c = smaller _ _ _ c.go_on.new.nodes.items c.in-Some.left _ c.go_on.new.text.items c.in-Some.ensures.items c.in_ok-go_on.ensures.written c.in_ok-go_on.ensures.grown

pub steps-preserved : goal.steps-preserved
steps-preserved c = record {
  same = still _ _ _ c.go_on.new.nodes.items c.in-Some.left _ c.go_on.new.text.items _ c.in-Some.ensures.items c.in_ok-go_on.ensures.written c.steps.invariant.same;
  inside = c.in_ok-go_on.ensures.new_inside;
  in_range = still_in_range c.args.arena.now _ _ c.go_on.new.nodes.items c.in-Some.left (tree_of c.args.arena.now c.args.id) c.in-Some.ensures.items c.in_ok-go_on.ensures.in_range c.steps.invariant.in_range;
}
