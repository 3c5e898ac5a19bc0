use Rattle.std.proofs.Common.{◌∙◌, ap}
use Rattle.alg_syntax.specs.Nodes.{tree_of}
use Rattle.alg_elaborate.proofs.Leaves.{split_same}
use Rattle.alg_elaborate.proofs.regions.split_arguments.Goals as goal

pub returns-in_ok-push-2-clause-same : goal.returns-in_ok-push-2-clause-same
returns-in_ok-push-2-clause-same c =
    split_same c.args.scope.now c.args.nodes.now c.args.id c.in-Apply.a c.in-Apply.b c.args.todo.now.items _ _ (c.get.ensures.tree ∙ ap (tree_of c.args.nodes.now) c.in-Apply.is) c.in_ok-push.ensures.items c.in_ok-push-2.ensures.items
