use Rattle.std.proofs.Common.{◌∙◌, subst, sym}
use Rattle.alg_terms.specs.Tree.{Tree}
use Rattle.alg_terms.proofs.OrderLaws.{tree_same-equal}
use Rattle.alg_expr.specs.Ids.{tree_of}
use Rattle.alg_build.specs.Rewriting.{Turns}
use Rattle.alg_ends.proofs.ending.end_with.Goals as goal

pub closed-requires-clause-right : goal.closed-requires-clause-right
closed-requires-clause-right c =
    let b = c.args.cx.now in
    let same = tree_same-equal (tree_of b.trees c.args.left.to) (tree_of b.trees c.args.right.to) (sym c.is_same.ensures ∙ c.if-is_same.true) in
    subst (λ (t : Tree). Turns b c.args.goal.sort c.args.right (tree_of b.trees c.args.goal.rhs) t) (sym same) c.requires.right
