use Rattle.std.proofs.Common.{◌∙◌, ap, sym, subst, arith}
use Rattle.alg_syntax.specs.Nodes.{tree_at, tree_of, IsBelow}
use Rattle.alg_elaborate.proofs.ProofTables.{found_there, passed_on}
use Rattle.alg_elaborate.proofs.combinations.any_argument_is_proof.Goals as goal

pub returns-then-is_proof : goal.returns-then-is_proof
returns-then-is_proof c =
    let e = c.get.ensures.tree ∙ ap (tree_of c.args.nodes.now) c.in-Apply.is in
    sym (c.down.invariant.same ∙ found_there c.args.scope.now _ (tree_at c.args.nodes.now c.in-Apply.a) (tree_at c.args.nodes.now c.in-Apply.b) e (sym c.if-is_proof.ensures))

pub down-preserved : goal.down-preserved
down-preserved c =
    let e = c.get.ensures.tree ∙ ap (tree_of c.args.nodes.now) c.in-Apply.is in
    let below = subst (IsBelow c.down.at) c.in-Apply.is c.get.ensures.parts in
    let low = below.0 in
    record {
      in_nodes = omega (arith, low, c.down.invariant.in_nodes);
      same = c.down.invariant.same ∙ passed_on c.args.scope.now _ (tree_at c.args.nodes.now c.in-Apply.a) (tree_at c.args.nodes.now c.in-Apply.b) e (sym c.if-is_proof.ensures);
    }
