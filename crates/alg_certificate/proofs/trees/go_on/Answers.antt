use Rattle.std.proofs.Common.{subst, All}
use Rattle.std.proofs.lemmas.List.Elements.{All-tail}
use Rattle.alg_expr.specs.Ids.{IsIn}
use Rattle.alg_certificate.proofs.Pieces.{written_more, inside_push}
use Rattle.alg_certificate.proofs.Ranges.{more_in_range}
use Rattle.alg_certificate.proofs.trees.go_on.Goals as goal

pub begin_tree-requires-clause-nodes_inside : goal.begin_tree-requires-clause-nodes_inside
begin_tree-requires-clause-nodes_inside c =
    inside_push c.args.arena.now _ _ c.in-Some.rest c.requires.nodes_inside (All-tail (IsIn c.args.arena.now) c.in-Some.id c.in-Some.rest.now (subst (All (IsIn c.args.arena.now)) c.in-Some.ensures c.requires.inside)) c.in_ok-push-in-Some.ensures.items

pub returns-in_ok-begin_tree-in-Some-clause-written : goal.returns-in_ok-begin_tree-in-Some-clause-written
returns-in_ok-begin_tree-in-Some-clause-written c = written_more _ _ c.in-Some.rest _ _ _ c.begin_tree.new.nodes.items _ _ c.begin_tree.new.text.items c.in-Some.ensures c.in_ok-push-in-Some.ensures.items c.in_ok-put-in-Some.ensures c.in_ok-begin_tree-in-Some.ensures.written

pub returns-in_ok-begin_tree-in-Some-clause-in_range : goal.returns-in_ok-begin_tree-in-Some-clause-in_range
returns-in_ok-begin_tree-in-Some-clause-in_range c = more_in_range c.args.arena.now c.in-Some.id c.in-Some.rest _ _ _ c.begin_tree.new.nodes.items c.in-Some.ensures c.in_ok-push-in-Some.ensures.items c.in_ok-begin_tree-in-Some.ensures.in_range
