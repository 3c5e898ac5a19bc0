use Rattle.std.proofs.Common.{subst, All}
use Rattle.std.proofs.lemmas.List.Elements.{All-tail}
use Rattle.alg_expr.specs.Ids.{IsIn}
use Rattle.alg_certificate.proofs.Pieces.{trees_step}
use Rattle.alg_certificate.proofs.Ranges.{trees_still_in_range}
use Rattle.alg_certificate.proofs.trees.put_trees.Goals as goal

pub ids-preserved : goal.ids-preserved
ids-preserved c = record {
  same = trees_step _ c.in-Some.id c.in-Some.rest.now _ _ _ c.put_tree.new.text.items _ c.in-Some.ensures c.in_ok-put.ensures c.in_ok-put_tree.ensures.written c.ids.invariant.same;
  inside = All-tail (IsIn c.args.arena.now) c.in-Some.id c.in-Some.rest.now (subst (All (IsIn c.args.arena.now)) c.in-Some.ensures c.ids.invariant.inside);
  in_range = trees_still_in_range c.args.arena.now c.in-Some.id c.in-Some.rest.now _ c.args.ids.now c.in-Some.ensures c.in_ok-put_tree.ensures.in_range c.ids.invariant.in_range;
}
