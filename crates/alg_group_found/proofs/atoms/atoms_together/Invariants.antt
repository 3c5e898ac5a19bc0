use Rattle.std.proofs.Common.{◌≡◌, ◌++◌, take, All}
use Rattle.alg_expr.specs.Ids.{trees_at, IsIn}
use Rattle.alg_group_found.specs.Atoms.{apart}
use Rattle.alg_group_found.proofs.atoms.atoms_together.Given as goal

abbrev pub invariant-loop-x : goal.invariant-loop-x
invariant-loop-x l = record {
  here : All (IsIn l.cx.trees) l.all.items;
  trees : trees_at l.cx.trees l.all.items ≡ trees_at l.cx.trees l.rest ++ apart (trees_at l.cx.trees (take l.x-index l.first)) (trees_at l.cx.trees l.rest);
}
