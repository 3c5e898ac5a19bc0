use Rattle.std.proofs.Common.{◌≡◌, drop}
use Rattle.alg_expr.specs.Ids.{tree_of, trees_at}
use Rattle.alg_group_words.specs.Limits.{is_there}
use Rattle.alg_group_found.proofs.atoms.is_listed.Given as goal

abbrev pub invariant-loop-x : goal.invariant-loop-x
invariant-loop-x l = is_there (tree_of l.cx.trees l.e) (trees_at l.cx.trees l.list) ≡ is_there (tree_of l.cx.trees l.e) (trees_at l.cx.trees (drop l.x-index l.list))
