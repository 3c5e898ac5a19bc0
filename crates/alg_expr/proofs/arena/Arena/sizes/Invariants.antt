use Rattle.std.proofs.Common.{◌≡◌, take}
use Rattle.alg_terms.specs.Tree.{of_list}
use Rattle.alg_expr.specs.Ids.{trees_at}
use Rattle.alg_expr.specs.Sizes.{sizes_of}
use Rattle.alg_expr.proofs.arena.Arena.sizes.Given as goal

abbrev pub invariant-loop-id : goal.invariant-loop-id
invariant-loop-id l = l.total ≡ sizes_of (of_list (trees_at l.self (take l.id-index l.ids)))
