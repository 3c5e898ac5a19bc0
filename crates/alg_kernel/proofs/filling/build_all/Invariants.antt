use Rattle.std.proofs.Common.{◌≤◌, drop, All, length, List}
use mathlib.Core.List.{reverse}
use Rattle.alg_expr.specs.Ids.{trees_at}
use Rattle.alg_expr.specs.Arena.{Extends}
use Rattle.alg_law.specs.Declarations.{Declaration}
use Rattle.alg_kernel.specs.Filling.{IsEntryIn, AllStand, filled}
use Rattle.alg_kernel.proofs.filling.build_all.Given as goal

abbrev pub invariant-loop-i : goal.invariant-loop-i
invariant-loop-i l =
    record {
      within : l.i ≤ length l.nodes;
      grown : Extends l.fn.arena l.arena;
      here : All (IsEntryIn l.arena) l.stack.items;
      built : (ds : List Declaration) → AllStand ds l.arena (reverse l.stack.items) (filled l.letters l.sort (trees_at l.fn.arena l.with) (drop l.i l.nodes));
    }

abbrev pub decreases-loop-i : goal.decreases-loop-i
decreases-loop-i l = l.i
