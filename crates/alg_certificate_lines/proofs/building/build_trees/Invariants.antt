use Rattle.std.proofs.Common.{◌≡◌, length}
use Rattle.alg_expr.specs.Ids.{trees_at}
use Rattle.alg_certificate_lines.specs.Steps.{all_good}
use Rattle.alg_certificate_lines.proofs.LoopLaws.{Taken}
use Rattle.alg_certificate_lines.proofs.building.build_trees.Given as goal

abbrev pub invariant-tokens : goal.invariant-tokens
invariant-tokens l =
    record {
      taken : Taken l.base l.fn.arena l.arena l.text l.left l.ids.items l.opened.items;
      flag : l.classed ≡ all_good l.base (trees_at l.arena l.ids.items);
    }

abbrev pub decreases-tokens : goal.decreases-tokens
decreases-tokens l = length l.left
