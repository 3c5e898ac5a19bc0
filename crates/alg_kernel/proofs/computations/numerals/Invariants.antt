use Rattle.std.proofs.Common.{◌≡◌, take, All}
use Rattle.alg_expr.specs.Ids.{IsIn, trees_at}
use Rattle.alg_expr.specs.Arena.{Extends}
use Rattle.alg_proof.specs.Computations.{numerals_at}
use Rattle.alg_kernel.proofs.computations.numerals.Given as goal

abbrev pub invariant-loop-number : goal.invariant-loop-number
invariant-loop-number l =
    record {
      grown : Extends l.fn.arena l.arena;
      here : All (IsIn l.arena) l.args.items;
      trees : trees_at l.arena l.args.items ≡ numerals_at l.sort (take l.number-index l.numbers);
    }
