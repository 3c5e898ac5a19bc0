use Rattle.std.proofs.Common.{◌≡◌, take, All}
use Rattle.alg_terms.specs.Tree.{sort_of_tree}
use Rattle.alg_expr.specs.Ids.{IsIn, tree_of}
use Rattle.alg_expr.specs.Applying.{sorts_at}
use Rattle.alg_proof.specs.Computations.{sorts_like}
use Rattle.alg_kernel.proofs.computations.copies.Given as goal

abbrev pub invariant-loop-number : goal.invariant-loop-number
invariant-loop-number l =
    record {
      here : All (IsIn l.arena) l.args.items;
      sorts : sorts_at l.arena l.args.items ≡ sorts_like (sort_of_tree (tree_of l.arena l.e)) (take l._number-index l.numbers);
    }
