use Rattle.std.proofs.Common.{ap}
use Rattle.alg_numerals.specs.WholeTree.{whole_tree}
use Rattle.alg_numerals.proofs.SignTrees.{combined_trees}
use Rattle.alg_numerals.proofs.differences.whole_sum.Goals as goal

pub returns-clause-combines : goal.returns-clause-combines
returns-clause-combines c =
    let q = c.in_ok-q.ensures in
    combined_trees _ _ _ _ _ _ _ _ _ _ c.in_ok-line.ensures.proves c.wholes_beside.ensures.grows q.first q.second q.total q.line (ap (whole_tree c.args.sort) c.requires.adds)
