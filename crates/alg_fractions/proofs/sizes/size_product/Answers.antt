use Rattle.std.proofs.Common.{refl}
use Rattle.alg_numerals.proofs.SignTrees.{combined_trees}
use Rattle.alg_fractions.proofs.sizes.size_product.Goals as goal

pub returns-clause-combines : goal.returns-clause-combines
returns-clause-combines c =
    let q = c.in_ok-q.ensures in
    combined_trees _ _ _ _ _ _ _ _ _ _ c.in_ok-line.ensures.proves c.sizes_beside.ensures.grows q.first q.second q.total q.line refl
