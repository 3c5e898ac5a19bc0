use Rattle.alg_numerals.proofs.LiteralLemmas.{combined}
use Rattle.alg_numerals.proofs.literals.product.Goals as goal

pub returns-clause-combines : goal.returns-clause-combines
returns-clause-combines c =
    let q = c.in_ok-q.ensures in
    combined _ _ _ _ _ _ _ _ _ _ _ _ c.in_ok-line.ensures.adds c.beside.ensures.grows q.first q.second q.total q.line c.requires.multiplies
