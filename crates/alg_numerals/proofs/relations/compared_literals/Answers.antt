use Rattle.alg_build.proofs.Leading.{concludes-grows}
use Rattle.alg_build.proofs.Lines.{grows-then}
use Rattle.alg_build.proofs.Rewritings.{grows-stands}
use Rattle.alg_numerals.proofs.RelationLemmas.{compares}
use Rattle.alg_numerals.proofs.relations.compared_literals.Goals as goal

pub returns-clause-compares : goal.returns-clause-compares
returns-clause-compares c =
    let g = c.literal-2.ensures.grows in
    compares _ _ _ _ _ _ (grows-stands _ _ g _ _ _ c.in_ok-first.ensures.stands) c.in_ok-second.ensures.stands (concludes-grows _ _ _ _ (grows-then _ _ _ c.literal.ensures.grows g) c.in_ok-line.ensures.concludes)
