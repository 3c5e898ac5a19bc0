use Rattle.alg_build.proofs.Lines.{adds-proves}
use Rattle.alg_build.proofs.Rewritings.{concluded}
use Rattle.alg_build.proofs.RowLines.{adds-there}
use Rattle.alg_build.proofs.literals.product_of_literals.Goals as goal

pub concluded-requires : goal.concluded-requires
concluded-requires c = adds-there _ _ _ _ _ c.in_ok-line.ensures.adds

pub returns-clause-turns : goal.returns-clause-turns
returns-clause-turns c = concluded _ _ _ _ _ (adds-proves _ _ _ _ _ _ c.in_ok-line.ensures.adds) c.concluded.ensures.here c.concluded.ensures.statement c.concluded.ensures.fine
