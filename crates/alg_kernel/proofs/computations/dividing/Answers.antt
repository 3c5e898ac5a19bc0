use Rattle.alg_expr.proofs.ArenaLaws.{Extends-then}
use Rattle.alg_kernel.proofs.computations.dividing.Goals as goal

pub returns-clause-keeps : goal.returns-clause-keeps
returns-clause-keeps c = Extends-then _ _ _ c.numeral.ensures.keeps c.numeral-2.ensures.keeps
