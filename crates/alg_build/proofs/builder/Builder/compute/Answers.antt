use Rattle.alg_build.proofs.LineRules.{adds-each, computes-value}
use Rattle.alg_build.proofs.builder.Builder.compute.Goals as goal

pub returns-clause-adds : goal.returns-clause-adds
returns-clause-adds c = adds-each _ _ _ c.line.result _ _ (rw c.in_ok-items.ensures at c.line.ensures.adds) (computes-value c.args.self.now c.args.sym c.args.sort c.args.numbers.now c.requires)
