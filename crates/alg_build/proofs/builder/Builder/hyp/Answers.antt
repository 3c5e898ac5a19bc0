use Rattle.alg_build.proofs.LineRules.{adds-each, hypothesis-leads}
use Rattle.alg_build.proofs.builder.Builder.hyp.Goals as goal

pub returns-clause-adds : goal.returns-clause-adds
returns-clause-adds c = adds-each _ _ _ c.line.result _ _ c.line.ensures.adds (hypothesis-leads c.args.self.now c.args.number)
