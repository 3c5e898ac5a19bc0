use Rattle.alg_build.proofs.Growing.{lengths}
use Rattle.alg_build.proofs.builder.Builder.mark.Goals as goal

pub returns-clause-conclusions : goal.returns-clause-conclusions
returns-clause-conclusions c = lengths _ c.args.self.now c.self.view_is c.self.invariant
