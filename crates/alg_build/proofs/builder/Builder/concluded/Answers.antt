use Rattle.alg_build.proofs.Growing.{concluded_fine}
use Rattle.alg_build.proofs.Concluding.{concluded_is}
use Rattle.alg_build.proofs.builder.Builder.concluded.Goals as goal

pub returns-clause-statement : goal.returns-clause-statement
returns-clause-statement c = concluded_is _ c.args.self.now c.args.i _ c.self.view_is c.requires c.index.ensures

pub returns-clause-fine : goal.returns-clause-fine
returns-clause-fine c = concluded_fine _ c.args.self.now c.args.i c.self.view_is c.self.invariant c.requires
