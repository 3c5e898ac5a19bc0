use Rattle.alg_kernel.proofs.ClaimLemmas.{derivable-holds}
use Rattle.alg_kernel.proofs.proved.Proved.follows.Goals as goal

pub returns-clause-holds : goal.returns-clause-holds
returns-clause-holds c = derivable-holds c.args.self.now.declarations c.args.self.now.given c.args.self.now.goal (rw (← c.self.view_is) c.len-declarations.ensures.well_formed) (rw (← c.self.view_is) c.self.invariant.derivable)
