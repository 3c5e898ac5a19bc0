use Rattle.alg_expr.specs.Ids.{statement_of}
use Rattle.alg_kernel.proofs.KernelLemmas.{finish-derivable}
use Rattle.alg_kernel.proofs.ClaimLemmas.{finish-holds}
use Rattle.alg_kernel.proofs.kernel.Kernel.finish.Goals as goal

pub returns-clause-derivable : goal.returns-clause-derivable
returns-clause-derivable c = finish-derivable c.args.arena.now c.args.self (statement_of c.args.arena.now c.args.goal) c.end.result c.requires.sound c.end.ensures.verdict

pub returns-clause-holds : goal.returns-clause-holds
returns-clause-holds c = finish-holds c.args.arena.now c.args.self (statement_of c.args.arena.now c.args.goal) c.end.result c.requires.sound c.end.ensures.verdict
