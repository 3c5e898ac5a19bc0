use Rattle.alg_kernel.proofs.FillingLemmas.{bad-arity, bad-sorts}
use Rattle.alg_kernel.proofs.filling.apply.Goals as goal

pub returns-in-Err-BadArity-clause-made : goal.returns-in-Err-BadArity-clause-made
returns-in-Err-BadArity-clause-made c = λ ds. bad-arity ds c.args.sym c.args.sort c.args.arena.now c.args.args.now (rw c.in-Err-BadArity.field-0-is at c.in-Err-BadArity.ensures.cause)

pub returns-in-Err-BadSort-clause-made : goal.returns-in-Err-BadSort-clause-made
returns-in-Err-BadSort-clause-made c = λ ds. bad-sorts ds c.args.sym c.args.sort c.args.arena.now c.args.args.now (rw c.in-Err-BadSort.field-0-is at c.in-Err-BadSort.ensures.cause).1
