use Rattle.alg_names.proofs.Leaving.{left}
use Rattle.alg_names.proofs.scope.Scope.leave.Goals as goal

pub returns : goal.returns
returns c =
    λ s ds p q. left s c.args.self.now _ c.args.checkpoint ds (λ i. record { names = c.leave.ensures i; granted = c.leave-2.ensures i; declared = c.args.checkpoint.declared; hypotheses = c.args.checkpoint.hypotheses }) p q
