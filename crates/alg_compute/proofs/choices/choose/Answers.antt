use Rattle.std.proofs.Common.{◌≡◌, ◌<◌, ◌^◌, sym, subst, lit<}
use Rattle.alg_law.specs.LeanFunctions.{choose}
use Rattle.alg_compute.proofs.Answering.{same_number}
use Rattle.alg_compute.proofs.Choosing.{choose-past, choose-rest}
use Rattle.alg_compute.proofs.choices.choose.Goals as goal

pub returns-then-k-n : goal.returns-then-k-n
returns-then-k-n c =
    let e : 0 ≡ choose c.args.n c.args.k = sym (choose-past c.args.n c.args.k c.if-k-n.true) in
    (subst (λ n. n < 2 ^ 127) e (lit< tt), e)

pub returns-else-k-rest : goal.returns-else-k-rest
returns-else-k-rest c =
    same_number c.choose_few-else-k-rest.result _ _ (choose-rest c.args.n c.args.k c.if-k-n.false) c.choose_few-else-k-rest.ensures
