use Rattle.alg_terms.specs.Tree.{Nil, Cons}
use Rattle.alg_kernel.proofs.FillingLemmas.{first-bad, second-bad}
use Rattle.alg_kernel.proofs.filling.over_two.Goals as goal

pub returns-in-None-clause-made : goal.returns-in-None-clause-made
returns-in-None-clause-made c = λ ds t u h k. first-bad ds c.args.sym c.args.sort t (Cons u Nil) (rw c.in-None.is at h)

pub returns-in-None-b-clause-made : goal.returns-in-None-b-clause-made
returns-in-None-b-clause-made c = λ ds t u h k. second-bad ds c.args.sym c.args.sort t u Nil (rw c.in-None-b.is at k)
