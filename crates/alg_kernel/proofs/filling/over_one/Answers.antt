use Rattle.alg_terms.specs.Tree.{Nil}
use Rattle.alg_kernel.proofs.FillingLemmas.{first-bad}
use Rattle.alg_kernel.proofs.filling.over_one.Goals as goal

pub returns-in-None-clause-made : goal.returns-in-None-clause-made
returns-in-None-clause-made c = λ ds t h. first-bad ds c.args.sym c.args.sort t Nil (rw c.in-None.is at h)
