use Rattle.alg_build.proofs.Leading.{concludes-grows}
use Rattle.alg_build.proofs.Lines.{grows-then}
use Rattle.alg_build.proofs.Rewritings.{grows-stands}
use Rattle.alg_order_exts.proofs.extremes.compared.Goals as goal

pub returns-clause-compares : goal.returns-clause-compares
returns-clause-compares c = record {
  first = grows-stands _ _ c.in_ok-second.ensures.grows _ _ _ c.in_ok-first.ensures.stands;
  second = c.in_ok-second.ensures.stands;
  line = concludes-grows _ _ _ _ (grows-then _ _ _ c.in_ok-first.ensures.grows c.in_ok-second.ensures.grows) c.in_ok-line.ensures.concludes;
}
