use Rattle.std.proofs.Common.{arith}
use Rattle.alg_build.proofs.Lines.{grows-then}
use Rattle.alg_sorted_sums.proofs.Summing.{all_merged}
use Rattle.alg_sorted_sums.proofs.merging.merge.Goals as goal

pub terms-preserved : goal.terms-preserved
terms-preserved g c = record {
  grows = grows-then _ _ _ c.terms.invariant.grows c.advance.ensures.grows;
  merging = λ keys h. c.in_ok-m-2.ensures.merging keys (c.terms.invariant.merging keys h);
}

pub returns-clause-sum : goal.returns-clause-sum
returns-clause-sum g c = λ keys h. all_merged _ _ keys _ _ _ _ _ _ _ _ _ _ (omega arith) (omega arith) (c.terms.invariant.merging keys h)
