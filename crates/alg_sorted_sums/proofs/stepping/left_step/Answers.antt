use Rattle.alg_sorted_sums.proofs.Growing.{holds}
use Rattle.alg_sorted_sums.proofs.Summing.{left_stays, read_term}
use Rattle.alg_sorted_sums.proofs.stepping.left_step.Goals as goal

pub left_taken-requires-clause-b_in : goal.left_taken-requires-clause-b_in
left_taken-requires-clause-b_in g c = rw (read_term _ _ _ c.requires.takes.more c.index-p-m.is) (holds _ _ _ _ (c.requires.merging.merging.left.terms _ c.requires.takes.more).stands)

pub returns-clause-merging : goal.returns-clause-merging
returns-clause-merging g c = λ keys h.
    rw c.in_ok-push.ensures.items
    (left_stays _ _ _ _ _ _ _ c.left_taken.ensures.grows _ _ _ _ _ _ _ h _ _ c.index-p-m.result (read_term _ _ _ c.requires.takes.more c.index-p-m.is) c.requires.takes c.in_ok-taken.ensures.sum
    (rw (c.sum_at-a.ensures, c.sum_at-c.ensures) at c.in_ok-taken.ensures.line))
