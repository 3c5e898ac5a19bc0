use Rattle.alg_sorted_sums.proofs.Growing.{holds}
use Rattle.alg_sorted_sums.proofs.Summing.{right_stays, read_term}
use Rattle.alg_sorted_sums.proofs.stepping.right_step.Goals as goal

pub right_taken-requires-clause-c_in : goal.right_taken-requires-clause-c_in
right_taken-requires-clause-c_in g c = rw (read_term _ _ _ c.requires.takes.more c.index-q-m.is) (holds _ _ _ _ (c.requires.merging.merging.right.terms _ c.requires.takes.more).stands)

pub returns-clause-merging : goal.returns-clause-merging
returns-clause-merging g c = λ keys h.
    rw c.in_ok-push.ensures.items
    (right_stays _ _ _ _ _ _ _ c.right_taken.ensures.grows _ _ _ _ _ _ _ h _ _ c.index-q-m.result (read_term _ _ _ c.requires.takes.more c.index-q-m.is) c.requires.takes c.in_ok-taken.ensures.sum
    (rw (c.sum_at-a.ensures, c.sum_at-c.ensures) at c.in_ok-taken.ensures.line))
