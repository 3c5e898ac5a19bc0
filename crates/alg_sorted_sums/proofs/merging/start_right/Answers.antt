use Rattle.alg_build.proofs.Lines.{grows-then}
use Rattle.alg_sorted_sums.proofs.Summing.{begun_right}
use Rattle.alg_sorted_sums.proofs.merging.start_right.Goals as goal

pub returns-clause-merging : goal.returns-clause-merging
returns-clause-merging g c = λ keys h.
    rw (c.in_ok-done.ensures.items_if_clones_equal (λ x y e. e), c.sum_at-sum.ensures)
    (begun_right _ _ keys _ _ _ _ (grows-then _ _ _ c.zero_add.ensures.grows c.line_of.ensures.grows) _ _ _ _ c.requires.within c.requires.before h
    (rw c.sum_at-sum.ensures at (c.in_ok-line.ensures.proves _ _ _ c.in_ok-r.ensures.turns)))
