use Rattle.std.proofs.Common.{refl, get_or}
use Rattle.alg_monomials.specs.Terms.{no_term}
use Rattle.alg_sorted_sums.proofs.Summing.{none_stays, read_term}
use Rattle.alg_sorted_sums.proofs.stepping.gone_step.Goals as goal

pub returns-clause-merging : goal.returns-clause-merging
returns-clause-merging g c = λ keys h.
    let p = read_term _ _ _ c.requires.takes.left_more c.index-p-m.is in
    let q = read_term _ _ _ c.requires.takes.right_more c.index-q-m.is in
    none_stays _ _ _ _ _ _ _ c.vanished.ensures.grows _ _ _ _ _ _ _ h c.args.zero c.in_ok-line.line (get_or c.args.p.now c.args.m.left no_term) (get_or c.args.q.now c.args.m.right no_term) refl refl c.requires.takes c.requires.nothing
    (rw (c.sum_at-a.ensures, c.sum_at-c.ensures, p, q) at c.in_ok-line.ensures.line)
