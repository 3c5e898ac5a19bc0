use Rattle.std.proofs.Common.{refl, ap, get_or}
use Rattle.alg_monomials.specs.declared.terms.Term.{Term}
use Rattle.alg_monomials.specs.Terms.{no_term}
use Rattle.alg_sorted_sums.proofs.Growing.{leads}
use Rattle.alg_sorted_sums.proofs.Summing.{both_stay, read_term}
use Rattle.alg_sorted_sums.proofs.stepping.joined_step.Goals as goal

pub returns-clause-merging : goal.returns-clause-merging
returns-clause-merging g c = λ keys h term.
    let p = read_term _ _ _ c.requires.takes.left_more c.index-p-m.is in
    let q = read_term _ _ _ c.requires.takes.right_more c.index-q-m.is in
    rw c.in_ok-push.ensures.items
    (both_stay _ _ _ _ _ _ _ c.joined.ensures.grows _ _ _ _ _ _ _ h c.args.zero c.in_ok-taken.taken.line (get_or c.args.p.now c.args.m.left no_term) (get_or c.args.q.now c.args.m.right no_term)
    (record { monomial = c.index-p-m.result.monomial; value = c.args.value; tree = c.args.r.to; sum = c.in_ok-taken.taken.sum })
    refl refl c.requires.takes (ap (λ (t : Term). t.monomial) p) c.requires.value c.requires.nonzero
    (leads _ _ _ _ _ c.requires.sum) term c.in_ok-taken.ensures.sum
    (rw (c.sum_at-a.ensures, c.sum_at-c.ensures, p, q) at c.in_ok-taken.ensures.line))
