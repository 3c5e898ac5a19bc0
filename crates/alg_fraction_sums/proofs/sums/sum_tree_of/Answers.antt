use Rattle.alg_fractions.proofs.SizeLemmas.{grows-quotients, makes-two}
use Rattle.alg_fraction_sums.proofs.QuotientLemmas.{sum-heads}
use Rattle.alg_fraction_sums.proofs.sums.sum_tree_of.Goals as goal

pub returns-clause-stands : goal.returns-clause-stands
returns-clause-stands c =
    makes-two _ _ _ _ _ _ _ _ _ c.in_ok-a.ensures.first c.in_ok-a.ensures.second
    (sum-heads _ _ (grows-quotients _ _ c.two_fractions.ensures.grows _ c.requires.quotients))
    c.in_ok-e.ensures.ok
