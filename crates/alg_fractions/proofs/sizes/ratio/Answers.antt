use Rattle.alg_build.proofs.Rewritings.{grows-stands}
use Rattle.alg_fractions.proofs.SizeLemmas.{grows-quotients, makes-two, quotient-heads, two-sorts}
use Rattle.alg_fractions.proofs.sizes.ratio.Goals as goal

pub app-requires-clause-sorts : goal.app-requires-clause-sorts
app-requires-clause-sorts c =
    two-sorts _ _ _ _ _ _ _ (grows-stands _ _ c.literal-2.ensures.grows _ _ _ c.in_ok-num.ensures.stands) c.in_ok-den.ensures.stands
    (quotient-heads _ _ (grows-quotients _ _ c.literal-2.ensures.grows _ (grows-quotients _ _ c.literal.ensures.grows _ c.requires.quotients)))

pub returns-clause-stands : goal.returns-clause-stands
returns-clause-stands c =
    makes-two _ _ _ _ _ _ _ _ _ (grows-stands _ _ c.literal-2.ensures.grows _ _ _ c.in_ok-num.ensures.stands) c.in_ok-den.ensures.stands
    (quotient-heads _ _ (grows-quotients _ _ c.literal-2.ensures.grows _ (grows-quotients _ _ c.literal.ensures.grows _ c.requires.quotients)))
    c.in_ok-e.ensures.ok
