use Rattle.alg_build.proofs.Rewritings.{grows-stands}
use Rattle.alg_numerals.proofs.LiteralLemmas.{grows-literals}
use Rattle.alg_fractions.proofs.SizeLemmas.{makes-two, product-heads, two-sorts}
use Rattle.alg_fractions.proofs.cancelling.times_literal.Goals as goal

pub app-requires-clause-sorts : goal.app-requires-clause-sorts
app-requires-clause-sorts c =
    let g = c.literal.ensures.grows in
    two-sorts _ _ _ _ _ _ _ (grows-stands _ _ g _ _ _ c.requires.a_stands) c.in_ok-e.ensures.stands (product-heads _ _ (grows-literals _ _ g _ c.requires.quotients.signs.literals))

pub returns-clause-stands : goal.returns-clause-stands
returns-clause-stands c =
    let g = c.literal.ensures.grows in
    makes-two _ _ _ _ _ _ _ _ _ (grows-stands _ _ g _ _ _ c.requires.a_stands) c.in_ok-e.ensures.stands (product-heads _ _ (grows-literals _ _ g _ c.requires.quotients.signs.literals)) c.in_ok-f.ensures.ok
