use Rattle.alg_build.proofs.Lines.{grows-then}
use Rattle.alg_build.proofs.Rewritings.{grows-turns, stands-over}
use Rattle.alg_build.proofs.HeadFacts.{npow-heads}
use Rattle.alg_fractions.proofs.SizeLemmas.{grows-quotients}
use Rattle.alg_powers.proofs.PowerLemmas.{literals-monoid}
use Rattle.alg_fraction_powers.proofs.powers.base_shown.Goals as goal

pub under_two-requires : goal.under_two-requires
under_two-requires c =
    let q = grows-quotients _ _ (grows-then _ _ _ c.shown.ensures.grows c.literal.ensures.grows) _ c.requires.quotients in
    let h = npow-heads _ _ q.signs.literals.known (literals-monoid _ _ q.signs.literals) in
    stands-over _ _ _ _ _ _ _ _ _ _ _ (grows-turns _ _ c.literal.ensures.grows _ _ _ _ c.in_ok-base.ensures.turns) (c.keep-exponent.ensures _ _ c.in_ok-e.ensures.stands) h

pub returns-clause-turns : goal.returns-clause-turns
returns-clause-turns c =
    let q = grows-quotients _ _ (grows-then _ _ _ c.shown.ensures.grows c.literal.ensures.grows) _ c.requires.quotients in
    let h = npow-heads _ _ q.signs.literals.known (literals-monoid _ _ q.signs.literals) in
    c.in_ok-r.ensures.turns _ _ _ _ _ _ (grows-turns _ _ c.literal.ensures.grows _ _ _ _ c.in_ok-base.ensures.turns) (c.keep-exponent.ensures _ _ c.in_ok-e.ensures.stands) h
