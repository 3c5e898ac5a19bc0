use Rattle.alg_build.proofs.Lines.{makes-grows}
use Rattle.alg_build.proofs.Rewritings.{turns-in, grows-stands}
use Rattle.trial_procedures.proofs.Leaving.{made_zero}
use Rattle.trial_procedures.proofs.table.sum_with_zero.Goals as goal

pub plus-requires-clause-left : goal.plus-requires-clause-left
plus-requires-clause-left c = turns-in _ _ _ _ _ (c.keep-left.ensures _ _ (made_zero _ _ _ c.in_ok-zero.ensures.ok))

pub plus-requires-clause-right : goal.plus-requires-clause-right
plus-requires-clause-right c = turns-in _ _ _ _ _ (c.keep-right.ensures _ _ (grows-stands _ _ (makes-grows _ _ _ _ c.in_ok-zero.ensures.ok) _ _ _ c.requires))

pub returns-clause-turns : goal.returns-clause-turns
returns-clause-turns c =
    let l = c.keep-left.ensures _ _ (made_zero _ _ _ c.in_ok-zero.ensures.ok) in
    let r = c.keep-right.ensures _ _ (grows-stands _ _ (makes-grows _ _ _ _ c.in_ok-zero.ensures.ok) _ _ _ c.requires) in
    c.in_ok-sum.ensures.turns _ _ _ _ l r
