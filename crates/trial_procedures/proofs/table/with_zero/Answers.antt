use Rattle.alg_build.proofs.Rewritings.{target, grows-stands, grows-turns}
use Rattle.trial_procedures.proofs.Leaving.{row_from}
use Rattle.trial_procedures.proofs.table.with_zero.Goals as goal

pub returns-clause-turns : goal.returns-clause-turns
returns-clause-turns c =
    let same = (grows-stands c.args.cx.now c.sum_with_zero.new.cx c.in_ok-sum.ensures.grows _ _ _ c.requires).tree in
    let row = row_from c.zero_add.new.cx _ _ _ same c.in_ok-row.ensures.turns in
    let sum = target c.zero_add.new.cx _ _ _ _ (grows-turns c.sum_with_zero.new.cx c.zero_add.new.cx c.in_ok-row.ensures.grows _ _ _ _ c.in_ok-sum.ensures.turns) in
    c.in_ok-from.ensures.turns _ _ _ sum row
