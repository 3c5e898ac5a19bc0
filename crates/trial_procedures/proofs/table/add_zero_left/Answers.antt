use Rattle.alg_build.proofs.Rewritings.{grows-stands}
use Rattle.alg_ends.proofs.EndFacts.{right_stands}
use Rattle.trial_procedures.proofs.Leaving.{into_itself, stands_itself, ends_same, grown_statement}
use Rattle.trial_procedures.proofs.table.add_zero_left.Goals as goal

pub end_with-requires-clause-right : goal.end_with-requires-clause-right
end_with-requires-clause-right c =
    let s = right_stands c.args.cx.now c.args.goal c.requires.here c.requires.sorted in
    into_itself _ _ _ _ _ (c.keep-right.ensures _ _ (stands_itself _ _ _ _ (grows-stands _ _ c.in_ok-left.ensures.grows _ _ _ s)))

pub returns-clause-answer : goal.returns-clause-answer
returns-clause-answer c =
    let s = right_stands c.args.cx.now c.args.goal c.requires.here c.requires.sorted in
    let r = c.keep-right.ensures _ _ (grows-stands c.args.cx.now c.with_zero.new.cx c.in_ok-left.ensures.grows _ _ _ s) in
    let same = grown_statement c.args.cx.now c.with_zero.new.cx c.args.goal c.in_ok-left.ensures.grows c.requires.here in
    ends_same c.end_with.new.cx c.end_with.result _ _ _ _ _ _ same c.in_ok-left.ensures.turns.tree r.tree c.end_with.ensures.answer
