use Rattle.std.proofs.Common.{refl}
use Rattle.alg_build.proofs.Rewritings.{is-term}
use Rattle.alg_ends.proofs.EndFacts.{left_stands, right_stands}
use Rattle.trial_procedures.proofs.Leaving.{into_itself, ends_same}
use Rattle.trial_procedures.proofs.table.keep_sides.Goals as goal

pub keep-right-requires : goal.keep-right-requires
keep-right-requires c = is-term _ _ _ _ (right_stands c.args.cx.now c.args.goal c.requires.here c.requires.sorted)

pub end_with-requires-clause-left : goal.end_with-requires-clause-left
end_with-requires-clause-left c = into_itself _ _ _ _ _ (c.keep-left.ensures _ _ (left_stands c.args.cx.now c.args.goal c.requires.here c.requires.sorted))

pub end_with-requires-clause-right : goal.end_with-requires-clause-right
end_with-requires-clause-right c = into_itself _ _ _ _ _ (c.keep-right.ensures _ _ (right_stands c.args.cx.now c.args.goal c.requires.here c.requires.sorted))

pub returns-clause-answer : goal.returns-clause-answer
returns-clause-answer c =
    let l = c.keep-left.ensures _ _ (left_stands c.args.cx.now c.args.goal c.requires.here c.requires.sorted) in
    let r = c.keep-right.ensures _ _ (right_stands c.args.cx.now c.args.goal c.requires.here c.requires.sorted) in
    ends_same c.end_with.new.cx c.end_with.result _ _ _ _ _ _ refl l.tree r.tree c.end_with.ensures.answer
