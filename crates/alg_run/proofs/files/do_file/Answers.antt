use Rattle.std.proofs.Common.{◌∙◌, refl}
use Rattle.alg_words.specs.Words.{text_in}
use Rattle.alg_steps.specs.Calling.{cover_of}
use Rattle.alg_report.specs.Seen.{seen_of}
use Rattle.alg_report.proofs.Reaching.{did_more, did_then, did_err, did_ok, did_plan}
use Rattle.alg_run.proofs.Working.{plan_is, some_text}
use Rattle.alg_run.proofs.files.do_file.Goals as goal

pub returns-in_err-start-clause-told : goal.returns-in_err-start-clause-told
returns-in_err-start-clause-told g c = did_more _ _ _ _ _ _ c.from_residual.ensures.0 c.start.ensures.told

pub returns-in_err-tally-clause-told : goal.returns-in_err-tally-clause-told
returns-in_err-tally-clause-told g c =
    did_plan _ _ _ _ _ (plan_is (text_in c.args.cert) c.args.aloud _ (g.P.Procedures.step (cover_of (λ x f. (goal.NumExt-dyn g (x.vtable, x.value)).covered x.value f) (λ x f. (goal.SignExt-dyn g (x.vtable, x.value)).handled x.value f) c.args.exts.now.num.now c.args.exts.now.num_on.now c.args.exts.now.sign.now c.args.exts.now.sign_on.now)) c.args.file.now.shared (seen_of c.args.file.now) _ (c.is_some.ensures ∙ some_text _) refl)
    (did_then _ _ _ _ _ _ _ _ c.in_ok-start.was c.start.ensures.told (did_more _ _ _ _ _ _ c.from_residual-in_err-tally.ensures.0 c.do_commands.ensures.told))

pub returns-in_err-say_last-clause-told : goal.returns-in_err-say_last-clause-told
returns-in_err-say_last-clause-told g c =
    did_plan _ _ _ _ _ (plan_is (text_in c.args.cert) c.args.aloud _ (g.P.Procedures.step (cover_of (λ x f. (goal.NumExt-dyn g (x.vtable, x.value)).covered x.value f) (λ x f. (goal.SignExt-dyn g (x.vtable, x.value)).handled x.value f) c.args.exts.now.num.now c.args.exts.now.num_on.now c.args.exts.now.sign.now c.args.exts.now.sign_on.now)) c.args.file.now.shared (seen_of c.args.file.now) _ (c.is_some.ensures ∙ some_text _) c.in_ok-tally.ensures.tally)
    (did_then _ _ _ _ _ _ _ _ c.in_ok-start.was c.start.ensures.told
    (did_err _ _ _ _ _ c.from_residual-in_err-say_last.ensures.0 (did_then _ _ _ _ _ _ _ _ c.in_ok-tally.was c.do_commands.ensures.told c.say_last.ensures.told)))

pub returns-clause-told : goal.returns-clause-told
returns-clause-told g c =
    did_plan _ _ _ _ _ (plan_is (text_in c.args.cert) c.args.aloud _ (g.P.Procedures.step (cover_of (λ x f. (goal.NumExt-dyn g (x.vtable, x.value)).covered x.value f) (λ x f. (goal.SignExt-dyn g (x.vtable, x.value)).handled x.value f) c.args.exts.now.num.now c.args.exts.now.num_on.now c.args.exts.now.sign.now c.args.exts.now.sign_on.now)) c.args.file.now.shared (seen_of c.args.file.now) _ (c.is_some.ensures ∙ some_text _) c.in_ok-tally.ensures.tally)
    (did_then _ _ _ _ _ _ _ _ c.in_ok-start.was c.start.ensures.told
    (did_ok _ _ _ _ _ _ c.in_ok-say_last.was (did_then _ _ _ _ _ _ _ _ c.in_ok-tally.was c.do_commands.ensures.told c.say_last.ensures.told)))
