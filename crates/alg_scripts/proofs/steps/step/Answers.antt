use Rattle.alg_scripts.proofs.Asking.{kept_in, kept_sorted, kept_library, kept_fit, kept_same, kept_grows}
use Rattle.alg_scripts.proofs.steps.step.Goals as goal

pub call-requires-clause-here : goal.call-requires-clause-here
call-requires-clause-here g c = kept_in _ _ c.imported.ensures.keeps c.args.goal c.requires.here

pub call-requires-clause-sorted : goal.call-requires-clause-sorted
call-requires-clause-sorted g c = kept_sorted _ _ c.imported.ensures.keeps c.args.goal c.requires.here c.requires.sorted

pub call-requires-clause-lemmas : goal.call-requires-clause-lemmas
call-requires-clause-lemmas g c = kept_library _ _ c.imported.ensures.keeps c.requires.lemmas

pub call-requires-clause-fits : goal.call-requires-clause-fits
call-requires-clause-fits g c = kept_fit _ _ c.imported.ensures.keeps _ _ _ c.in-Ok.ensures.call c.requires.fits

pub returns-in-Ok-clause-answer : goal.returns-in-Ok-clause-answer
returns-in-Ok-clause-answer g c =
    let k = c.imported.ensures.keeps in
    rw (k.theory, kept_same _ _ k c.args.goal c.requires.here, c.in-Ok.ensures.call) at c.call.ensures.answer

pub returns-in-Ok-clause-grows : goal.returns-in-Ok-clause-grows
returns-in-Ok-clause-grows g c = kept_grows _ _ c.imported.ensures.keeps _ c.call.ensures.grows
