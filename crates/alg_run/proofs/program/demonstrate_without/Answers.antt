use Rattle.std.proofs.Common.{map}
use Rattle.alg_words.specs.Words.{text_in}
use Rattle.alg_run.specs.Asking.{known_among, steps_under}
use Rattle.alg_run.proofs.Answering.{demonstrates_left, demonstrates_nothing, no_memory_for_words}
use Rattle.alg_run.proofs.program.demonstrate_without.Goals as goal

pub returns-in-Ok-clause-answers : goal.returns-in-Ok-clause-answers
returns-in-Ok-clause-answers g c =
    demonstrates_left g.P.Procedures.step (λ x. (goal.NumExt-dyn g (x.vtable, x.value)).title x.value) (λ x f. (goal.NumExt-dyn g (x.vtable, x.value)).covered x.value f) (λ x. (goal.SignExt-dyn g (x.vtable, x.value)).heading x.value) (λ x f. (goal.SignExt-dyn g (x.vtable, x.value)).handled x.value f) c.args.num.now c.args.sign.now (text_in c.args.without) c.deref.result.now c.deref-in-Ok.result.now
    c.in-Ok.switches _ _ c.args.count c.demonstrate-ending.result c.deref.ensures.value c.deref-in-Ok.ensures.value c.in-Ok.ensures c.demonstrate-ending.ensures.answers

pub returns-in-Err-Unknown-clause-answers : goal.returns-in-Err-Unknown-clause-answers
returns-in-Err-Unknown-clause-answers g c =
    demonstrates_nothing _ (steps_under g.P.Procedures.step (λ x. (goal.NumExt-dyn g (x.vtable, x.value)).title x.value) (λ x f. (goal.NumExt-dyn g (x.vtable, x.value)).covered x.value f) (λ x. (goal.SignExt-dyn g (x.vtable, x.value)).heading x.value) (λ x f. (goal.SignExt-dyn g (x.vtable, x.value)).handled x.value f) c.args.num.now c.args.sign.now) (known_among (map (λ x. (goal.NumExt-dyn g (x.vtable, x.value)).title x.value) c.args.num.now) (map (λ x. (goal.SignExt-dyn g (x.vtable, x.value)).heading x.value) c.args.sign.now)) c.args.count (text_in c.args.without) (rw c.in-Err-Unknown.field-0-is at c.in-Err-Unknown.ensures)

pub returns-in-Err-Memory-clause-answers : goal.returns-in-Err-Memory-clause-answers
returns-in-Err-Memory-clause-answers g c = no_memory_for_words _ _ _
