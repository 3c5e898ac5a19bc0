use Rattle.std.proofs.Common.{sym}
use Rattle.alg_build.proofs.Lines.{grows-then}
use Rattle.alg_evaluation.proofs.Asking.{answered, applied-grows}
use Rattle.alg_evaluation.proofs.naming.by_extension.Goals as goal

pub evaluated_parts-requires : goal.evaluated_parts-requires
evaluated_parts-requires g c = record { numbered = (_, c.requires.numbered) }

pub value_by-requires-clause-over : goal.value_by-requires-clause-over
value_by-requires-clause-over g c = (c.args.head.sort, rw c.as_slice.ensures.value c.in_ok-args.ensures.over)

pub value_by-requires-clause-lemmas : goal.value_by-requires-clause-lemmas
value_by-requires-clause-lemmas g c = rw c.evaluated_parts.ensures.grows.theory c.requires.numbered.applied.library

pub named-requires-clause-applied : goal.named-requires-clause-applied
named-requires-clause-applied g c = (_, applied-grows _ _ _ _ _ (grows-then _ _ _ c.evaluated_parts.ensures.grows c.value_by.ensures.grows) c.requires.numbered.applied)

pub named-requires-clause-same : goal.named-requires-clause-same
named-requires-clause-same g c = (rw c.in-Ok-Some.field-0-is at c.in-Ok-Some.ensures.gives).1

pub named-requires-clause-valued : goal.named-requires-clause-valued
named-requires-clause-valued g c = (rw c.in-Ok-Some.field-0-is at c.in-Ok-Some.ensures.gives).2

pub named-requires-clause-has : goal.named-requires-clause-has
named-requires-clause-has g c =
    let k = rw c.in-Ok-Some.field-0-is at c.in-Ok-Some.ensures.gives in
    let e = rw (← c.as_slice.ensures.value) at c.in_ok-args.ensures.numbers in (
      _,
      applied-grows _ _ _ _ _ (grows-then _ _ _ c.evaluated_parts.ensures.grows c.value_by.ensures.grows) c.requires.numbered.applied,
      answered _ _ _ c.evaluated_parts.ensures.grows _ _ _ c.requires.numbered c.requires.named _ e c.value_by.new.cx c.value_by.ensures.grows _ k.0,
    )

pub returns-in-Ok-Some-clause-found : goal.returns-in-Ok-Some-clause-found
returns-in-Ok-Some-clause-found g c =
    let k = rw c.in-Ok-Some.field-0-is at c.in-Ok-Some.ensures.gives in
    let e = rw (← c.as_slice.ensures.value) at c.in_ok-args.ensures.numbers in
    rw c.requires.numbered.applied.stands.tree (c.in_ok-f-in-Ok-Some.ensures.found _ (applied-grows _ _ _ _ _ (grows-then _ _ _ c.evaluated_parts.ensures.grows c.value_by.ensures.grows) c.requires.numbered.applied)
    (answered _ _ _ c.evaluated_parts.ensures.grows _ _ _ c.requires.numbered c.requires.named _ e c.value_by.new.cx c.value_by.ensures.grows _ k.0))

pub unvalued-requires-clause-applied : goal.unvalued-requires-clause-applied
unvalued-requires-clause-applied g c = (_, applied-grows _ _ _ _ _ (grows-then _ _ _ c.evaluated_parts.ensures.grows c.value_by.ensures.grows) c.requires.numbered.applied)

pub unvalued-requires-in-Err-Range-clause-applied : goal.unvalued-requires-in-Err-Range-clause-applied
unvalued-requires-in-Err-Range-clause-applied g c = (_, applied-grows _ _ _ _ _ (grows-then _ _ _ c.evaluated_parts.ensures.grows c.value_by.ensures.grows) c.requires.numbered.applied)

pub returns-in-Ok-None-clause-found : goal.returns-in-Ok-None-clause-found
returns-in-Ok-None-clause-found g c =
    let k = rw c.in-Ok-None.field-0-is at c.in-Ok-None.ensures.gives in
    let e = rw (← c.as_slice.ensures.value) at c.in_ok-args.ensures.numbers in
    rw c.requires.numbered.applied.stands.tree (c.in_ok-f-in-Ok-None.ensures.found _ (applied-grows _ _ _ _ _ (grows-then _ _ _ c.evaluated_parts.ensures.grows c.value_by.ensures.grows) c.requires.numbered.applied)
    (sym (answered _ _ _ c.evaluated_parts.ensures.grows _ _ _ c.requires.numbered c.requires.named _ e c.value_by.new.cx c.value_by.ensures.grows _ k)))

pub returns-in-Ok-None-clause-grows : goal.returns-in-Ok-None-clause-grows
returns-in-Ok-None-clause-grows g c = grows-then _ _ _ (grows-then _ _ _ c.evaluated_parts.ensures.grows c.value_by.ensures.grows) c.unvalued.ensures.grows

pub returns-in-Err-Range-clause-found : goal.returns-in-Err-Range-clause-found
returns-in-Err-Range-clause-found g c =
    let k = rw c.in-Err-Range.field-0-is at c.in-Err-Range.ensures.gives in
    let e = rw (← c.as_slice.ensures.value) at c.in_ok-args.ensures.numbers in
    rw c.requires.numbered.applied.stands.tree (c.in_ok-f-in-Err-Range.ensures.found _ (applied-grows _ _ _ _ _ (grows-then _ _ _ c.evaluated_parts.ensures.grows c.value_by.ensures.grows) c.requires.numbered.applied)
    (sym (answered _ _ _ c.evaluated_parts.ensures.grows _ _ _ c.requires.numbered c.requires.named _ e c.value_by.new.cx c.value_by.ensures.grows _ k)))

pub returns-in-Err-Range-clause-grows : goal.returns-in-Err-Range-clause-grows
returns-in-Err-Range-clause-grows g c = grows-then _ _ _ (grows-then _ _ _ c.evaluated_parts.ensures.grows c.value_by.ensures.grows) c.unvalued-in-Err-Range.ensures.grows
