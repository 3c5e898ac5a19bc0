use Rattle.std.proofs.Common.{sym}
use Rattle.alg_evaluation.proofs.Finding.{without_numbers}
use Rattle.alg_evaluation.proofs.Parting.{none_of, some_of}
use Rattle.alg_evaluation.proofs.nodes.applied.Goals as goal

pub numbered-requires-clause-numbered : goal.numbered-requires-clause-numbered
numbered-requires-clause-numbered g c = rw c.as_slice.ensures.value (record { applied = c.requires.applied; numbers = some_of (λ v. v.items) _ _ _ c.in_ok-ps.ensures c.in-Some.is })

pub unvalued-requires-clause-applied : goal.unvalued-requires-clause-applied
unvalued-requires-clause-applied g c = (_, c.requires.applied)

pub returns-in_ok-f-in-None-clause-found : goal.returns-in_ok-f-in-None-clause-found
returns-in_ok-f-in-None-clause-found g c =
    let a = c.requires.applied in
    rw a.stands.tree (c.in_ok-f-in-None.ensures.found _ a (sym (without_numbers _ _ _ _ a (none_of (λ v. v.items) _ _ c.in_ok-ps.ensures c.in-None.is))))
