use Rattle.alg_evaluation.proofs.nodes.numbered.Goals as goal

pub operation-requires-clause-numbered : goal.operation-requires-clause-numbered
operation-requires-clause-numbered g c = (_, c.requires.numbered)

pub returns-clause-found : goal.returns-clause-found
returns-clause-found g c = rw c.requires.numbered.applied.stands.tree (c.in_ok-f.ensures.found _ c.requires.numbered)
