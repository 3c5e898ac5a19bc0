use Rattle.alg_build.proofs.builder.Builder.lead.Goals as goal

pub returns-in-Rewrite-clause-concludes : goal.returns-in-Rewrite-clause-concludes
returns-in-Rewrite-clause-concludes c = rw c.in-Rewrite.is c.rewritten.ensures.concludes

pub returns-in-Scale-clause-concludes : goal.returns-in-Scale-clause-concludes
returns-in-Scale-clause-concludes c = rw c.in-Scale.is c.scaled.ensures.concludes
