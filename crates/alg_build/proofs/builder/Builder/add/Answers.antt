use Rattle.alg_build.proofs.Growing.{pushed}
use Rattle.alg_build.proofs.builder.Builder.add.Goals as goal

pub invariant_of-self-in-Ok : goal.invariant_of-self-in-Ok
invariant_of-self-in-Ok c =
    rw (c.in_ok-push.ensures.items, c.in-Ok.ensures.items)
    (pushed _ _ _ _ c.self.view_is c.self.invariant c.requires.line_in c.requires.statement_in c.requires.good)
