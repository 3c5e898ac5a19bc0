use Rattle.alg_build.proofs.Growing.{sound-rest}
use Rattle.alg_build.proofs.builder.Builder.rest.Goals as goal

pub invariant_of-self-in-Ok : goal.invariant_of-self-in-Ok
invariant_of-self-in-Ok c =
    rw (c.in_ok-push.ensures.items, c.in-Ok.ensures.items)
    (sound-rest _ _ c.args.self.now c.self.view_is c.self.invariant c.requires.nothing c.requires.here c.requires.sorted)
