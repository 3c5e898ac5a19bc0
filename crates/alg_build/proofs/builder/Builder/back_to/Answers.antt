use Rattle.alg_build.proofs.Growing.{sound-take, book-take}
use Rattle.alg_build.proofs.Concluding.{last_is}
use Rattle.alg_build.proofs.builder.Builder.back_to.Goals as goal

pub invariant_of-self : goal.invariant_of-self
invariant_of-self c = rw (c.truncate.ensures.items, c.truncate-2.ensures.items) (sound-take _ _ c.self.invariant)

pub returns-clause-lines : goal.returns-clause-lines
returns-clause-lines c = rw (c.truncate.ensures.items, c.truncate-2.ensures.items) (book-take c.args.mark _ c.args.self.now c.self.view_is)

pub returns-clause-last : goal.returns-clause-last
returns-clause-last c = rw c.truncate-2.ensures.items (λ s. last_is _ c.args.self.now c.args.mark s c.self.view_is)
