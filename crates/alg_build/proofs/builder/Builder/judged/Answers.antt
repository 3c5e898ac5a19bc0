use Rattle.alg_build.proofs.Growing.{given_is_good, all_fine, sound-extends, keeps-of}
use Rattle.alg_build.proofs.builder.Builder.judged.Goals as goal

pub conclusion-requires-clause-given_in : goal.conclusion-requires-clause-given_in
conclusion-requires-clause-given_in c = given_is_good _ c.self.invariant

pub conclusion-requires-clause-fine : goal.conclusion-requires-clause-fine
conclusion-requires-clause-fine c = rw c.deref-2.ensures.value (all_fine _ c.self.invariant)

pub invariant_of-self : goal.invariant_of-self
invariant_of-self c = sound-extends _ _ c.conclusion.ensures.keeps c.self.invariant

pub returns-clause-keeps : goal.returns-clause-keeps
returns-clause-keeps c = keeps-of _ _ c.args.self.now c.self.view_is c.conclusion.ensures.keeps c.self.invariant
