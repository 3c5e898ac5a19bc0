use Rattle.alg_terms.specs.Tree.{Lit}
use Rattle.alg_build.proofs.Growing.{grown, sound-extends, makes}
use Rattle.alg_build.proofs.builder.Builder.lit.Goals as goal

pub invariant_of-self : goal.invariant_of-self
invariant_of-self c = sound-extends _ _ (grown _ _ (Lit c.args.sort c.args.value) c.lit.result c.lit.ensures.ok c.lit.ensures.err) c.self.invariant

pub returns-clause-ok : goal.returns-clause-ok
returns-clause-ok c = makes _ _ c.args.self.now (Lit c.args.sort c.args.value) c.lit.result c.self.view_is c.self.invariant c.lit.ensures.ok
