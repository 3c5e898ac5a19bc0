use Rattle.alg_build.proofs.Growing.{sound-extends, keeps-of}
use Rattle.alg_build.proofs.builder.Builder.import.Goals as goal

pub invariant_of-self : goal.invariant_of-self
invariant_of-self c = sound-extends _ _ c.import_statement.ensures.keeps c.self.invariant

pub returns-clause-keeps : goal.returns-clause-keeps
returns-clause-keeps c = keeps-of _ _ c.args.self.now c.self.view_is c.import_statement.ensures.keeps c.self.invariant
