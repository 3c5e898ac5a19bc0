use Rattle.alg_expr.specs.Ids.{tree_of}
use Rattle.alg_build.proofs.Growing.{imported, sound-extends, makes_imported}
use Rattle.alg_build.proofs.builder.Builder.copy.Goals as goal

pub invariant_of-self : goal.invariant_of-self
invariant_of-self c = sound-extends _ _ (imported _ _ (tree_of c.args.from.now c.args.e) c.import.result c.import.ensures.ok c.import.ensures.err) c.self.invariant

pub returns-clause-ok : goal.returns-clause-ok
returns-clause-ok c = makes_imported _ _ c.args.self.now (tree_of c.args.from.now c.args.e) c.import.result c.self.view_is c.self.invariant c.import.ensures.ok
