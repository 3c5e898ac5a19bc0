use Rattle.alg_law.proofs.HavingLaws.{has_class-decides}
use Rattle.alg_law.proofs.base.has.Goals as goal

pub returns-clause-has : goal.returns-clause-has
returns-clause-has c = has_class-decides c.args.base.now c.args.sort c.args.class c.test.result c.test.ensures
