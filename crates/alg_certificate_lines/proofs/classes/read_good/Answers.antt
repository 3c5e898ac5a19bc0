use Rattle.std.proofs.Common.{subst}
use Rattle.alg_certificate_lines.specs.Adding.{ReadsTrees}
use Rattle.alg_certificate_lines.proofs.StepLaws.{trees_there, trees_unclassed, trees_fault}
use Rattle.alg_certificate_lines.proofs.classes.read_good.Goals as goal

pub returns-then-classed-clause-gives : goal.returns-then-classed-clause-gives
returns-then-classed-clause-gives c = λ ts is f w e.
    trees_there c.args.base.now c.read_trees.new.arena ts (c.in-Ok.ids, c.in-Ok.classed)
    (subst (ReadsTrees c.args.base.now c.read_trees.new.arena ts) c.in-Ok.is (c.read_trees.ensures.before ts is f w e)) c.in-Ok.ensures.flag c.if-classed.true

pub returns-else-classed-clause-gives : goal.returns-else-classed-clause-gives
returns-else-classed-clause-gives c = λ ts is f w e.
    trees_unclassed c.args.base.now c.read_trees.new.arena ts (c.in-Ok.ids, c.in-Ok.classed)
    (subst (ReadsTrees c.args.base.now c.read_trees.new.arena ts) c.in-Ok.is (c.read_trees.ensures.before ts is f w e)) c.in-Ok.ensures.flag c.if-classed.false

pub returns-in-Err-clause-gives : goal.returns-in-Err-clause-gives
returns-in-Err-clause-gives c = λ ts is f w e.
    trees_fault c.args.base.now c.read_trees.new.arena ts c.in-Err.fault
    (subst (ReadsTrees c.args.base.now c.read_trees.new.arena ts) c.in-Err.is (c.read_trees.ensures.before ts is f w e))
