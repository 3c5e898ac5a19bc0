use Rattle.std.proofs.Common.{sym, ◌∙◌}
use Rattle.alg_certificate_lines.proofs.LoopLaws.{names_of, names_before, read_of, read_before, ids_inside, flag_told}
use Rattle.alg_certificate_lines.proofs.building.read_trees.Goals as goal

pub returns-then-not-are_known-clause-reads : goal.returns-then-not-are_known-clause-reads
returns-then-not-are_known-clause-reads c = λ ts f e. sym (names_of c.args.base.now ts c.args.text.now f e) ∙ (sym c.are_known.ensures ∙ c.if-not-are_known.true)

pub returns-clause-reads : goal.returns-clause-reads
returns-clause-reads c = λ ts f e. read_of c.args.base.now c.build_trees.new.arena ts c.args.text.now c.build_trees.result f e (sym c.are_known.ensures ∙ c.if-not-are_known.false) c.build_trees.ensures.makes

pub returns-clause-here : goal.returns-clause-here
returns-clause-here c = ids_inside c.args.base.now c.build_trees.new.arena _ c.build_trees.result c.build_trees.ensures.makes

pub returns-clause-flag : goal.returns-clause-flag
returns-clause-flag c = flag_told c.args.base.now c.build_trees.new.arena _ c.build_trees.result c.build_trees.ensures.makes

pub returns-then-not-are_known-clause-before : goal.returns-then-not-are_known-clause-before
returns-then-not-are_known-clause-before c = λ ts is f w e. sym (names_before c.args.base.now ts is c.args.text.now f w e) ∙ (sym c.are_known.ensures ∙ c.if-not-are_known.true)

pub returns-clause-before : goal.returns-clause-before
returns-clause-before c = λ ts is f w e. read_before c.args.base.now c.build_trees.new.arena ts is c.args.text.now c.build_trees.result f w e (sym c.are_known.ensures ∙ c.if-not-are_known.false) c.build_trees.ensures.makes
