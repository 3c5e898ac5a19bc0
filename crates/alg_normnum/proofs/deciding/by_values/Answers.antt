use Rattle.std.proofs.Common.{sym, ◌∙◌}
use Rattle.alg_expr.specs.Ids.{statement_of}
use Rattle.alg_law.specs.Having.{has_class}
use Rattle.alg_values.specs.Numerals.{numeral_tree}
use Rattle.alg_normnum.proofs.Relations.{past_compared}
use Rattle.alg_normnum.proofs.deciding.by_values.Goals as goal

pub by_comparison-requires-clause-range : goal.by_comparison-requires-clause-range
by_comparison-requires-clause-range c = sym c.is_in_range.ensures ∙ c.if-is_in_range.true

pub returns-clause-answer : goal.returns-clause-answer
returns-clause-answer c =
    let g = c.args.goal in
    past_compared (has_class c.args.cx.now.theory.declarations) (statement_of c.args.cx.now.trees g) (numeral_tree g.sort c.args.left.value) (numeral_tree g.sort c.args.right.value) c.args.left.value c.args.right.value (sym c.is_in_range.ensures ∙ c.if-is_in_range.false)
