use Rattle.std.proofs.Common.{sym, ap, ◌∙◌, true, false, Some}
use Rattle.alg_expr.specs.Ids.{statement_of}
use Rattle.alg_law.specs.Having.{has_class}
use Rattle.alg_values.specs.Numerals.{numeral_tree}
use Rattle.alg_normnum.proofs.Numbers.{undecided}
use Rattle.alg_normnum.proofs.Relations.{by_decided, gives_same}
use Rattle.alg_normnum.proofs.deciding.by_comparison.Goals as goal

pub closed-requires-clause-holds : goal.closed-requires-clause-holds
closed-requires-clause-holds c = record { decided = sym (rw c.base.ensures at c.in-Some.ensures) ∙ ap Some c.if-holds.true; range = c.requires.range }

pub returns-then-holds-clause-answer : goal.returns-then-holds-clause-answer
returns-then-holds-clause-answer c =
    let g = c.args.goal in
    let d = sym (rw c.base.ensures at c.in-Some.ensures) ∙ ap Some c.if-holds.true in
    gives_same c.closed.new.cx c.closed.result _ _ (by_decided (has_class c.args.cx.now.theory.declarations) (statement_of c.args.cx.now.trees g) (numeral_tree g.sort c.args.left.value) (numeral_tree g.sort c.args.right.value) c.args.left.value c.args.right.value (Some true) c.requires.range d) c.closed.ensures.closes

pub returns-else-holds-clause-answer : goal.returns-else-holds-clause-answer
returns-else-holds-clause-answer c =
    let g = c.args.goal in
    let d = sym (rw c.base.ensures at c.in-Some.ensures) ∙ ap Some c.if-holds.false in
    by_decided (has_class c.args.cx.now.theory.declarations) (statement_of c.args.cx.now.trees g) (numeral_tree g.sort c.args.left.value) (numeral_tree g.sort c.args.right.value) c.args.left.value c.args.right.value (Some false) c.requires.range d

pub returns-in-None-clause-answer : goal.returns-in-None-clause-answer
returns-in-None-clause-answer c =
    let d = sym (rw c.base.ensures at c.in-None.ensures) in
    gives_same c.end_with.new.cx c.end_with.result _ _ (undecided _ _ _ _ c.requires.numbers (has_class c.args.cx.now.theory.declarations) c.requires.range d) c.end_with.ensures.answer
