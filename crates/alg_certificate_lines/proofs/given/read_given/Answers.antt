use Rattle.std.proofs.Common.{sym, ◌∙◌, subst}
use Rattle.alg_certificate_lines.specs.Adding.{ReadsTrees}
use Rattle.alg_certificate_lines.specs.Given.{sides, over_sides, Gives}
use Rattle.alg_expr.specs.Ids.{trees_at}
use Rattle.alg_certificate_lines.proofs.GivenLaws.{given_unsorted, given_there, given_fault, statement_inside, statement_sorted}
use Rattle.alg_certificate_lines.proofs.given.read_given.Goals as goal

pub returns-then-not-has_sort-clause-gives : goal.returns-then-not-has_sort-clause-gives
returns-then-not-has_sort-clause-gives c = λ s f r e t. given_unsorted c.args.base.now s c.args.word.now f e (sym c.has_sort.ensures ∙ c.if-not-has_sort.true)

pub returns-in-Ok-clause-gives : goal.returns-in-Ok-clause-gives
returns-in-Ok-clause-gives c = λ s f r e t.
    given_there c.args.base.now c.read_trees.new.arena s c.args.rel c.in-Some.sort c.args.word.now (c.in-Ok.ids, c.in-Ok.have_classes) c.judge_sides.result f r e (sym c.has_sort.ensures ∙ c.if-not-has_sort.false) c.in-Some.ensures.read
    (subst (ReadsTrees c.args.base.now c.read_trees.new.arena (sides s)) c.in-Ok.is (c.read_trees.ensures.reads (sides s) (f.1, (f.2, tt)) t))
    (subst (λ es. Gives c.read_trees.new.arena (over_sides c.args.base.now c.args.rel c.in-Some.sort (trees_at c.read_trees.new.arena es)) c.judge_sides.result) c.as_slice.ensures c.judge_sides.ensures)

pub returns-in-Err-clause-gives : goal.returns-in-Err-clause-gives
returns-in-Err-clause-gives c = λ s f r e t.
    given_fault c.args.base.now c.read_trees.new.arena s c.args.word.now c.in-Err.fault f e (sym c.has_sort.ensures ∙ c.if-not-has_sort.false)
    (subst (ReadsTrees c.args.base.now c.read_trees.new.arena (sides s)) c.in-Err.is (c.read_trees.ensures.reads (sides s) (f.1, (f.2, tt)) t))

pub returns-in-Ok-clause-here : goal.returns-in-Ok-clause-here
returns-in-Ok-clause-here c = statement_inside c.read_trees.new.arena _ c.judge_sides.result c.judge_sides.ensures

pub returns-in-Ok-clause-sorted : goal.returns-in-Ok-clause-sorted
returns-in-Ok-clause-sorted c = statement_sorted c.args.base.now c.read_trees.new.arena c.args.rel c.in-Some.sort (trees_at c.read_trees.new.arena c.as_slice.result.now) c.judge_sides.result c.judge_sides.ensures
