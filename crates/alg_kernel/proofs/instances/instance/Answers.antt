use Rattle.std.proofs.Common.{sym, ap, subst, ◌∙◌, Ok}
use Rattle.alg_expr.specs.Ids.{statements_of, trees_at}
use Rattle.alg_law.specs.LawRows.{row_of}
use Rattle.alg_law.specs.WellSorted.{IsStatement}
use Rattle.alg_kernel.proofs.InstanceLemmas.{instance-made, filled-same}
use Rattle.alg_kernel.proofs.instances.instance.Goals as goal

pub unreachable-requires : goal.unreachable-requires
unreachable-requires c =
    let made = instance-made c.args.base.now (row_of c.args.row.now) c.args.sort (trees_at c.args.arena.now c.args.with.now) (statements_of c.args.arena.now c.args.lines.now) c.as_slice-letters.result.now c.as_slice-letters.result.now c.in_ok-found.found.items c.in_ok-found.ensures c.as_slice-letters.ensures c.as_slice-letters.ensures
    (sym c.letters_match.ensures ∙ c.if-not-letters_match.false) (sym c.premise_sorts_match.ensures ∙ c.if-not-premise_sorts_match.false) (sym c.sort_allowed.ensures ∙ c.if-not-sort_allowed.false) (sym c.classes_there.ensures ∙ c.if-not-classes_there.false) (sym c.in_ok-premises_hold.ensures.test ∙ c.if-not-branch.false) in
    (rw c.in-None.is at c.in_ok-s.ensures.filled c.args.base.now)
    (subst (IsStatement c.args.base.now) (sym (filled-same c.args.arena.now c.premises_hold.new.arena (row_of c.args.row.now) c.args.sort c.args.with.now c.as_slice-letters.result.now c.in_ok-found.found.items c.premises_hold.ensures.keeps c.requires.with_in c.in_ok-found.ensures c.as_slice-letters.ensures)) (c.requires.follows _ made))

pub returns-clause-judged : goal.returns-clause-judged
returns-clause-judged c =
    let made = instance-made c.args.base.now (row_of c.args.row.now) c.args.sort (trees_at c.args.arena.now c.args.with.now) (statements_of c.args.arena.now c.args.lines.now) c.as_slice-letters.result.now c.as_slice-letters.result.now c.in_ok-found.found.items c.in_ok-found.ensures c.as_slice-letters.ensures c.as_slice-letters.ensures
    (sym c.letters_match.ensures ∙ c.if-not-letters_match.false) (sym c.premise_sorts_match.ensures ∙ c.if-not-premise_sorts_match.false) (sym c.sort_allowed.ensures ∙ c.if-not-sort_allowed.false) (sym c.classes_there.ensures ∙ c.if-not-classes_there.false) (sym c.in_ok-premises_hold.ensures.test ∙ c.if-not-branch.false) in
    let f = (rw c.in-Some.is at c.in_ok-s.ensures.filled c.args.base.now) in
    (f.0, made ∙ ap Ok (sym (f.1 ∙ filled-same c.args.arena.now c.premises_hold.new.arena (row_of c.args.row.now) c.args.sort c.args.with.now c.as_slice-letters.result.now c.in_ok-found.found.items c.premises_hold.ensures.keeps c.requires.with_in c.in_ok-found.ensures c.as_slice-letters.ensures)))
