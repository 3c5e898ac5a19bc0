use Rattle.std.proofs.Common.{rules}
use Rattle.alg_kernel.proofs.SideLemmas.{lefts-in, rights-in}
use Rattle.alg_kernel.proofs.CongLemmas.{cong-none, cong-refused, cong-shape, cong-good, left-fits, right-fits}
use Rattle.alg_kernel.proofs.congruence.over_sides.Goals as goal

pub value_sort-requires : goal.value_sort-requires
value_sort-requires c = rw c.requires.left_ids (lefts-in c.args.arena.now c.args.parts.now c.requires.here)

pub mark_for_head-requires : goal.mark_for_head-requires
mark_for_head-requires c = rw c.requires.left_ids (lefts-in c.args.arena.now c.args.parts.now c.requires.here)

pub both-requires-clause-left_in : goal.both-requires-clause-left_in
both-requires-clause-left_in c = rw c.requires.left_ids (lefts-in c.args.arena.now c.args.parts.now c.requires.here)

pub both-requires-clause-right_in : goal.both-requires-clause-right_in
both-requires-clause-right_in c = rw c.requires.right_ids (rights-in c.args.arena.now c.args.parts.now c.requires.here)

pub returns-in-None-clause-judged : goal.returns-in-None-clause-judged
returns-in-None-clause-judged c = cong-none c.args.base.now c.args.arena.now c.args.sym c.args.parts.now c.args.lefts.now c.args.rights.now c.requires.left_ids c.requires.right_ids c.in-None.ensures

pub returns-in_err-pass-in-Some-clause-judged : goal.returns-in_err-pass-in-Some-clause-judged
returns-in_err-pass-in-Some-clause-judged c =
    cong-refused c.args.base.now c.args.arena.now c.args.sym c.args.parts.now c.args.lefts.now c.args.rights.now c.requires.left_ids c.requires.right_ids c.in-Some.sort c.mark_for_head.result c.pass.result c.in_err-pass-in-Some.field-0.0 c.from_residual.result c.in-Some.ensures c.mark_for_head.ensures
    c.pass.ensures c.in_err-pass-in-Some.was (search rules)

pub returns-then-not-are_equations-clause-judged : goal.returns-then-not-are_equations-clause-judged
returns-then-not-are_equations-clause-judged c =
    cong-shape c.args.base.now c.args.arena.now c.args.sym c.args.parts.now c.args.lefts.now c.args.rights.now c.requires.left_ids c.requires.right_ids c.in-Some.sort c.mark_for_head.result c.pass.result c.in_ok-pass-in-Some.field-0 c.in-Some.ensures c.mark_for_head.ensures
    c.pass.ensures c.in_ok-pass-in-Some.was c.are_equations.result c.are_equations.ensures (search rules)

pub both-requires-clause-left_sorts : goal.both-requires-clause-left_sorts
both-requires-clause-left_sorts c =
    left-fits c.args.base.now c.args.arena.now c.args.sym c.args.parts.now c.args.lefts.now c.args.rights.now c.requires.left_ids c.requires.right_ids c.in-Some.sort c.mark_for_head.result c.pass.result c.in_ok-pass-in-Some.field-0 c.in-Some.ensures c.mark_for_head.ensures
    c.pass.ensures c.in_ok-pass-in-Some.was

pub both-requires-clause-right_sorts : goal.both-requires-clause-right_sorts
both-requires-clause-right_sorts c =
    right-fits c.args.base.now c.args.arena.now c.args.sym c.args.parts.now c.args.lefts.now c.args.rights.now c.requires.left_ids c.requires.right_ids c.in-Some.sort c.mark_for_head.result c.pass.result c.in_ok-pass-in-Some.field-0 c.in-Some.ensures c.mark_for_head.ensures
    c.pass.ensures c.in_ok-pass-in-Some.was c.requires.sorts

pub returns-in_ok-both-in-Some-clause-judged : goal.returns-in_ok-both-in-Some-clause-judged
returns-in_ok-both-in-Some-clause-judged c = (
  c.in_ok-both-in-Some.ensures.here,
  cong-good c.args.base.now c.args.arena.now c.args.sym c.args.parts.now c.args.lefts.now c.args.rights.now c.requires.left_ids c.requires.right_ids c.in-Some.sort c.mark_for_head.result c.pass.result c.in_ok-pass-in-Some.field-0 c.in-Some.ensures c.mark_for_head.ensures
      c.pass.ensures c.in_ok-pass-in-Some.was c.are_equations.result _ c.are_equations.ensures (search rules) c.in_ok-both-in-Some.ensures.equation,
)
