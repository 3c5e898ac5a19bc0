use Rattle.std.proofs.Common.{◌≡◌, pos, false, ◌+ℤ◌, ap, sym, subst, ◌∙◌, ◌++◌}
use Rattle.std.specs.Ordering.{int_eq}
use Rattle.alg_expr.specs.Ids.{tree_of}
use Rattle.alg_group_stack.specs.Words.{pairs_of}
use Rattle.alg_group_stack.proofs.BitLemmas.{some-is, zero-is}
use Rattle.alg_group_stack.proofs.WordLemmas.{placed_met, unplaced, kept-some}
use Rattle.alg_group_stack.proofs.stack.meet.Goals as goal

pub cancel-requires-clause-none : goal.cancel-requires-clause-none
cancel-requires-clause-none c = sym c.summed-both.ensures ∙ zero-is c.summed-both.result.exponent (sym c.is_none.ensures ∙ c.if-is_none.true)

pub returns-then-is_none-clause-pairs : goal.returns-then-is_none-clause-pairs
returns-then-is_none-clause-pairs c = (unplaced _ _ _ _ (tree_of c.args.cx.now.trees c.args.x.atom, c.args.x.exponent +ℤ c.args.y.exponent) _ _ c.cancel.ensures.grows c.requires.word (ap (λ z. int_eq z (pos 0)) (sym c.summed-both.ensures ∙ zero-is c.summed-both.result.exponent (sym c.is_none.ensures ∙ c.if-is_none.true))) (rw (rw c.as_slice.ensures.value at c.whole-before.ensures.tree) at c.in_ok-r.ensures.turns)).pairs

pub returns-then-is_none-clause-turns : goal.returns-then-is_none-clause-turns
returns-then-is_none-clause-turns c = (unplaced _ _ _ _ (tree_of c.args.cx.now.trees c.args.x.atom, c.args.x.exponent +ℤ c.args.y.exponent) _ _ c.cancel.ensures.grows c.requires.word (ap (λ z. int_eq z (pos 0)) (sym c.summed-both.ensures ∙ zero-is c.summed-both.result.exponent (sym c.is_none.ensures ∙ c.if-is_none.true))) (rw (rw c.as_slice.ensures.value at c.whole-before.ensures.tree) at c.in_ok-r.ensures.turns)).turns

pub with_power-requires : goal.with_power-requires
with_power-requires c = rw c.summed-both.ensures c.requires.small

pub returns-clause-word : goal.returns-clause-word
returns-clause-word c = (placed_met _ _ _ _ _ _ _ _ _ _ c.combine.ensures.grows c.requires.word c.requires.left (subst (λ z. int_eq z (pos 0) ≡ false) c.summed-both.ensures (some-is c.summed-both.result.exponent (sym c.is_none.ensures ∙ c.if-is_none.false))) c.requires.small c.in_ok-m.ensures.power (rw (rw c.as_slice.ensures.value at c.whole-before.ensures.tree) at c.in_ok-m.ensures.turns) (rw (c.with_power.ensures, c.summed-both.ensures) at c.in_ok-push.ensures.items)).word

pub returns-clause-pairs : goal.returns-clause-pairs
returns-clause-pairs c = (placed_met _ _ _ _ _ _ _ _ _ _ c.combine.ensures.grows c.requires.word c.requires.left (subst (λ z. int_eq z (pos 0) ≡ false) c.summed-both.ensures (some-is c.summed-both.result.exponent (sym c.is_none.ensures ∙ c.if-is_none.false))) c.requires.small c.in_ok-m.ensures.power (rw (rw c.as_slice.ensures.value at c.whole-before.ensures.tree) at c.in_ok-m.ensures.turns) (rw (c.with_power.ensures, c.summed-both.ensures) at c.in_ok-push.ensures.items)).pairs ∙ ap (λ ps. pairs_of c.args.cx.now c.args.stack.now.items ++ ps) (sym (kept-some (tree_of c.args.cx.now.trees c.args.x.atom, c.args.x.exponent +ℤ c.args.y.exponent) (subst (λ z. int_eq z (pos 0) ≡ false) c.summed-both.ensures (some-is c.summed-both.result.exponent (sym c.is_none.ensures ∙ c.if-is_none.false)))))

pub returns-clause-turns : goal.returns-clause-turns
returns-clause-turns c = (placed_met _ _ _ _ _ _ _ _ _ _ c.combine.ensures.grows c.requires.word c.requires.left (subst (λ z. int_eq z (pos 0) ≡ false) c.summed-both.ensures (some-is c.summed-both.result.exponent (sym c.is_none.ensures ∙ c.if-is_none.false))) c.requires.small c.in_ok-m.ensures.power (rw (rw c.as_slice.ensures.value at c.whole-before.ensures.tree) at c.in_ok-m.ensures.turns) (rw (c.with_power.ensures, c.summed-both.ensures) at c.in_ok-push.ensures.items)).turns
