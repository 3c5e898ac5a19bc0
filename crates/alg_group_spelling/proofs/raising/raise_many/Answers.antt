use Rattle.std.proofs.Common.{ap, refl, sym, ◌∙◌}
use Rattle.alg_rows.specs.Operations.{integer_power_tree}
use Rattle.alg_group_stack.specs.Words.{pairs_of, word_tree}
use Rattle.alg_group_stack.proofs.StepLemmas.{turns-cast}
use Rattle.alg_group_spelling.proofs.RaiseLemmas.{above-zero, raised-above, raised-below, whole-above, whole-below}
use Rattle.alg_group_spelling.proofs.raising.raise_many.Goals as goal

pub raise_below-requires-clause-some : goal.raise_below-requires-clause-some
raise_below-requires-clause-some c = rw c.size_of-n.ensures (above-zero c.args.z.now c.requires.some)

pub returns-then-is_below-clause-pairs : goal.returns-then-is_below-clause-pairs
returns-then-is_below-clause-pairs c = (rw c.size_of-n.ensures at c.in_ok-down.ensures.pairs) ∙ sym (raised-below _ _ (c.is_below.ensures.below c.if-is_below.true))

pub returns-then-is_below-clause-turns : goal.returns-then-is_below-clause-turns
returns-then-is_below-clause-turns c =
    turns-cast _ _ _ _ _ _ _ (ap (integer_power_tree c.args.h.sort (word_tree c.args.h.sort (pairs_of c.args.cx.now c.args.w.now))) (sym (whole-below _ (c.is_below.ensures.below c.if-is_below.true)))) refl (rw c.size_of-n.ensures at c.in_ok-down.ensures.turns)

pub raise_above-requires-clause-some : goal.raise_above-requires-clause-some
raise_above-requires-clause-some c = rw c.size_of-n.ensures (above-zero c.args.z.now c.requires.some)

pub returns-clause-pairs : goal.returns-clause-pairs
returns-clause-pairs c = (rw c.size_of-n.ensures at c.in_ok-up.ensures.pairs) ∙ raised-above _ _ (c.is_below.ensures.above c.if-is_below.false)

pub returns-clause-turns : goal.returns-clause-turns
returns-clause-turns c =
    turns-cast _ _ _ _ _ _ _ (ap (integer_power_tree c.args.h.sort (word_tree c.args.h.sort (pairs_of c.args.cx.now c.args.w.now))) (sym (whole-above _ (c.is_below.ensures.above c.if-is_below.false)))) refl (rw c.size_of-n.ensures at c.in_ok-up.ensures.turns)
