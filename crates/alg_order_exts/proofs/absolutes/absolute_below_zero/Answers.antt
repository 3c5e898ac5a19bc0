use Rattle.std.proofs.Common.{sym, subst}
use Rattle.alg_terms.specs.Tree.{Tree}
use Rattle.alg_num.specs.Fraction.{Fraction}
use Rattle.alg_build.specs.Rewriting.{Turns}
use Rattle.alg_fractions.specs.NumeralTree.{signed_tree}
use Rattle.alg_order_exts.specs.Order.{absolute_tree}
use Rattle.alg_order_exts.proofs.Signs.{minus-tree, minus-absolute, minus-fraction, minus-at_least}
use Rattle.alg_order_exts.proofs.absolutes.absolute_below_zero.Goals as goal

pub returns-clause-turns : goal.returns-clause-turns
returns-clause-turns c =
    let s = c.args.sort in
    let b = c.absolute_of_minus.new.cx in
    let r = c.in_ok-r.r in
    let below = c.requires.below in
    let outside = subst (λ (t : Tree). Turns b s r (absolute_tree s t) (signed_tree s c.neg-y.result)) (sym (minus-tree s c.args.x c.neg-y.result c.neg-y.ensures below)) c.in_ok-r.ensures.turns in
    subst (λ (p : Fraction). Turns b s r (absolute_tree s (signed_tree s c.args.x)) (signed_tree s p)) (minus-absolute c.args.x c.neg-y.result c.neg-y.ensures below) outside

pub absolute_of_minus-requires-clause-has : goal.absolute_of_minus-requires-clause-has
absolute_of_minus-requires-clause-has c = minus-fraction c.args.cx.now c.args.sort c.args.x c.neg-y.result c.requires.has c.neg-y.ensures c.requires.below

pub absolute_of_minus-requires-clause-at_least : goal.absolute_of_minus-requires-clause-at_least
absolute_of_minus-requires-clause-at_least c = minus-at_least c.args.x c.neg-y.result c.neg-y.ensures c.requires.below
