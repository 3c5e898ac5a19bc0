use Rattle.std.proofs.Common.{ℤ, subst}
use Rattle.alg_terms.specs.declared.relations.Rel.TheVariants.{Le}
use Rattle.alg_terms.specs.Tree.{Tree}
use Rattle.alg_num.specs.Range.{InRange}
use Rattle.alg_law.specs.Derivations.{related}
use Rattle.alg_build.specs.Book.{Concludes}
use Rattle.alg_fractions.specs.NumeralTree.{signed_tree}
use Rattle.alg_order_exts.proofs.Signs.{zero-tree, zero-fraction, zero-at_most, zero-products}
use Rattle.alg_order_exts.proofs.absolutes.at_least_zero.Goals as goal

pub relation_of_fractions-requires-clause-first : goal.relation_of_fractions-requires-clause-first
relation_of_fractions-requires-clause-first c = zero-fraction c.args.cx.now c.args.sort c.args.x c.whole-zero.result c.requires.has c.whole-zero.ensures

pub relation_of_fractions-requires-clause-holds : goal.relation_of_fractions-requires-clause-holds
relation_of_fractions-requires-clause-holds c = zero-at_most c.args.x c.whole-zero.result c.whole-zero.ensures c.requires.at_least

pub relation_of_fractions-requires-clause-small : goal.relation_of_fractions-requires-clause-small
relation_of_fractions-requires-clause-small c =
    let P : ℤ → Type 0 = λ z. InRange z in
    zero-products c.args.x c.whole-zero.result c.whole-zero.ensures (subst P c.num-small.ensures.number c.num-small.ensures.small)

pub returns-clause-concludes : goal.returns-clause-concludes
returns-clause-concludes c = subst (λ (t : Tree). Concludes c.relation_of_fractions.new.cx c.in_ok-line.line (related Le c.args.sort t (signed_tree c.args.sort c.args.x))) (zero-tree c.args.sort c.whole-zero.result c.whole-zero.ensures) c.in_ok-line.ensures.concludes
