use Rattle.std.proofs.Common.{◌≡◌, ◌<ℤ◌, pos}
use Rattle.alg_numerals.proofs.SignTrees.{minus-tree}
use Rattle.alg_fractions.proofs.SizeLemmas.{over-more}
use Rattle.alg_fractions.proofs.FractionLemmas.{back, signed-minus}
use Rattle.alg_fractions.proofs.showing.inward.Goals as goal

pub returns-clause-turns : goal.returns-clause-turns
returns-clause-turns c =
    let size = rw (back _ c.num-n.ensures.small) at c.unsigned_abs-m.ensures.value in
    let below : c.num-n.result <ℤ pos 0 = rw c.num-n.ensures.number c.requires.below in
    let over : c.den-d.result ≡ 1 → ⊥ = rw c.den-d.ensures.number c.requires.over in
    rw (← c.num-n.ensures.number, ← c.den-d.ensures.number, signed-minus c.args.sort c.num-n.result c.unsigned_abs-m.result c.den-d.result size below, minus-tree c.args.sort c.num-n.result c.unsigned_abs-m.result size below, over-more _ _ c.den-d.result over, over-more _ _ c.den-d.result over) c.moved_inward.ensures.turns
