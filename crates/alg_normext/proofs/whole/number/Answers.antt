use Rattle.std.proofs.Common.{ℤ, subst}
use Rattle.alg_num.specs.Range.{InRange}
use Rattle.alg_normext.proofs.Worths.{is-whole}
use Rattle.alg_normext.proofs.whole.number.Goals as goal

pub returns-clause-whole : goal.returns-clause-whole
returns-clause-whole c =
    let P : ℤ → Type 0 = λ z. InRange z in
    is-whole c.args.cx.now c.args.sort c.args.v.now c.requires.valued c.requires.sort c.requires.integral c.concluded-numeral.ensures.fine (subst P c.num.ensures.number c.num.ensures.small)
