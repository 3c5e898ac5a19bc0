use Rattle.std.proofs.Common.{List, subst}
use Rattle.alg_law.specs.Declarations.{Declaration}
use Rattle.alg_law.specs.Lawful.{IsLawful}
use Rattle.alg_order_exts.proofs.Having.{valued_fraction}
use Rattle.alg_order_exts.proofs.operands.has_numeral.Goals as goal

pub returns : goal.returns
returns c =
    let P : List Declaration → Type 0 = λ ds. IsLawful ds in
    valued_fraction c.args.cx.now c.args.sort c.args.v.now (subst P c.base.ensures c.len-declarations.ensures.lawful) c.requires.library c.requires.ordered c.requires.valued c.requires.sort c.concluded-numeral.ensures.fine
