use Rattle.alg_values.proofs.Inverses.{inverse_is}
use Rattle.alg_values.proofs.operations.inverse.Goals as goal

pub returns : goal.returns
returns c = inverse_is c.args.p.now c.inv.result c.den-lowest.ensures.lowest c.inv.ensures
