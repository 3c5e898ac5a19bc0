use Rattle.alg_horner.proofs.FractionValues.{product_at, product_fits}
use Rattle.alg_horner.proofs.fractions.product.Goals as goal

pub returns-in-Some : goal.returns-in-Some
returns-in-Some c = product_at c.args.first.now c.args.second.now c.in-Some.both c.den-lowest.ensures.lowest c.den-lowest-2.ensures.lowest c.in-Some.ensures.1

pub returns-in-None : goal.returns-in-None
returns-in-None c = absurd (c.in-None.ensures (product_fits c.args.first.now c.args.second.now c.den-lowest.ensures.lowest c.den-lowest-2.ensures.lowest c.requires))
