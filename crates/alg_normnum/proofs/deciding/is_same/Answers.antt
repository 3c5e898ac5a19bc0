use Rattle.alg_normnum.proofs.Relations.{other_values}
use Rattle.alg_normnum.proofs.deciding.is_same.Goals as goal

pub returns-clause-different : goal.returns-clause-different
returns-clause-different c = other_values c.args.p.now c.args.q.now c.den-d.ensures.lowest c.den-e.ensures.lowest
