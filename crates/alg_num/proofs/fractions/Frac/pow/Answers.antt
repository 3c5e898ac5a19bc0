use Rattle.std.proofs.Common.{ℕ, ◌<◌, sym, subst}
use Rattle.alg_num.proofs.PowerLaws.{positive_power}
use Rattle.alg_num.proofs.fractions.Frac.pow.Goals as goal

pub reduced-requires-clause-positive : goal.reduced-requires-clause-positive
reduced-requires-clause-positive c =
    let P : ℕ → Type 0 = λ d. 0 < d in
    subst P (sym (c.in_ok-den.ensures {u = tt}).1) (positive_power c.self.inside.den c.args.n c.self.invariant.lowest.positive)
