use Rattle.std.proofs.Common.{arith, rules, SFits}
use Rattle.std.specs.Int.{w128}
use Rattle.std.proofs.lemmas.Int.{to_z-of_z}
use Rattle.horner_runs.proofs.Fractions.{sixths_size}
use Rattle.horner_runs.proofs.sixths.Goals as goal

pub returns-in-Some : goal.returns-in-Some
returns-in-Some c =
    let f : SFits w128 c.args.parts = search rules in
    sixths_size c.args.parts c.in-Some.fraction (rw (to_z-of_z w128 c.args.parts f) at c.in-Some.ensures.1)

pub returns-in-None : goal.returns-in-None
returns-in-None c = absurd (c.in-None.ensures (omega arith, omega arith))
