use Rattle.std.proofs.Common.{arith}
use Rattle.horner_runs.proofs.Atoms.{power_small, root_size}
use Rattle.horner_runs.proofs.root.Goals as goal

pub raised-requires-clause-size : goal.raised-requires-clause-size
raised-requires-clause-size c = power_small c.in_ok-form.form c.args.count c.args.times c.in_ok-form.ensures.size (omega (arith, c.requires.size))

pub returns-clause-size : goal.returns-clause-size
returns-clause-size c = root_size c.in_ok-form.form c.in_ok-power.power c.args.count c.args.times c.in_ok-form.ensures.size c.requires.size c.in_ok-power.ensures.size

pub returns-clause-exponents : goal.returns-clause-exponents
returns-clause-exponents c n = omega (arith, c.in_ok-power.ensures.exponents n, c.requires.times)
