use Rattle.horner_runs.proofs.Atoms.{power_small}
use Rattle.horner_runs.proofs.power.Goals as goal

pub raised-requires-clause-size : goal.raised-requires-clause-size
raised-requires-clause-size g c = power_small c.in_ok-form.form c.args.count c.args.times c.in_ok-form.ensures.size c.requires.size

pub raised-requires-2-clause-size : goal.raised-requires-2-clause-size
raised-requires-2-clause-size g c = power_small c.in_ok-other.other c.args.count c.args.times c.in_ok-other.ensures.size c.requires.size
