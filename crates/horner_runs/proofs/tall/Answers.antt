use Rattle.horner_runs.proofs.Atoms.{grown, grown_exponents, start_size, start_exponents}
use Rattle.horner_runs.proofs.tall.Goals as goal

pub loop-i-init : goal.loop-i-init
loop-i-init c = record { exponents = start_exponents c.in_ok-form.form c.in_ok-form.ensures; size = start_size c.in_ok-form.form c.in_ok-form.ensures }

pub loop-i-preserved : goal.loop-i-preserved
loop-i-preserved c = record {
  exponents = grown_exponents c.loop-i.form c.in_ok-one.one c.in_ok-form-2.form c.loop-i._i c.in_ok-one.ensures c.in_ok-form-2.ensures c.loop-i.invariant.exponents;
  size = grown c.loop-i.form c.in_ok-one.one c.in_ok-form-2.form c.loop-i._i c.in_ok-one.ensures c.in_ok-form-2.ensures c.loop-i.invariant.size;
}
