use Rattle.std.proofs.Common.{ap, ◌∙◌}
use Rattle.alg_horner.specs.Form.{constant}
use Rattle.horner_runs.proofs.Atoms.{none_size, none_exponents}
use Rattle.horner_runs.proofs.sum_of_atoms.Goals as goal

pub loop-i-init : goal.loop-i-init
loop-i-init g c =
    let e = c.in_ok-form.ensures ∙ ap constant c.zero.ensures in
    record { exponents = none_exponents c.in_ok-form.form e; size = none_size c.in_ok-form.form e }
