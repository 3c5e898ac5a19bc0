use Rattle.std.proofs.Common.{ap, ◌∙◌, rules, SFits}
use Rattle.std.specs.Int.{w128}
use Rattle.std.proofs.lemmas.Int.{to_z-of_z}
use Rattle.alg_horner.specs.Form.{constant}
use Rattle.horner_runs.proofs.Fractions.{part_size, part_exponents}
use Rattle.horner_runs.proofs.part.Goals as goal

pub returns-clause-size : goal.returns-clause-size
returns-clause-size c =
    let f : SFits w128 c.args.parts = search rules in
    part_size c.args.atom c.args.parts _ c.in_ok-inner.inner c.in_ok-none.none c.in_ok-first.first c.in_ok-form.form c.requires (rw (to_z-of_z w128 c.args.parts f) at c.sixths.ensures) c.in_ok-inner.ensures (c.in_ok-none.ensures ∙ ap constant c.zero.ensures) c.in_ok-first.ensures c.in_ok-form.ensures

pub returns-clause-exponents : goal.returns-clause-exponents
returns-clause-exponents c = part_exponents c.args.atom _ c.in_ok-inner.inner c.in_ok-none.none c.in_ok-first.first c.in_ok-form.form c.in_ok-inner.ensures (c.in_ok-none.ensures ∙ ap constant c.zero.ensures) c.in_ok-first.ensures c.in_ok-form.ensures
