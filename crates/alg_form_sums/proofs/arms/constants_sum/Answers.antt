use Rattle.std.proofs.Common.{refl, ap, ◌∙◌}
use Rattle.alg_horner.specs.Form.{constant}
use Rattle.alg_form_sums.proofs.Summing.{constants_done}
use Rattle.alg_form_sums.proofs.arms.constants_sum.Goals as goal

pub returns-clause-line : goal.returns-clause-line
returns-clause-line g c = λ names k. constants_done (g.N.Constants.leaf c.args.sort) _ _ names k _ _ _ c.in_ok-made.made c.in_ok-made.ensures.derives (c.in_ok-form.ensures ∙ ap constant c.add.ensures) refl refl
