use Rattle.alg_horner.proofs.Exponents.{sound_less}
use Rattle.std.proofs.Common.{arith, subst, ap, ◌∙◌}
use Rattle.alg_horner.specs.Form.{constant, sum}
use Rattle.alg_horner.specs.Adding.{IsNodes}
use Rattle.alg_sums.specs.Rational.{rational}
use Rattle.alg_horner.proofs.Adding.{nodes_same, nodes_left, nodes_swap}
use Rattle.alg_horner.proofs.add.align_sums.Goals as goal

pub returns-then-power-other_power : goal.returns-then-power-other_power
returns-then-power-other_power g c = subst (λ k. IsNodes rational (sum c.args.inner c.args.power c.args.rest) (sum c.args.other_inner k c.args.other_rest) c.args.inner c.args.other_inner c.args.power c.args.rest c.args.other_rest) c.if-power-other_power.true (nodes_same rational c.args.inner c.args.other_inner c.args.power c.args.rest c.args.other_rest c.requires.first.form.0)

pub returns-then-power-other_power-2 : goal.returns-then-power-other_power-2
returns-then-power-other_power-2 g c =
    rw (c.in_ok-first.ensures, c.in_ok-none.ensures, c.zero.ensures) (nodes_left rational c.args.inner c.args.power c.args.rest c.args.other_inner c.args.other_power c.args.other_rest c.requires.second.form.0 c.if-power-other_power-2.true)

pub returns : goal.returns
returns g c =
    rw (c.in_ok-second.ensures, c.in_ok-none.ensures, c.zero.ensures) (nodes_swap rational _ _ _ _ _ _ _ (nodes_left rational c.args.other_inner c.args.other_power c.args.other_rest c.args.inner c.args.power c.args.rest c.requires.first.form.0 (omega arith)))

pub sum-requires : goal.sum-requires
sum-requires g c = sound_less rational c.args.inner c.args.power c.args.other_power c.args.rest c.in_ok-none.none (c.in_ok-none.ensures ∙ ap constant c.zero.ensures) c.if-power-other_power-2.true c.requires.first

pub sum-requires-2 : goal.sum-requires-2
sum-requires-2 g c = sound_less rational c.args.other_inner c.args.other_power c.args.power c.args.other_rest c.in_ok-none.none (c.in_ok-none.ensures ∙ ap constant c.zero.ensures) (omega arith) c.requires.second
