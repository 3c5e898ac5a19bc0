use Rattle.std.proofs.Common.{rules, sym, ◌∙◌}
use Rattle.alg_certificate.proofs.Turns.{on_end, on_other, on_over, on_more}
use Rattle.alg_certificate.proofs.numbers.read_on.Goals as goal

pub returns-then-not-is_digit : goal.returns-then-not-is_digit
returns-then-not-is_digit c = sym (c.digits.invariant.same ∙ on_other _ _ _ _ c.in-Some.ensures (search rules))

pub returns-in-None : goal.returns-in-None
returns-in-None c = sym (c.digits.invariant.same ∙ on_over _ _ _ _ c.in-Some.ensures (search rules) c.in-None.ensures)

pub digits-preserved : goal.digits-preserved
digits-preserved c = let step = on_more _ _ _ _ _ c.in-Some.ensures (search rules) c.in-Some-with_digit.ensures in record { fits = step.1; same = c.digits.invariant.same ∙ step.0 }

pub returns : goal.returns
returns c = sym (c.digits.invariant.same ∙ on_end _ _ c.in_default.ensures)
