use Rattle.std.specs.Prelude.{◌≡◌}
use Rattle.alg_horner.specs.Form.{Form, constant, skip, sum}
use Rattle.alg_sums.specs.Ratio.{Ratio}
use Rattle.alg_horner.specs.declared.form.Split.{Split}
use Rattle.alg_horner.specs.declared.form.Split.TheVariants.{Constant, Skip, Sum}

-- the parts of the form
abbrev pub IsSplitOf : {C : Type 0} → (C → Ratio) → Form Ratio → Split C → Type 0
IsSplitOf f h (Constant c) = h ≡ constant (f c)
IsSplitOf f h (Skip by rest) = h ≡ skip by rest
IsSplitOf f h (Sum inner power rest) = h ≡ sum inner power rest
