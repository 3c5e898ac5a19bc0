use Rattle.alg_horner.specs.Form.{Form, constant, skip, sum}
use Rattle.alg_sums.specs.Ratio.{Ratio}
use Rattle.alg_horner.specs.declared.form.Node.{Node}
use Rattle.alg_horner.specs.declared.form.Node.TheVariants.{Constant, Skip, Sum}

abbrev pub form_of : {C : Type 0} → (C → Ratio) → Node C → Form Ratio
form_of f (Constant c) = constant (f c)
form_of f (Skip k h) = skip k h
form_of f (Sum p i q) = sum p i q
