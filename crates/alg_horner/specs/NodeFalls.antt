use Rattle.std.specs.Prelude.{◌≤◌, max}
use Rattle.std.proofs.Common.{arith}
use Rattle.alg_horner.specs.declared.coeff.Coeff.{Ghosts}
use Rattle.alg_horner.specs.declared.form.Node.{Node}
use Rattle.alg_horner.specs.declared.form.Node.TheVariants.{Constant, Skip, Sum}
use Rattle.alg_horner.specs.declared.form.Horner.TheDeep.{deep-Node}
use Rattle.alg_horner.specs.Form.{nodes}
use Rattle.alg_sums.specs.Ratio.{Ratio}
use Rattle.alg_horner.specs.Node.{form_of}

pub depth_le-nodes : {C : Type 0} (g : Ghosts C) (f : C → Ratio) (n : Node C) → max (deep-Node C g n) 0 ≤ nodes (form_of f n)
depth_le-nodes {C} g f (Constant c) = omega arith
depth_le-nodes {C} g f (Skip k h) = omega arith
depth_le-nodes {C} g f (Sum p i q) = omega arith
