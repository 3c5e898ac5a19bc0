use Rattle.std.proofs.Common.{◌≡◌, take}
use Rattle.alg_kernel.specs.Sides.{left_ids}
use Rattle.alg_kernel.proofs.congruence.lefts_of.Given as goal

abbrev pub invariant-loop-part : goal.invariant-loop-part
invariant-loop-part l = l.ids.items ≡ left_ids (take l.part-index l.parts)
