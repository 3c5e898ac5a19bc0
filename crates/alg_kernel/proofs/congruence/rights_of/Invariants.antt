use Rattle.std.proofs.Common.{◌≡◌, take}
use Rattle.alg_kernel.specs.Sides.{right_ids}
use Rattle.alg_kernel.proofs.congruence.rights_of.Given as goal

abbrev pub invariant-loop-part : goal.invariant-loop-part
invariant-loop-part l = l.ids.items ≡ right_ids (take l.part-index l.parts)
