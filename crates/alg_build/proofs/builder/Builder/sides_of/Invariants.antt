use Rattle.std.proofs.Common.{take}
use Rattle.alg_build.specs.Sides.{AreSides}
use Rattle.alg_build.proofs.builder.Builder.sides_of.Given as goal

abbrev pub invariant-loop-i : goal.invariant-loop-i
invariant-loop-i l = AreSides l.self (take l.i-index l.parts) l.lefts.items l.rights.items
