use Rattle.std.proofs.Common.{◌≡◌, take}
use Rattle.alg_build.proofs.rows.numbers_of.Given as goal

abbrev pub invariant-loop-i : goal.invariant-loop-i
invariant-loop-i l = l.numbers.items ≡ take l.i-index l.parts
