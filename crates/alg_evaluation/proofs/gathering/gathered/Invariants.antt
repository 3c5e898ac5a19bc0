use Rattle.std.proofs.Common.{◌≡◌, get_or, map, take}
use Rattle.alg_evaluation.specs.Found.{absent}
use Rattle.alg_evaluation.proofs.gathering.gathered.Given as goal

abbrev pub invariant-loop-a : goal.invariant-loop-a
invariant-loop-a l = l.parts.items ≡ map (λ a. get_or l.found a.index absent) (take l.a-index l.args)
