use Rattle.std.proofs.Common.{◌≡◌, map, take}
use Rattle.alg_evaluation.proofs.gathering.shown.Given as goal

abbrev pub invariant-loop-f : goal.invariant-loop-f
invariant-loop-f l = l.turned.items ≡ map (λ f. f.shown) (take l.f-index l.parts)
