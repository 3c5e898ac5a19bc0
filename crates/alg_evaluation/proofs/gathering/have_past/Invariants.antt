use Rattle.std.proofs.Common.{◌≡◌, drop}
use Rattle.std.specs.List.{list_any}
use Rattle.alg_evaluation.proofs.gathering.have_past.Given as goal

abbrev pub invariant-loop-f : goal.invariant-loop-f
invariant-loop-f l = list_any (λ f. f.past) l.parts ≡ list_any (λ f. f.past) (drop l.f-index l.parts)
