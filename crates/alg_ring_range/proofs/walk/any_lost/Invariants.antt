use Rattle.std.proofs.Common.{◌≡◌, drop}
use Rattle.std.specs.List.{list_any}
use Rattle.alg_ring_range.specs.Found.{is_lost}
use Rattle.alg_ring_range.proofs.walk.any_lost.Given as goal

abbrev pub invariant-loop-e : goal.invariant-loop-e
invariant-loop-e l = list_any (is_lost l.found) l.roots ≡ list_any (is_lost l.found) (drop l.e-index l.roots)
