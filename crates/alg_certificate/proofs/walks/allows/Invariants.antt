use Rattle.std.proofs.Common.{length}
use Rattle.alg_certificate.proofs.Walking.{Walked}
use Rattle.alg_certificate.proofs.walks.allows.Given as goal

abbrev pub invariant-tokens : goal.invariant-tokens
invariant-tokens l = Walked l.text l.parts l.spot l.depth l.parts_left l.left

abbrev pub decreases-tokens : goal.decreases-tokens
decreases-tokens l = length l.left
