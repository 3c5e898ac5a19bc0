use Rattle.std.proofs.Common.{◌≡◌, length}
use Rattle.alg_certificate.specs.Walks.{may_stop}
use Rattle.alg_certificate.proofs.walks.may_stop.Given as goal

abbrev pub invariant-parts : goal.invariant-parts
invariant-parts l = may_stop l.parts ≡ may_stop l.left

abbrev pub decreases-parts : goal.decreases-parts
decreases-parts l = length l.left
