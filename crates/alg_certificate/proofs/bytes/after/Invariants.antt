use Rattle.std.proofs.Common.{◌≡◌, length}
use Rattle.alg_certificate.specs.Cutting.{after}
use Rattle.alg_certificate.proofs.bytes.after.Given as goal

abbrev pub invariant-wanted : goal.invariant-wanted
invariant-wanted l = after l.front l.bytes ≡ after l.wanted l.left

abbrev pub decreases-wanted : goal.decreases-wanted
decreases-wanted l = length l.wanted
