use Rattle.std.proofs.Common.{◌≡◌, length}
use Rattle.alg_certificate.specs.Walks.{first_fit}
use Rattle.alg_certificate.specs.Seen.{seen}
use Rattle.alg_certificate.proofs.walks.first_fit.Given as goal

abbrev pub invariant-parts : goal.invariant-parts
invariant-parts l = first_fit l.parts (seen l.token) ≡ first_fit l.left (seen l.token)

abbrev pub decreases-parts : goal.decreases-parts
decreases-parts l = length l.left
