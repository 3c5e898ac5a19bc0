use Rattle.std.proofs.Common.{length}
use Rattle.alg_certificate.proofs.Cutting.{Passed}
use Rattle.alg_certificate.proofs.bytes.cut_line.Given as goal

abbrev pub invariant-bytes : goal.invariant-bytes
invariant-bytes l = Passed l.bytes l.count l.left

abbrev pub decreases-bytes : goal.decreases-bytes
decreases-bytes l = length l.left
