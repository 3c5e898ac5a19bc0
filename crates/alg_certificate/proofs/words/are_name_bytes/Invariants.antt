use Rattle.std.proofs.Common.{◌≡◌, length}
use Rattle.alg_proof.specs.Names.{are_name_bytes}
use Rattle.alg_certificate.proofs.words.are_name_bytes.Given as goal

abbrev pub invariant-bytes : goal.invariant-bytes
invariant-bytes l = are_name_bytes l.bytes ≡ are_name_bytes l.left

abbrev pub decreases-bytes : goal.decreases-bytes
decreases-bytes l = length l.left
