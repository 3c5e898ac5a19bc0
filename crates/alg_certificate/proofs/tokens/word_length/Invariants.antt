use Rattle.std.proofs.Common.{◌≡◌, ◌+◌, length}
use Rattle.alg_certificate.specs.Tokens.{front}
use Rattle.alg_certificate.proofs.tokens.word_length.Given as goal

abbrev pub invariant-bytes : goal.invariant-bytes
invariant-bytes l = record { same : length (front l.bytes) ≡ l.count + length (front l.left); within : length l.bytes ≡ l.count + length l.left }

abbrev pub decreases-bytes : goal.decreases-bytes
decreases-bytes l = length l.left
