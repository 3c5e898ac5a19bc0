use Rattle.std.proofs.Common.{◌≡◌, length}
use Rattle.alg_certificate.specs.Lexed.{tokens}
use Rattle.alg_certificate_lines.specs.Known.{tokens_known}
use Rattle.alg_certificate_lines.proofs.known.are_known.Given as goal

abbrev pub invariant-tokens : goal.invariant-tokens
invariant-tokens l = tokens_known l.base (tokens l.text).0 ≡ tokens_known l.base (tokens l.left).0

abbrev pub decreases-tokens : goal.decreases-tokens
decreases-tokens l = length l.left
