use Rattle.std.proofs.Common.{◌≡◌, length}
use Rattle.alg_certificate_lines.specs.Following.{behind_semicolon}
use Rattle.alg_certificate_lines.proofs.items.behind_semicolon.Given as goal

abbrev pub invariant-bytes : goal.invariant-bytes
invariant-bytes l = behind_semicolon l.text ≡ behind_semicolon l.left

abbrev pub decreases-bytes : goal.decreases-bytes
decreases-bytes l = length l.left
