use Rattle.std.proofs.Common.{◌≡◌, ◌≤◌, length}
use Rattle.alg_certificate.specs.Numbers.{max_number, read_on}
use Rattle.alg_certificate.proofs.numbers.read_on.Given as goal

abbrev pub invariant-digits : goal.invariant-digits
invariant-digits l = record { fits : l.value ≤ max_number; same : read_on l.fn.number l.bytes ≡ read_on l.value l.left }

abbrev pub decreases-digits : goal.decreases-digits
decreases-digits l = length l.left
