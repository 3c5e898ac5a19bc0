use Rattle.std.proofs.Common.{◌≤◌, length}
use Rattle.alg_host.proofs.real_host.read_within.Given as goal

abbrev pub invariant-loop : goal.invariant-loop
invariant-loop l = length l.bytes.items ≤ l.limit
