use Rattle.std.proofs.Common.{◌≡◌, take, length}
use Rattle.alg_names.proofs.grants.Grants.leave.Given as goal

abbrev pub decreases-back : goal.decreases-back
decreases-back l = length l.self

abbrev pub invariant-back : goal.invariant-back
invariant-back l = take l.len l.self ≡ take l.fn.len l.fn.self
