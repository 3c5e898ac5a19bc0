use Rattle.std.proofs.Common.{◌≡◌, length}
use Rattle.alg_syntax.specs.Limits.{is_deep}
use Rattle.alg_syntax.proofs.limits.is_deep.Given as goal

abbrev pub invariant-tokens : goal.invariant-tokens
invariant-tokens l = is_deep 0 l.fn.left ≡ is_deep l.depth l.left

abbrev pub decreases-tokens : goal.decreases-tokens
decreases-tokens l = length l.left
