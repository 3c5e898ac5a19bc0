use Rattle.std.proofs.Common.{◌+◌, ◌*◌}
use Rattle.alg_horner.specs.Form.{nodes}
use Rattle.alg_horner.proofs.mul.+multiplying.Given as goal

abbrev pub decreases-times : goal.decreases-times
decreases-times g l = 3 * (nodes l.f + nodes l.g) + 2

abbrev pub decreases-times_later : goal.decreases-times_later
decreases-times_later g l = 3 * (nodes l.f + nodes l.later + 1) + 1

abbrev pub decreases-times_skips : goal.decreases-times_skips
decreases-times_skips g l = 3 * (nodes l.f + 1 + nodes l.g + 1)
