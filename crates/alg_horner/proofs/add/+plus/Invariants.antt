use Rattle.std.proofs.Common.{◌+◌}
use Rattle.alg_horner.specs.Form.{nodes}
use Rattle.alg_horner.proofs.add.+plus.Given as goal

abbrev pub decreases-plus : goal.decreases-plus
decreases-plus g l = nodes l.f + nodes l.g
