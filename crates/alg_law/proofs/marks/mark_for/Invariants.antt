use Rattle.std.proofs.Common.{length, ◌-◌, ◌+◌}
use Rattle.alg_law.specs.Marks.{HasMarks}
use Rattle.alg_law.proofs.marks.mark_for.Given as goal

abbrev pub invariant-loop-marks : goal.invariant-loop-marks
invariant-loop-marks l = HasMarks l.base l.arena l.marks.items

abbrev pub decreases-loop-marks : goal.decreases-loop-marks
decreases-loop-marks l = l.id.index + 1 - length l.marks.items
