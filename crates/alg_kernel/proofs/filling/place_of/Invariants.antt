use Rattle.std.proofs.Common.{◌≡◌, ◌≤◌, ◌+◌, ◌-◌, drop, length}
use Rattle.alg_law.specs.Patterns.{index_in}
use Rattle.alg_kernel.proofs.filling.place_of.Given as goal

abbrev pub invariant-loop-i : goal.invariant-loop-i
invariant-loop-i l =
    record {
      within : l.i ≤ length l.letters;
      same : l.i + index_in (drop l.i l.letters) l.letter ≡ index_in l.letters l.letter;
    }

abbrev pub decreases-loop-i : goal.decreases-loop-i
decreases-loop-i l = length l.letters - l.i
