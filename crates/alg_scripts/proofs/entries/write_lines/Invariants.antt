use Rattle.std.proofs.Common.{◌≡◌, ◌++◌, length, All}
use Rattle.alg_proof.specs.Lines.{steps_of, IsLineIn}
use Rattle.alg_certificate.specs.InRange.{StepInRange}
use Rattle.alg_report.specs.Certificate.{step_lines}
use Rattle.alg_scripts.proofs.entries.write_lines.Given as goal

abbrev pub invariant-lines : goal.invariant-lines
invariant-lines l = record {
  written : l.out.items ++ step_lines (steps_of l.arena l.left) ≡ l.fn.out.items ++ step_lines (steps_of l.arena l.lines);
  in_range : All StepInRange (steps_of l.arena l.left) → All StepInRange (steps_of l.arena l.lines);
  lines_in : All (IsLineIn l.arena) l.left;
}

abbrev pub decreases-lines : goal.decreases-lines
decreases-lines l = length l.left
