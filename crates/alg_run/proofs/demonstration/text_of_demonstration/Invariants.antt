use Rattle.std.proofs.Common.{◌≡◌, string_bytes}
use Rattle.alg_run.specs.Demonstration.{demonstration_text}
use Rattle.alg_run.proofs.demonstration.text_of_demonstration.Given as goal

abbrev pub invariant-loop-i : goal.invariant-loop-i
invariant-loop-i l = string_bytes l.out ≡ demonstration_text l.i
