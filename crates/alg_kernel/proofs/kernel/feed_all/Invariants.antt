use Rattle.std.proofs.Common.{◌≡◌, drop}
use Rattle.alg_expr.specs.Arena.{Extends}
use Rattle.alg_proof.specs.Lines.{steps_of}
use Rattle.alg_kernel.specs.Progress.{advance}
use Rattle.alg_kernel.specs.State.{theory_of, progress_of, IsSound}
use Rattle.alg_kernel.proofs.kernel.feed_all.Given as goal

abbrev pub invariant-loop-line : goal.invariant-loop-line
invariant-loop-line l =
    record {
      grown : Extends l.fn.arena l.arena;
      sound : IsSound l.arena l.kernel;
      grounds : l.kernel.grounds ≡ l.fn.kernel.grounds;
      same : advance (theory_of l.fn.arena l.fn.kernel.grounds) (progress_of l.arena l.kernel) (steps_of l.fn.arena (drop l.line-index l.lines)) ≡ advance (theory_of l.fn.arena l.fn.kernel.grounds) (progress_of l.fn.arena l.fn.kernel) (steps_of l.fn.arena l.lines);
    }
