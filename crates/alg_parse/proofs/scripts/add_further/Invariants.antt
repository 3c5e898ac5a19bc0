use Rattle.std.proofs.Common.{List, drop}
use Rattle.alg_expr.specs.Arena.{Extends}
use Rattle.alg_parse.specs.Told.{Call}
use Rattle.alg_parse.specs.FileTrees.{AreCalls}
use Rattle.alg_parse.proofs.CallLaws.{FurtherCalled}
use Rattle.alg_parse.proofs.scripts.add_further.Given as goal

abbrev pub invariant-loop-step : goal.invariant-loop-step
invariant-loop-step l = record {
  kept : Extends l.fn.arena l.arena;
  told : (cs : List Call) → AreCalls l.fn.arena l.fn.procs.items cs → FurtherCalled l.scope l.sort l.further (drop l.step-index l.further) l.arena l.procs.items cs;
}
