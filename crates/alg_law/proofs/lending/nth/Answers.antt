use Rattle.std.proofs.Common.{subst, Some, None}
use Rattle.alg_law.specs.declared.declarations.Declared.{Declared}
use Rattle.alg_law.specs.Lending.{TellsHypothesis}
use Rattle.alg_law.proofs.NthLemmas.{nth-skip, nth-pass}
use Rattle.alg_law.proofs.lending.nth.Goals.{in-Some+else-left-eq0, in_default}
use Rattle.alg_law.proofs.lending.nth.Goals as goal

pub loop-d-preserved : goal.loop-d-preserved
loop-d-preserved c =
    elim c.match-hypothesis_of.branch [
      | in-Some+else-left-eq0 w ↦
          rw (w.left-is) (nth-pass c.args.arena.now c.args.list.now c.loop-d.d-index c.d-item.result c.loop-d.left _ c.loop-d-test.true w.in-Some.stmt (subst (λ (x : Declared). TellsHypothesis c.args.arena.now x (Some w.in-Some.stmt)) c.d-item.is w.in-Some.ensures) w.if-left-eq0.false c.loop-d.invariant)
      | in_default w ↦
          rw (w.left-is) (nth-skip c.args.arena.now c.args.list.now c.loop-d.d-index c.d-item.result c.loop-d.left _ c.loop-d-test.true (subst (λ (x : Declared). TellsHypothesis c.args.arena.now x None) c.d-item.is w.in_default.ensures) c.loop-d.invariant)
    ]
