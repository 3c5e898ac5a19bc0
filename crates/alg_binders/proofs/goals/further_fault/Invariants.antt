use Rattle.std.proofs.Common.{◌≡◌, drop}
use Rattle.alg_elaborate.specs.Faults.{first}
use Rattle.alg_binders.specs.CommandFaults.{further_faults}
use Rattle.alg_binders.proofs.goals.further_fault.Given as goal

abbrev pub invariant-loop-step : goal.invariant-loop-step
invariant-loop-step l = first (further_faults l.scope l.sort l.further) ≡ first (further_faults l.scope l.sort (drop l.step-index l.further))
