use Rattle.std.proofs.Common.{length, ◌-◌, ◌≡◌, drop}
use Rattle.alg_expr.specs.Applying.{sorts_at}
use Rattle.alg_terms.specs.Symbols.{places_fit}
use Rattle.alg_law.proofs.marks.are_taken.Given as goal

abbrev pub invariant-loop-i : goal.invariant-loop-i
invariant-loop-i l = places_fit (drop l.i l.places) l.sort (sorts_at l.arena (drop l.i l.args)) ≡ places_fit l.places l.sort (sorts_at l.arena l.args)

abbrev pub decreases-loop-i : goal.decreases-loop-i
decreases-loop-i l = length l.args - l.i
