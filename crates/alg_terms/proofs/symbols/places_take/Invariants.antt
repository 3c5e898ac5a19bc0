use Rattle.std.proofs.Common.{◌≡◌, ◌-◌, drop, length}
use Rattle.alg_terms.specs.Symbols.{places_fit}
use Rattle.alg_terms.proofs.symbols.places_take.Given as goal

abbrev pub invariant-loop-i : goal.invariant-loop-i
invariant-loop-i l = places_fit (drop l.i l.places) l.sort (drop l.i l.arguments) ≡ places_fit l.places l.sort l.arguments

abbrev pub decreases-loop-i : goal.decreases-loop-i
decreases-loop-i l = length l.places - l.i
