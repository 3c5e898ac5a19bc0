use Rattle.std.proofs.Common.{◌≡◌, ℕ, ◌<◌, ◌∷◌, drop, map, get_or, length, false}
use Rattle.std.specs.Prelude.{◌||◌}
use Rattle.alg_law.specs.Patterns.{occurs_in_any}
use Rattle.alg_law.specs.LawRows.{pattern_of}
use Rattle.alg_kernel.proofs.letters.flag.Given as goal

abbrev pub invariant-loop-premise : goal.invariant-loop-premise
invariant-loop-premise l = (k : ℕ) → k < length l.fn.flags → (get_or l.flags k false || occurs_in_any k (map pattern_of (drop l.premise-index l.row.premises.now))) ≡ (get_or l.fn.flags k false || occurs_in_any k (pattern_of l.row.conclusion ∷ map pattern_of l.row.premises.now))
