use Rattle.std.proofs.Common.{◌≡◌, ℕ, ◌+◌, ◌<◌, ◌≤◌, drop, get_or, length, false}
use Rattle.std.specs.Prelude.{◌||◌}
use Rattle.alg_law.specs.Patterns.{occurs_in}
use Rattle.alg_law.specs.LawRows.{pattern_of}
use Rattle.alg_kernel.specs.Letters.{occurs_early}
use Rattle.alg_kernel.proofs.letters.flag_sides.Given as goal

abbrev pub invariant-loop-node : goal.invariant-loop-node
invariant-loop-node l =
    record {
      few : l.due ≤ 2 + l.node-index;
      same : (k : ℕ) → k < length l.fn.flags → (get_or l.flags k false || occurs_early k l.due (drop l.node-index l.pattern.nodes.now)) ≡ (get_or l.fn.flags k false || occurs_in k (pattern_of l.pattern));
    }
