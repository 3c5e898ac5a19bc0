use Rattle.std.proofs.Common.{◌≡◌, ◌-◌, drop, length}
use Rattle.alg_expr.specs.Ids.{trees_at}
use Rattle.alg_proof.specs.Instances.{letters_agree}
use Rattle.alg_kernel.proofs.instances.letters_match.Given as goal

abbrev pub invariant-loop-i : goal.invariant-loop-i
invariant-loop-i l = letters_agree l.sort (drop l.i l.letters) (trees_at l.arena (drop l.i l.with)) ≡ letters_agree l.sort l.letters (trees_at l.arena l.with)

abbrev pub decreases-loop-i : goal.decreases-loop-i
decreases-loop-i l = length l.letters - l.i
