use Rattle.std.proofs.Common.{◌≤◌, length, take}
use Rattle.alg_terms.specs.Tree.{Statement}
use Rattle.alg_build.specs.Backs.{LeadAllBack}
use Rattle.alg_build.specs.Book.{Concludes, Grows}
use Rattle.alg_build.proofs.builder.Builder.lead_all.Given as goal

abbrev pub invariant-loop-i : goal.invariant-loop-i
invariant-loop-i l = record {
  within : l.i ≤ length l.backs;
  grows : Grows l.fn.self l.self;
  leads : (first goal : Statement) → LeadAllBack l.fn.self l.backs first goal → Concludes l.fn.self l.last goal → (next : Statement) × LeadAllBack l.fn.self (take l.i l.backs) first next × Concludes l.self l.line next;
}

abbrev pub decreases-loop-i : goal.decreases-loop-i
decreases-loop-i l = l.i
