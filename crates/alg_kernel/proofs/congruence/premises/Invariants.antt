use Rattle.std.proofs.Common.{◌≡◌, drop, All}
use Rattle.alg_expr.specs.Ids.{statements_of, IsStatementIn}
use Rattle.alg_proof.specs.Causes.{statements_at}
use Rattle.alg_kernel.proofs.PremiseLemmas.{before}
use Rattle.alg_kernel.proofs.congruence.premises.Given as goal

abbrev pub invariant-loop-line : goal.invariant-loop-line
invariant-loop-line l =
    record {
      found_in : All (IsStatementIn l.arena) l.found.items;
      same : before (statements_of l.arena l.found.items) (statements_at (statements_of l.arena l.done) (drop l.line-index l.lines)) ≡ statements_at (statements_of l.arena l.done) l.lines;
    }
