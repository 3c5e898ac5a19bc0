use Rattle.std.proofs.Common.{◌-◌, ◌≤◌, length}
use Rattle.alg_monomials.specs.Terms.{ComeBefore}
use Rattle.alg_monomials.proofs.prefixes.leading.Given as goal

abbrev pub invariant-terms : goal.invariant-terms
invariant-terms l = (l.k ≤ length l.p) × ComeBefore l.table l.p l.q l.k

abbrev pub decreases-terms : goal.decreases-terms
decreases-terms l = length l.p - l.k
