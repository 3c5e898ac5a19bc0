use Rattle.std.proofs.Common.{◌≡◌, ◌≤◌, ◌-◌, length}
use Rattle.std.specs.Ordering.{nat_cmp}
use Rattle.alg_sums.specs.Monomial.{by_exponents}
use Rattle.alg_monomials.specs.Monomials.{powers}
use Rattle.alg_monomials.proofs.Ordered.{rests}
use Rattle.alg_monomials.proofs.monomials.compare_factors.Given as goal

abbrev pub invariant-factors : goal.invariant-factors
invariant-factors l = (l.k ≤ length l.x) × (l.k ≤ length l.y) × (by_exponents nat_cmp (powers l.x) (powers l.y) ≡ rests l.x l.y l.k)

abbrev pub decreases-factors : goal.decreases-factors
decreases-factors l = length l.x - l.k
