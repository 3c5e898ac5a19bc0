-- Monomials over numbered atoms, and their order.
use Rattle.std.specs.Prelude.{◌≡◌, ℕ, ◌<◌, List, [], ◌∷◌, length, get_or}
use Rattle.std.specs.declared.cmp.Ordering.{Ordering}
use Rattle.std.specs.Ordering.{nat_cmp, ordering_then}
use Rattle.alg_sums.specs.Monomial.{degree, monomial_cmp}
use Rattle.alg_monomials.specs.declared.monomials.Factor.{Factor}
use Rattle.alg_monomials.specs.declared.monomials.Monomial.{Monomial}

-- atoms with their exponents
abbrev pub powers : List Factor → List (ℕ × ℕ)
powers [] = []
powers (f ∷ fs) = (f.atom, f.exponent) ∷ powers fs

-- the lesser atom first, then the greater exponent
abbrev pub factor_order : Factor → Factor → Ordering
factor_order f g = ordering_then (nat_cmp f.atom g.atom) (nat_cmp g.exponent f.exponent)

-- the order of monomials, for atoms in the order of their numbers
abbrev pub monomial_order : List (ℕ × ℕ) → List (ℕ × ℕ) → Ordering
monomial_order = monomial_cmp nat_cmp

-- what stands for a monomial that isn't there
abbrev pub no_monomial : Monomial
no_monomial = record { degree = 0; factors = []; tree = record { index = 0 } }

-- the degree that it says is its degree
pub record IsMeasured (m : Monomial) : Type 0 where
  pub measured : m.degree ≡ degree (powers m.factors)

pub record AreMeasured (table : List Monomial) : Type 0 where
  pub each : (k : ℕ) → k < length table → IsMeasured (get_or table k no_monomial)
