-- What it costs to expand trees, and when that is too much.
use Rattle.std.specs.List.{list_any}
use Rattle.std.specs.Prelude.{ℕ, zero, suc, ◌+◌, ◌*◌, ◌^◌, nat_lt, Bool, false, ◌||◌, cond, List, [], ◌∷◌, ◌++◌, length, map, flat_map, sum, Option, Some, None}
use Rattle.alg_terms.specs.declared.symbols.Sym.TheVariants.{Add, Mul, Neg, Sub, Inv, Div, Npow}
use Rattle.alg_terms.specs.Tree.{Tree, App, Nil, Cons}
use Rattle.alg_terms.specs.Order.{tree_cmp}
use Rattle.alg_sums.specs.Coefficients.{Coefficients}
use Rattle.alg_sums.specs.Monomial.{monomial_cmp}
use Rattle.alg_sums.specs.Sum.{normal_of}
use Rattle.alg_expansions.specs.Setting.{Setting}
use Rattle.alg_expansions.specs.Numerals.{numeral}
use Rattle.alg_expansions.specs.Closed.{closed_value}
use Rattle.alg_expansions.specs.Expansion.{expansion, polynomial, to_power}
use Rattle.alg_expansions.specs.Visited.{visited, atoms, distinct}

-- the number of monomials of a tree
abbrev pub terms : {C : Type 0} → Coefficients C → Setting → Tree → ℕ
terms r k t = length (polynomial r k t)

-- that of a power of it
abbrev pub power_terms : {C : Type 0} → Coefficients C → Setting → Tree → ℕ → ℕ
power_terms r k a n = length (normal_of r (monomial_cmp tree_cmp) (to_power r (expansion r k a) n))

-- the products that lead from a tree to its power, each by the terms of its first factor times those of its second: none
-- to the exponents 0 and 1
abbrev pub steps_to : {C : Type 0} → Coefficients C → Setting → Tree → ℕ → List ℕ
steps_to r k a zero = []
steps_to r k a (suc zero) = []
steps_to r k a (suc (suc n)) = steps_to r k a (suc n) ++ power_terms r k a (suc n) * terms r k a ∷ []

-- none are counted for a single term
abbrev pub power_steps : {C : Type 0} → Coefficients C → Setting → Tree → ℕ → List ℕ
power_steps r k a n = cond (nat_lt 1 (terms r k a)) (steps_to r k a n) []

-- the cost of a power, an atom where the exponent has no number
abbrev pub power_cost : {C : Type 0} → Coefficients C → Setting → Tree → ℕ → ℕ → Option ℕ → ℕ
power_cost r k a x y None = 1
power_cost r k a x y (Some n) = x + y + 1 + sum (power_steps r k a n)

-- the cost of the inverse of what may be closed
abbrev pub inverse_cost : {C : Type 0} → ℕ → Option C → ℕ
inverse_cost y None = 1
inverse_cost y (Some c) = y + 1

-- what a divisor costs beside
abbrev pub divisor_cost : {C : Type 0} → ℕ → Option C → ℕ
divisor_cost y None = 0
divisor_cost y (Some c) = y

abbrev pub cost : {C : Type 0} → Coefficients C → Setting → Tree → ℕ
cost r k (App Add s (Cons a (Cons b Nil))) = cost r k a + cost r k b + 1
cost r k (App Sub s (Cons a (Cons b Nil))) = cost r k a + cost r k b + 1
cost r k (App Neg s (Cons a Nil)) = cost r k a + 1
cost r k (App Mul s (Cons a (Cons b Nil))) = cost r k a + cost r k b + terms r k a * terms r k b
cost r k (App Npow s (Cons a (Cons e Nil))) = power_cost r k a (cost r k a) (cost r k e) (numeral e)
cost r k (App Inv s (Cons b Nil)) = inverse_cost (cost r k b) (closed_value r k b)
cost r k (App Div s (Cons a (Cons b Nil))) = cost r k a + terms r k a + divisor_cost (cost r k b) (closed_value r k b)
cost r k t = 1

-- a step with more than 4,096 terms or products of terms
abbrev pub power_is_large : {C : Type 0} → Coefficients C → Setting → Tree → Option ℕ → Bool
power_is_large r k a None = false
power_is_large r k a (Some n) = list_any (nat_lt 4096) (power_steps r k a n)

abbrev pub has_large_step : {C : Type 0} → Coefficients C → Setting → Tree → Bool
has_large_step r k (App Add s (Cons a (Cons b Nil))) = nat_lt 4096 (terms r k a + terms r k b)
has_large_step r k (App Sub s (Cons a (Cons b Nil))) = nat_lt 4096 (terms r k a + terms r k b)
has_large_step r k (App Mul s (Cons a (Cons b Nil))) = nat_lt 4096 (terms r k a * terms r k b)
has_large_step r k (App Npow s (Cons a (Cons e Nil))) = power_is_large r k a (numeral e)
has_large_step r k t = false

-- some visited step of a tree is too large
abbrev pub has_large_steps : {C : Type 0} → Coefficients C → Setting → Tree → Bool
has_large_steps r k t = list_any (has_large_step r k) (visited r k t)

-- the trees cost more than 2^18 together
abbrev pub cost_too_much : {C : Type 0} → Coefficients C → Setting → List Tree → Bool
cost_too_much r k ts = nat_lt (2 ^ 18) (sum (map (cost r k) ts))

-- the trees have more than 256 distinct atoms together
abbrev pub have_many_atoms : {C : Type 0} → Coefficients C → Setting → List Tree → Bool
have_many_atoms r k ts = nat_lt 256 (length (distinct (flat_map (atoms r k) ts)))

abbrev pub are_too_large : {C : Type 0} → Coefficients C → Setting → List Tree → Bool
are_too_large r k ts = list_any (has_large_steps r k) ts || (cost_too_much r k ts || have_many_atoms r k ts)
