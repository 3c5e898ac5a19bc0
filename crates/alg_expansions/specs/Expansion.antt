-- What a tree of a commutative ring denotes: a formal sum of monomials over its atoms, by naive expansion.
use Rattle.std.specs.Prelude.{ℕ, zero, suc, List, [], ◌∷◌, ◌++◌, Option, Some, None}
use Rattle.std.specs.Ordering.{eq_by_cmp}
use Rattle.alg_terms.specs.declared.sorts.Sort.{Sort}
use Rattle.alg_terms.specs.declared.symbols.Sym.TheVariants.{Add, Mul, Neg, Sub, Inv, Div, Npow}
use Rattle.alg_terms.specs.Tree.{Tree, Lit, App, Nil, Cons}
use Rattle.alg_terms.specs.Order.{tree_cmp}
use Rattle.alg_sums.specs.Coefficients.{Coefficients}
use Rattle.alg_sums.specs.Monomial.{times, monomial_cmp}
use Rattle.alg_sums.specs.Sum.{negated, products, normal_of, IsSameMap}
use Rattle.alg_expansions.specs.Setting.{Setting}
use Rattle.alg_expansions.specs.Numerals.{numeral}
use Rattle.alg_expansions.specs.Closed.{closed_value}

-- a tree that is taken as it is
abbrev pub atom : {C : Type 0} → Coefficients C → Tree → List (List (Tree × ℕ) × C)
atom r a = ((a, 1) ∷ [], r.one) ∷ []

abbrev pub constant : {C : Type 0} → C → List (List (Tree × ℕ) × C)
constant c = ([], c) ∷ []

abbrev pub product : {C : Type 0} → Coefficients C → List (List (Tree × ℕ) × C) → List (List (Tree × ℕ) × C) → List (List (Tree × ℕ) × C)
product r p q = products r (times tree_cmp) p q

-- multiplied n times, beginning with 1
abbrev pub to_power : {C : Type 0} → Coefficients C → List (List (Tree × ℕ) × C) → ℕ → List (List (Tree × ℕ) × C)
to_power r p zero = constant r.one
to_power r p (suc n) = product r (to_power r p n) p

-- a power is multiplied out where the exponent has a number, and else is an atom
abbrev pub power_or : {C : Type 0} → Coefficients C → Tree → List (List (Tree × ℕ) × C) → Option ℕ → List (List (Tree × ℕ) × C)
power_or r a p (Some n) = to_power r p n
power_or r a p None = atom r a

-- an inverse is a constant where it is that of a closed tree, and else is an atom
abbrev pub inverse_or : {C : Type 0} → Coefficients C → Tree → Option C → List (List (Tree × ℕ) × C)
inverse_or r a (Some c) = constant (r.inverse c)
inverse_or r a None = atom r a

-- the inverse of a tree of this sort
abbrev pub inverse_of : {C : Type 0} → Coefficients C → Setting → Sort → Tree → List (List (Tree × ℕ) × C)
inverse_of r k s b = inverse_or r (App Inv s (Cons b Nil)) (closed_value r k b)

-- the terms of a tree
abbrev pub expansion : {C : Type 0} → Coefficients C → Setting → Tree → List (List (Tree × ℕ) × C)
expansion r k (Lit s n) = constant (r.number n)
expansion r k (App Add s (Cons a (Cons b Nil))) = expansion r k a ++ expansion r k b
expansion r k (App Sub s (Cons a (Cons b Nil))) = expansion r k a ++ negated r (expansion r k b)
expansion r k (App Neg s (Cons a Nil)) = negated r (expansion r k a)
expansion r k (App Mul s (Cons a (Cons b Nil))) = product r (expansion r k a) (expansion r k b)
expansion r k (App Npow s (Cons a (Cons e Nil))) = power_or r (App Npow s (Cons a (Cons e Nil))) (expansion r k a) (numeral e)
expansion r k (App Inv s (Cons b Nil)) = inverse_of r k s b
expansion r k (App Div s (Cons a (Cons b Nil))) = product r (expansion r k a) (inverse_of r k s b)
expansion r k t = atom r t

-- the polynomial that a tree denotes: the one list of terms in falling order of monomials, none of them 0, that spells
-- the map of its expansion
abbrev pub polynomial : {C : Type 0} → Coefficients C → Setting → Tree → List (List (Tree × ℕ) × C)
polynomial r k t = normal_of r (monomial_cmp tree_cmp) (expansion r k t)

-- the trees denote one map of monomials to coefficients
abbrev pub HaveSameExpansion : {C : Type 0} → Coefficients C → Setting → Tree → Tree → Type 0
HaveSameExpansion r k t u = IsSameMap r (eq_by_cmp (monomial_cmp tree_cmp)) (expansion r k t) (expansion r k u)
