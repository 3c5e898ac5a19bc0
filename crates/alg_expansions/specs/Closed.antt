-- The coefficient that a closed tree denotes. Closed are the literals of a field of characteristic zero, and what sums,
-- differences, products, quotients, negations, inverses and powers with numbers as exponents make of closed trees.
use Rattle.std.specs.Prelude.{ℕ, zero, suc, cond, Option, Some, None, option_map}
use Rattle.alg_terms.specs.declared.symbols.Sym.TheVariants.{Add, Mul, Neg, Sub, Inv, Div, Npow}
use Rattle.alg_terms.specs.Tree.{Tree, Lit, App, Nil, Cons}
use Rattle.alg_sums.specs.Coefficients.{Coefficients}
use Rattle.alg_expansions.specs.Setting.{Setting}
use Rattle.alg_expansions.specs.Numerals.{numeral}

-- an operation on two coefficients, of which either may be lacking
abbrev pub both : {C : Type 0} → (C → C → C) → Option C → Option C → Option C
both f (Some a) (Some b) = Some (f a b)
both f (Some a) None = None
both f None b = None

-- multiplied n times, beginning with 1
abbrev pub power_of : {C : Type 0} → Coefficients C → C → ℕ → C
power_of r a zero = r.one
power_of r a (suc n) = r.times (power_of r a n) a

abbrev pub closed_power : {C : Type 0} → Coefficients C → Option C → Option ℕ → Option C
closed_power r (Some a) (Some n) = Some (power_of r a n)
closed_power r (Some a) None = None
closed_power r None n = None

-- none where the tree isn't closed; the inverse of 0 is 0
abbrev pub closed_value : {C : Type 0} → Coefficients C → Setting → Tree → Option C
closed_value r k (Lit s n) = cond (k.is_exact s) (Some (r.number n)) None
closed_value r k (App Add s (Cons a (Cons b Nil))) = both r.plus (closed_value r k a) (closed_value r k b)
closed_value r k (App Sub s (Cons a (Cons b Nil))) = both (λ x y. r.plus x (r.minus y)) (closed_value r k a) (closed_value r k b)
closed_value r k (App Neg s (Cons a Nil)) = option_map r.minus (closed_value r k a)
closed_value r k (App Mul s (Cons a (Cons b Nil))) = both r.times (closed_value r k a) (closed_value r k b)
closed_value r k (App Div s (Cons a (Cons b Nil))) = both (λ x y. r.times x (r.inverse y)) (closed_value r k a) (closed_value r k b)
closed_value r k (App Inv s (Cons b Nil)) = option_map r.inverse (closed_value r k b)
closed_value r k (App Npow s (Cons a (Cons e Nil))) = closed_power r (closed_value r k a) (numeral e)
closed_value r k t = None
