-- Denominator, weight and degree of a tree. The denominator times each coefficient of the expansion is whole, the
-- absolute values of these products sum to at most the weight, and no monomial has a greater degree.
use Rattle.std.specs.Prelude.{ℕ, ◌+◌, ◌*◌, ◌/◌, ◌^◌, max, Option, Some, None}
use Rattle.alg_law.specs.Computing.{least_multiple}
use Rattle.alg_terms.specs.declared.symbols.Sym.TheVariants.{Add, Mul, Neg, Sub, Inv, Div, Npow}
use Rattle.alg_terms.specs.Tree.{Tree, Lit, App, Nil, Cons}
use Rattle.alg_sums.specs.Coefficients.{Coefficients}
use Rattle.alg_expansions.specs.Setting.{Setting}
use Rattle.alg_expansions.specs.Numerals.{numeral}
use Rattle.alg_expansions.specs.Closed.{closed_value}

-- of a power: 1 where it is an atom
abbrev pub raised_by : ℕ → Option ℕ → ℕ
raised_by m (Some n) = m ^ n
raised_by m None = 1

-- of the inverse of what may be closed: those of the coefficient, and 1 where it is an atom
abbrev pub bottom_of : {C : Type 0} → Coefficients C → Option C → ℕ
bottom_of r (Some c) = r.bottom (r.inverse c)
bottom_of r None = 1

abbrev pub top_of : {C : Type 0} → Coefficients C → Option C → ℕ
top_of r (Some c) = r.top (r.inverse c)
top_of r None = 1

abbrev pub denominator : {C : Type 0} → Coefficients C → Setting → Tree → ℕ
denominator r k (App Add s (Cons a (Cons b Nil))) = least_multiple (denominator r k a) (denominator r k b)
denominator r k (App Sub s (Cons a (Cons b Nil))) = least_multiple (denominator r k a) (denominator r k b)
denominator r k (App Neg s (Cons a Nil)) = denominator r k a
denominator r k (App Mul s (Cons a (Cons b Nil))) = denominator r k a * denominator r k b
denominator r k (App Npow s (Cons a (Cons e Nil))) = raised_by (denominator r k a) (numeral e)
denominator r k (App Inv s (Cons b Nil)) = bottom_of r (closed_value r k b)
denominator r k (App Div s (Cons a (Cons b Nil))) = denominator r k a * bottom_of r (closed_value r k b)
denominator r k t = 1

-- two weights over the least common multiple of their denominators
abbrev pub joined_weight : ℕ → ℕ → ℕ → ℕ → ℕ
joined_weight m d n e = m * (least_multiple d e / d) + n * (least_multiple d e / e)

abbrev pub weight : {C : Type 0} → Coefficients C → Setting → Tree → ℕ
weight r k (Lit s n) = n
weight r k (App Add s (Cons a (Cons b Nil))) = joined_weight (weight r k a) (denominator r k a) (weight r k b) (denominator r k b)
weight r k (App Sub s (Cons a (Cons b Nil))) = joined_weight (weight r k a) (denominator r k a) (weight r k b) (denominator r k b)
weight r k (App Neg s (Cons a Nil)) = weight r k a
weight r k (App Mul s (Cons a (Cons b Nil))) = weight r k a * weight r k b
weight r k (App Npow s (Cons a (Cons e Nil))) = raised_by (weight r k a) (numeral e)
weight r k (App Inv s (Cons b Nil)) = top_of r (closed_value r k b)
weight r k (App Div s (Cons a (Cons b Nil))) = weight r k a * top_of r (closed_value r k b)
weight r k t = 1

-- of a power with this degree of the base: 1 where it is an atom
abbrev pub times_degree : ℕ → Option ℕ → ℕ
times_degree d (Some n) = n * d
times_degree d None = 1

-- a constant has degree 0, an atom degree 1
abbrev pub inverse_degree : {C : Type 0} → Option C → ℕ
inverse_degree (Some c) = 0
inverse_degree None = 1

abbrev pub degree : {C : Type 0} → Coefficients C → Setting → Tree → ℕ
degree r k (Lit s n) = 0
degree r k (App Add s (Cons a (Cons b Nil))) = max (degree r k a) (degree r k b)
degree r k (App Sub s (Cons a (Cons b Nil))) = max (degree r k a) (degree r k b)
degree r k (App Neg s (Cons a Nil)) = degree r k a
degree r k (App Mul s (Cons a (Cons b Nil))) = degree r k a + degree r k b
degree r k (App Npow s (Cons a (Cons e Nil))) = times_degree (degree r k a) (numeral e)
degree r k (App Inv s (Cons b Nil)) = inverse_degree (closed_value r k b)
degree r k (App Div s (Cons a (Cons b Nil))) = degree r k a + inverse_degree (closed_value r k b)
degree r k t = 1
