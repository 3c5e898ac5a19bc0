-- The number that a tree of ℕ spells as an exponent.
use Rattle.std.specs.Prelude.{ℕ, ◌+◌, ◌*◌, ◌^◌, ◌==◌, cond, Option, Some, None}
use Rattle.alg_terms.specs.declared.symbols.Sym.TheVariants.{Add, Mul, Npow}
use Rattle.alg_terms.specs.Tree.{Tree, Lit, App, Nil, Cons}

abbrev pub sum_numeral : Option ℕ → Option ℕ → Option ℕ
sum_numeral (Some m) (Some n) = Some (m + n)
sum_numeral (Some m) None = None
sum_numeral None n = None

-- a product is 0 where one factor is 0, whatever the other
abbrev pub product_numeral : Option ℕ → Option ℕ → Option ℕ
product_numeral (Some m) (Some n) = Some (m * n)
product_numeral (Some m) None = cond (m == 0) (Some 0) None
product_numeral None (Some n) = cond (n == 0) (Some 0) None
product_numeral None None = None

-- a power with this exponent: 1 where that is 0, whatever the base
abbrev pub power_numeral : Option ℕ → ℕ → Option ℕ
power_numeral (Some m) c = Some (m ^ c)
power_numeral None c = cond (c == 0) (Some 1) None

-- a power, if the exponent has a number
abbrev pub raised_numeral : Option ℕ → Option ℕ → Option ℕ
raised_numeral m None = None
raised_numeral m (Some c) = power_numeral m c

-- the number of a literal, sum, product or power; other trees have none
abbrev pub numeral : Tree → Option ℕ
numeral (Lit s n) = Some n
numeral (App Add s (Cons a (Cons b Nil))) = sum_numeral (numeral a) (numeral b)
numeral (App Mul s (Cons a (Cons b Nil))) = product_numeral (numeral a) (numeral b)
numeral (App Npow s (Cons a (Cons k Nil))) = raised_numeral (numeral a) (numeral k)
numeral t = None
