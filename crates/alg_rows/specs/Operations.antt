-- The trees of operations.
use Rattle.alg_terms.specs.declared.sorts.Sort.{Sort}
use Rattle.alg_terms.specs.declared.symbols.Sym.TheVariants.{Neg, Sub, Inv, Div, Npow, Zpow, Nsmul, Zsmul}
use Rattle.alg_terms.specs.Tree.{Tree, App, Cons, Nil}

-- -x
abbrev pub negation_tree : Sort → Tree → Tree
negation_tree s x = App Neg s (Cons x Nil)

-- x - y
abbrev pub difference_tree : Sort → Tree → Tree → Tree
difference_tree s x y = App Sub s (Cons x (Cons y Nil))

-- x⁻¹
abbrev pub inverse_tree : Sort → Tree → Tree
inverse_tree s x = App Inv s (Cons x Nil)

-- x / y
abbrev pub quotient_tree : Sort → Tree → Tree → Tree
quotient_tree s x y = App Div s (Cons x (Cons y Nil))

-- x ^ n, where n is of ℕ
abbrev pub power_tree : Sort → Tree → Tree → Tree
power_tree s x n = App Npow s (Cons x (Cons n Nil))

-- x ^ i, where i is of ℤ
abbrev pub integer_power_tree : Sort → Tree → Tree → Tree
integer_power_tree s x i = App Zpow s (Cons x (Cons i Nil))

-- n • x, where n is of ℕ
abbrev pub multiple_tree : Sort → Tree → Tree → Tree
multiple_tree s n x = App Nsmul s (Cons n (Cons x Nil))

-- i • x, where i is of ℤ
abbrev pub integer_multiple_tree : Sort → Tree → Tree → Tree
integer_multiple_tree s i x = App Zsmul s (Cons i (Cons x Nil))
