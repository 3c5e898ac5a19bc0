-- The weight of a tree, which the absolute values of its coefficients never pass, in whatever order they are added.
use Rattle.std.specs.Prelude.{ℕ, zero, ◌+◌, ◌*◌, List, [], ◌∷◌, Option, Some, None, ℤ, unsigned_abs}
use Rattle.alg_terms.specs.declared.symbols.Sym.TheVariants.{Add, Neg, Sub, Nsmul, Zsmul}
use Rattle.alg_terms.specs.Tree.{Tree, Lit, App, Nil, Cons}

-- a multiple weighs as often as its absolute value says, and 1 where it is an atom
abbrev pub times_or : Option ℤ → ℕ → ℕ
times_or (Some z) n = unsigned_abs z * n
times_or None n = 1

abbrev pub weight : (Tree → Option ℤ) → Tree → ℕ
weight value (Lit s zero) = 0
weight value (App Add s (Cons a (Cons b Nil))) = weight value a + weight value b
weight value (App Sub s (Cons a (Cons b Nil))) = weight value a + weight value b
weight value (App Neg s (Cons a Nil)) = weight value a
weight value (App Nsmul s (Cons k (Cons a Nil))) = times_or (value k) (weight value a)
weight value (App Zsmul s (Cons k (Cons a Nil))) = times_or (value k) (weight value a)
weight value t = 1

-- the sum of the absolute values of the coefficients
abbrev pub total_size : List (Tree × ℤ) → ℕ
total_size [] = 0
total_size (t ∷ p) = unsigned_abs t.1 + total_size p
