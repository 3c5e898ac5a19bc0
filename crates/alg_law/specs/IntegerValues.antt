-- The integer that a tree denotes when every sort is read as the integers, with ℕ as those from 0 up.
use Rattle.std.specs.Prelude.{ℕ, ◌-◌, List, [], ◌∷◌, ℤ, pos, negsuc, ◌+ℤ◌, ◌-ℤ◌, ◌*ℤ◌, neg_ℤ, unsigned_abs}
use Rattle.std.specs.Int.{int_pow, int_min, int_max}
use Rattle.alg_num.specs.Reduced.{greatest_divisor}
use Rattle.alg_terms.specs.declared.symbols.Sym.{Sym}
use Rattle.alg_terms.specs.declared.symbols.Sym.TheVariants.{Add, Mul, Neg, Sub, Npow, Nsmul, Zsmul, Abs, Min, Max, NatSub, IDiv, Mod, Gcd, Lcm, Fact, Choose, Fib, Apply}
use Rattle.alg_terms.specs.Tree.{Tree, Lit, Var, App, Trees, Nil, Cons}
use Rattle.alg_law.specs.Computing.{least_multiple, integer_quotient, integer_remainder}
use Rattle.alg_law.specs.LeanFunctions.{factorial, choose, fibonacci}
use Rattle.alg_law.specs.Valuations.{Valuation, result_at}

-- an integer as a natural number; it is 0 for one below 0
abbrev pub natural : ℤ → ℕ
natural (pos n) = n
natural (negsuc n) = 0

-- a function of one integer, or of two; it is 0 at another number of them
abbrev pub at_one : (ℤ → ℤ) → List ℤ → ℤ
at_one f [] = pos 0
at_one f (x ∷ []) = f x
at_one f (x ∷ y ∷ zs) = pos 0

abbrev pub at_two : (ℤ → ℤ → ℤ) → List ℤ → ℤ
at_two f [] = pos 0
at_two f (x ∷ []) = pos 0
at_two f (x ∷ y ∷ []) = f x y
at_two f (x ∷ y ∷ z ∷ zs) = pos 0

-- what a built-in symbol means at integers; inverses, quotients and powers by integers mean nothing there, and are 0
abbrev pub symbol_value : Sym → List ℤ → ℤ
symbol_value Add = at_two (λ x y. x +ℤ y)
symbol_value Mul = at_two (λ x y. x *ℤ y)
symbol_value Neg = at_one (λ x. neg_ℤ x)
symbol_value Sub = at_two (λ x y. x -ℤ y)
symbol_value Npow = at_two (λ x n. int_pow x (natural n))
symbol_value Nsmul = at_two (λ n x. n *ℤ x)
symbol_value Zsmul = at_two (λ i x. i *ℤ x)
symbol_value Abs = at_one (λ x. pos (unsigned_abs x))
symbol_value Min = at_two (λ x y. int_min x y)
symbol_value Max = at_two (λ x y. int_max x y)
symbol_value NatSub = at_two (λ x y. pos (natural x - natural y))
symbol_value IDiv = at_two (λ x y. integer_quotient x y)
symbol_value Mod = at_two (λ x y. integer_remainder x y)
symbol_value Gcd = at_two (λ x y. pos (greatest_divisor (natural x) (natural y)))
symbol_value Lcm = at_two (λ x y. pos (least_multiple (natural x) (natural y)))
symbol_value Fact = at_one (λ x. pos (factorial (natural x)))
symbol_value Choose = at_two (λ x y. pos (choose (natural x) (natural y)))
symbol_value Fib = at_one (λ x. pos (fibonacci (natural x)))
symbol_value _ = λ xs. pos 0

-- a declared function has the results that the valuation lists
abbrev pub applied : Valuation → Sym → List ℤ → ℤ
applied v (Apply k) xs = result_at v.results k xs
applied v f xs = symbol_value f xs

abbrev mutual
  pub value_of : Valuation → Tree → ℤ
  value_of v (Lit s n) = pos n
  value_of v (Var d s) = v.variables d
  value_of v (App f s xs) = applied v f (values_of v xs)

  pub values_of : Valuation → Trees → List ℤ
  values_of v Nil = []
  values_of v (Cons x xs) = value_of v x ∷ values_of v xs
