-- Values of Lean's functions that are known from elsewhere.
use Rattle.std.specs.Prelude.{pos, negsuc, [], ◌∷◌, refl}
use Rattle.std.proofs.Common.{lit<}
use Rattle.alg_terms.specs.declared.symbols.Sym.TheVariants.{NatSub, IDiv, Mod, Fact, Choose, Fib}
use Rattle.alg_law.specs.LeanFunctions.{factorial, choose, fibonacci, IsNaturalValue, IsIntegerValue}

differences : IsNaturalValue NatSub (3 ∷ 5 ∷ []) 0 × IsNaturalValue NatSub (5 ∷ 3 ∷ []) 2
differences = (refl, refl)

quotients : IsNaturalValue IDiv (7 ∷ 2 ∷ []) 3 × IsNaturalValue IDiv (7 ∷ 0 ∷ []) 0 × IsNaturalValue Mod (7 ∷ 2 ∷ []) 1 × IsNaturalValue Mod (7 ∷ 0 ∷ []) 7
quotients = (refl, refl, refl, refl)

factorials : IsNaturalValue Fact (0 ∷ []) 1 × IsNaturalValue Fact (6 ∷ []) 720
unfolding factorial
factorials = (refl, refl)

chosen : IsNaturalValue Choose (5 ∷ 2 ∷ []) 10 × IsNaturalValue Choose (2 ∷ 5 ∷ []) 0 × IsNaturalValue Choose (0 ∷ 0 ∷ []) 1
unfolding choose
chosen = (refl, refl, refl)

fibonacci_numbers : IsNaturalValue Fib (0 ∷ []) 0 × IsNaturalValue Fib (1 ∷ []) 1 × IsNaturalValue Fib (10 ∷ []) 55
unfolding fibonacci
fibonacci_numbers = (refl, refl, refl)

-- -7 / 2 = -4, -7 % 2 = 1, 7 / -2 = -3, -7 / -2 = 4
integer_quotients : IsIntegerValue IDiv (negsuc 6 ∷ pos 2 ∷ []) (negsuc 3) × IsIntegerValue Mod (negsuc 6 ∷ pos 2 ∷ []) (pos 1)
    × IsIntegerValue IDiv (pos 7 ∷ negsuc 1 ∷ []) (negsuc 2) × IsIntegerValue IDiv (negsuc 6 ∷ negsuc 1 ∷ []) (pos 4)
integer_quotients = ((1, (refl, lit< tt)), (negsuc 3, 1, (refl, lit< tt), refl), (1, (refl, lit< tt)), (1, (refl, lit< tt)))

by_zero : IsIntegerValue IDiv (negsuc 6 ∷ pos 0 ∷ []) (pos 0) × IsIntegerValue Mod (negsuc 6 ∷ pos 0 ∷ []) (negsuc 6)
by_zero = (refl, refl)
