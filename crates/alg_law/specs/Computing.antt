-- Lean's functions on the natural numbers and the integers, as functions that compute.
use Rattle.std.specs.Prelude.{ℕ, zero, suc, ◌-◌, ◌*◌, ◌/◌, ◌%◌, ◌^◌, ◌==◌, nat_lt, Bool, if◌then◌else◌, ℤ, pos, negsuc, List, [], ◌∷◌, Option, Some, None}
use Rattle.std.specs.Int.{int_div_euclid, int_rem_euclid}
use Rattle.alg_terms.specs.declared.symbols.Sym.{Sym}
use Rattle.alg_terms.specs.declared.symbols.Sym.TheVariants.{NatSub, IDiv, Mod, Gcd, Lcm, Fact, Choose, Fib}
use Rattle.alg_num.specs.Reduced.{greatest_divisor}
use Rattle.alg_law.specs.LeanFunctions.{natural_quotient, natural_remainder, factorial, choose, fibonacci}

-- `Nat.lcm`, which is 0 where a number is 0
abbrev pub least_multiple : ℕ → ℕ → ℕ
least_multiple a b = a / greatest_divisor a b * b

-- `Int.ediv`
abbrev pub integer_quotient : ℤ → ℤ → ℤ
integer_quotient a (pos zero) = pos 0
integer_quotient a (pos (suc b)) = int_div_euclid a (pos (suc b))
integer_quotient a (negsuc b) = int_div_euclid a (negsuc b)

-- `Int.emod`
abbrev pub integer_remainder : ℤ → ℤ → ℤ
integer_remainder a (pos zero) = a
integer_remainder a (pos (suc b)) = int_rem_euclid a (pos (suc b))
integer_remainder a (negsuc b) = int_rem_euclid a (negsuc b)

-- the value at these natural numbers, if the function is one of them and has that many arguments
abbrev pub natural_value : Sym → List ℕ → Option ℕ
natural_value NatSub (a ∷ b ∷ []) = Some (a - b)
natural_value IDiv (a ∷ b ∷ []) = Some (natural_quotient a b)
natural_value Mod (a ∷ b ∷ []) = Some (natural_remainder a b)
natural_value Gcd (a ∷ b ∷ []) = Some (greatest_divisor a b)
natural_value Lcm (a ∷ b ∷ []) = Some (least_multiple a b)
natural_value Fact (a ∷ []) = Some (factorial a)
natural_value Choose (a ∷ b ∷ []) = Some (choose a b)
natural_value Fib (a ∷ []) = Some (fibonacci a)
natural_value _ _ = None

-- the value at these integers, likewise
abbrev pub integer_value : Sym → List ℤ → Option ℤ
integer_value IDiv (a ∷ b ∷ []) = Some (integer_quotient a b)
integer_value Mod (a ∷ b ∷ []) = Some (integer_remainder a b)
integer_value _ _ = None

-- a divides b; 0 divides 0 alone
abbrev pub divides : ℕ → ℕ → Bool
divides a b = b % a == 0

-- a value that is a literal, since it is below 2 ^ 127
abbrev pub literal_value : Option ℕ → Option ℕ
literal_value None = None
literal_value (Some v) = if nat_lt v (2 ^ 127) then Some v else None
