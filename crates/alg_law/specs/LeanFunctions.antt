-- Lean's functions on the natural numbers and the integers, by what their values are.
use Rattle.std.specs.Prelude.{◌≡◌, ℕ, zero, suc, ◌+◌, ◌-◌, ◌*◌, ◌/◌, ◌%◌, ◌<◌, ℤ, pos, negsuc, ◌+ℤ◌, ◌*ℤ◌, unsigned_abs, List, [], ◌∷◌}
use Rattle.std.specs.Int.{IsGcd, ◌∣◌}
use Rattle.alg_terms.specs.declared.symbols.Sym.{Sym}
use Rattle.alg_terms.specs.declared.symbols.Sym.TheVariants.{NatSub, IDiv, Mod, Gcd, Lcm, Fact, Choose, Fib}

-- `Nat.div`: rounded down, and 0 over 0
abbrev pub natural_quotient : ℕ → ℕ → ℕ
natural_quotient a zero = 0
natural_quotient a (suc b) = a / suc b

-- `Nat.mod`: the remainder of that division, and a by 0
abbrev pub natural_remainder : ℕ → ℕ → ℕ
natural_remainder a zero = a
natural_remainder a (suc b) = a % suc b

-- `Nat.lcm`: the multiple of both that divides each other one
abbrev pub IsLcm : ℕ → ℕ → ℕ → Type 0
IsLcm a b l = (a ∣ l) × (b ∣ l) × ((k : ℕ) → a ∣ k → b ∣ k → l ∣ k)

-- `Nat.factorial`
unfoldable pub factorial : ℕ → ℕ
factorial zero = 1
factorial (suc n) = suc n * factorial n

-- `Nat.choose`: how many sets of k out of n things there are
unfoldable pub choose : ℕ → ℕ → ℕ
choose n zero = 1
choose zero (suc k) = 0
choose (suc n) (suc k) = choose n k + choose n (suc k)

-- `Nat.fib`
unfoldable pub fibonacci : ℕ → ℕ
fibonacci zero = 0
fibonacci (suc zero) = 1
fibonacci (suc (suc n)) = fibonacci n + fibonacci (suc n)

-- Euclid's division of integers: a = b * q + r with r at least 0 and below the absolute value of b
abbrev pub IsDivision : ℤ → ℤ → ℤ → ℕ → Type 0
IsDivision a b q r = (a ≡ b *ℤ q +ℤ pos r) × (r < unsigned_abs b)

-- `Int.ediv`: the quotient of that division, and 0 over 0
abbrev pub IsIntegerQuotient : ℤ → ℤ → ℤ → Type 0
IsIntegerQuotient a (pos zero) q = q ≡ pos 0
IsIntegerQuotient a (pos (suc b)) q = (r : ℕ) × IsDivision a (pos (suc b)) q r
IsIntegerQuotient a (negsuc b) q = (r : ℕ) × IsDivision a (negsuc b) q r

-- `Int.emod`: the remainder of that division, and a by 0
abbrev pub IsIntegerRemainder : ℤ → ℤ → ℤ → Type 0
IsIntegerRemainder a (pos zero) m = m ≡ a
IsIntegerRemainder a (pos (suc b)) m = (q : ℤ) × (r : ℕ) × IsDivision a (pos (suc b)) q r × (m ≡ pos r)
IsIntegerRemainder a (negsuc b) m = (q : ℤ) × (r : ℕ) × IsDivision a (negsuc b) q r × (m ≡ pos r)

-- v is the value of the function at these natural numbers; `Nat.sub` is 0 where the second is greater,
-- and `Nat.gcd` of 0 and 0 is 0, which every number divides
abbrev pub IsNaturalValue : Sym → List ℕ → ℕ → Type 0
IsNaturalValue NatSub (a ∷ b ∷ []) v = v ≡ a - b
IsNaturalValue IDiv (a ∷ b ∷ []) v = v ≡ natural_quotient a b
IsNaturalValue Mod (a ∷ b ∷ []) v = v ≡ natural_remainder a b
IsNaturalValue Gcd (a ∷ b ∷ []) v = IsGcd a b v
IsNaturalValue Lcm (a ∷ b ∷ []) v = IsLcm a b v
IsNaturalValue Fact (a ∷ []) v = v ≡ factorial a
IsNaturalValue Choose (a ∷ b ∷ []) v = v ≡ choose a b
IsNaturalValue Fib (a ∷ []) v = v ≡ fibonacci a
IsNaturalValue _ _ v = ⊥

-- v is the value of the function at these integers
abbrev pub IsIntegerValue : Sym → List ℤ → ℤ → Type 0
IsIntegerValue IDiv (a ∷ b ∷ []) v = IsIntegerQuotient a b v
IsIntegerValue Mod (a ∷ b ∷ []) v = IsIntegerRemainder a b v
IsIntegerValue _ _ v = ⊥
