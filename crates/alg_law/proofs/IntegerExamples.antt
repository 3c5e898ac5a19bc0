-- Values at the integers that are known from elsewhere, and that the theorem on derivable statements is not empty.
use Rattle.std.specs.Prelude.{◌≡◌, ℕ, zero, suc, List, [], ◌∷◌, Bool, true, false, ◌&&◌, ◌||◌, nat_eq, None, pos, negsuc, ◌≤ℤ◌, refl, slice_get}
use Rattle.std.proofs.Common.{arith}
use Rattle.std.proofs.lemmas.Int.{ints}
use Rattle.std.proofs.lemmas.List.Elements.{All-nil}
use Rattle.alg_terms.specs.declared.sorts.Sort.TheVariants.{Decl}
use Rattle.alg_terms.specs.declared.symbols.Sym.TheVariants.{Npow, Abs, Min, NatSub, IDiv, Mod, Gcd, Lcm}
use Rattle.alg_terms.specs.Tree.{Lit, equal}
use Rattle.alg_law.specs.declared.classes.Class.TheVariants.{CommRing, Group, Field}
use Rattle.alg_law.specs.Declarations.{Declaration, Carrier, Instance}
use Rattle.alg_law.specs.Derivations.{Derivable}
use Rattle.alg_law.specs.Following.{IsWellFormed}
use Rattle.alg_law.specs.Having.{has_class}
use Rattle.alg_law.specs.IntegerBases.{IsIntegerBase}
use Rattle.alg_num.specs.Reduced.{divisor_by_steps, greatest_divisor}
use Rattle.alg_law.specs.IntegerValues.{symbol_value}
use Rattle.alg_law.proofs.NoFalseLaw.{derivable-true}
use Rattle.alg_law.specs.Valuations.{Valuation, IsResult, IsValuation}
use Rattle.alg_law.specs.WellSorted.{function_of}

common : (symbol_value Gcd (pos 12 ∷ pos 18 ∷ []) ≡ pos 6) × (symbol_value Gcd (pos 0 ∷ pos 5 ∷ []) ≡ pos 5) × (symbol_value Lcm (pos 4 ∷ pos 6 ∷ []) ≡ pos 12) × (symbol_value Lcm (pos 0 ∷ pos 6 ∷ []) ≡ pos 0)
unfolding divisor_by_steps greatest_divisor
common = (refl, refl, refl, refl)

-- -7 / 2 = -4, -7 % 2 = 1, 7 / -2 = -3, -7 / -2 = 4, 7 / 0 = 0, -7 % 0 = -7
divisions : (symbol_value IDiv (negsuc 6 ∷ pos 2 ∷ []) ≡ negsuc 3) × (symbol_value Mod (negsuc 6 ∷ pos 2 ∷ []) ≡ pos 1)
    × (symbol_value IDiv (pos 7 ∷ negsuc 1 ∷ []) ≡ negsuc 2) × (symbol_value IDiv (negsuc 6 ∷ negsuc 1 ∷ []) ≡ pos 4)
    × (symbol_value IDiv (pos 7 ∷ pos 0 ∷ []) ≡ pos 0) × (symbol_value Mod (negsuc 6 ∷ pos 0 ∷ []) ≡ negsuc 6)
divisions = (refl, refl, refl, refl, refl, refl)

others : (symbol_value Npow (negsuc 1 ∷ pos 3 ∷ []) ≡ negsuc 7) × (symbol_value Abs (negsuc 4 ∷ []) ≡ pos 5)
    × (symbol_value Min (negsuc 1 ∷ pos 3 ∷ []) ≡ negsuc 1) × (symbol_value NatSub (pos 3 ∷ pos 5 ∷ []) ≡ pos 0)
others = (refl, refl, refl, refl)

-- a commutative ring R
abbrev ring : List Declaration
ring = Carrier (82 ∷ []) ∷ Instance 0 CommRing ∷ []

ring-formed : IsWellFormed ring
ring-formed = (tt, (record { variable = refl; needed = refl; new = refl }, tt))

never : (b : Bool) → ((b && false) || false) ≡ false
never true = refl
never false = refl

ring_no_group : (k : ℕ) → has_class ring (Decl k) Group ≡ false
ring_no_group k = never (nat_eq k 0)

ring_no_field : (k : ℕ) → has_class ring (Decl k) Field ≡ false
ring_no_field k = never (nat_eq k 0)

ring_no_function : (k : ℕ) → function_of (slice_get ring k) ≡ None
ring_no_function zero = refl
ring_no_function (suc zero) = refl
ring_no_function (suc (suc k)) = refl

ring-integer_base : IsIntegerBase ring
ring-integer_base =
    record {
      no_group = ring_no_group;
      no_field = ring_no_field;
      no_rational_argument = λ k ss s e. let n : function_of (slice_get ring k) ≡ None = ring_no_function k in absurd cc;
      no_rational_value = λ k ss s e. let n : function_of (slice_get ring k) ≡ None = ring_no_function k in absurd cc;
    }

abbrev zeros : Valuation
zeros = record { variables = λ d. pos 0; results = [] }

not_below : pos 0 ≤ℤ pos 0
not_below = omega (arith, ints)

zeros-valuation : IsValuation ring zeros
zeros-valuation = record { naturals = λ d e. not_below; results = All-nil (IsResult ring) }

zero_not_one : (pos 0 ≡ pos 1) → ⊥
zero_not_one e = omega (arith, ints, e)

-- that 0 = 1 in R is not derivable
not_derivable : Derivable ring None (equal (Lit (Decl 0) 0) (Lit (Decl 0) 1)) → ⊥
not_derivable d = zero_not_one (derivable-true ring ring-formed (equal (Lit (Decl 0) 0) (Lit (Decl 0) 1)) d ring-integer_base zeros zeros-valuation (λ h i b. absurd (omega (arith, i.1))) (λ q. cc))
