-- The names that are in force from the start.
use Rattle.std.specs.Prelude.{ℕ, List, [], ◌∷◌, ◌++◌, codes}
use Rattle.alg_terms.specs.declared.sorts.Sort.{Sort}
use Rattle.alg_terms.specs.declared.sorts.Sort.TheVariants.{Nat, Int, Rat}
use Rattle.alg_terms.specs.declared.symbols.Sym.TheVariants.{Abs, Min, Max, Gcd, Lcm, Fact, Choose, Fib}
use Rattle.alg_names.specs.declared.meanings.Meaning.{Meaning}
use Rattle.alg_names.specs.declared.meanings.Meaning.TheVariants.{SortName, Function, Shared}

-- ℕ Nat ℤ Int ℚ Rat; what is outside ASCII stands in UTF-8
abbrev pub sorts : List (List ℕ × Meaning)
sorts = (0xE2 ∷ 0x84 ∷ 0x95 ∷ [], SortName Nat) ∷ (codes "Nat", SortName Nat) ∷ (0xE2 ∷ 0x84 ∷ 0xA4 ∷ [], SortName Int) ∷ (codes "Int", SortName Int) ∷ (0xE2 ∷ 0x84 ∷ 0x9A ∷ [], SortName Rat) ∷ (codes "Rat", SortName Rat) ∷ []

-- functions of every ordered sort, with the number of their arguments
abbrev pub shared : List (List ℕ × Meaning)
shared = (codes "abs", Shared Abs 1) ∷ (codes "min", Shared Min 2) ∷ (codes "max", Shared Max 2) ∷ []

abbrev pub one : List Sort
one = Nat ∷ []

abbrev pub two : List Sort
two = Nat ∷ Nat ∷ []

-- functions of natural numbers
abbrev pub naturals : List (List ℕ × Meaning)
naturals = (codes "Nat.gcd", Function Gcd two Nat) ∷ (codes "Nat.lcm", Function Lcm two Nat) ∷ (codes "Nat.factorial", Function Fact one Nat) ∷ (codes "Nat.choose", Function Choose two Nat) ∷ (codes "Nat.fib", Function Fib one Nat) ∷ []

abbrev pub built_in : List (List ℕ × Meaning)
built_in = sorts ++ (shared ++ naturals)
