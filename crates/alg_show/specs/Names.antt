-- The names that things are written with.
use Rattle.std.specs.Prelude.{ℕ, List, [], ◌∷◌, codes, Option, Some, None, slice_get}
use Rattle.alg_terms.specs.declared.sorts.Sort.{Sort}
use Rattle.alg_terms.specs.declared.sorts.Sort.TheVariants.{Nat, Int, Rat, Decl}
use Rattle.alg_terms.specs.declared.symbols.Sym.{Sym}
use Rattle.alg_terms.specs.declared.symbols.Sym.TheVariants.{Abs, Min, Max, Gcd, Lcm, Fact, Choose, Fib, Apply}
use Rattle.alg_law.specs.Declarations.{Declaration, Carrier, Instance, Variable, Function, Hypothesis}

-- the name that a declaration gives; an instance gives none
abbrev pub name_in : Declaration → List ℕ
name_in (Carrier n) = n
name_in (Instance k c) = []
name_in (Variable n s) = n
name_in (Function n ss s) = n
name_in (Hypothesis n h) = n

abbrev pub name_if : Option Declaration → List ℕ
name_if None = []
name_if (Some d) = name_in d

-- the name of declaration k
abbrev pub name_at : List Declaration → ℕ → List ℕ
name_at ds k = name_if (slice_get ds k)

-- ℕ ℤ ℚ as bytes, or the name of the type variable
abbrev pub sort_name : List Declaration → Sort → List ℕ
sort_name ds Nat = 0xE2 ∷ 0x84 ∷ 0x95 ∷ []
sort_name ds Int = 0xE2 ∷ 0x84 ∷ 0xA4 ∷ []
sort_name ds Rat = 0xE2 ∷ 0x84 ∷ 0x9A ∷ []
sort_name ds (Decl k) = name_at ds k

-- the name of a function
abbrev pub function_name : List Declaration → Sym → List ℕ
function_name ds Abs = codes "abs"
function_name ds Min = codes "min"
function_name ds Max = codes "max"
function_name ds Gcd = codes "Nat.gcd"
function_name ds Lcm = codes "Nat.lcm"
function_name ds Fact = codes "Nat.factorial"
function_name ds Choose = codes "Nat.choose"
function_name ds Fib = codes "Nat.fib"
function_name ds (Apply k) = name_at ds k
function_name ds _ = []
