-- The functions of whole numbers, and which of them each extension covers.
use Rattle.std.specs.Prelude.{Bool, true, false}
use Rattle.alg_terms.specs.declared.symbols.Sym.{Sym}
use Rattle.alg_terms.specs.declared.symbols.Sym.TheVariants.{NatSub, IDiv, Mod, Gcd, Lcm, Fact, Choose, Fib}

abbrev pub is_divisor : Sym → Bool
is_divisor Gcd = true
is_divisor Lcm = true
is_divisor _ = false

abbrev pub is_quotient : Sym → Bool
is_quotient IDiv = true
is_quotient _ = false

abbrev pub is_remainder : Sym → Bool
is_remainder Mod = true
is_remainder _ = false

abbrev pub is_factorial : Sym → Bool
is_factorial Fact = true
is_factorial _ = false

abbrev pub is_choice : Sym → Bool
is_choice Choose = true
is_choice _ = false

abbrev pub is_fibonacci : Sym → Bool
is_fibonacci Fib = true
is_fibonacci _ = false

abbrev pub is_difference : Sym → Bool
is_difference NatSub = true
is_difference _ = false

abbrev pub is_whole_function : Sym → Bool
is_whole_function NatSub = true
is_whole_function IDiv = true
is_whole_function Mod = true
is_whole_function Gcd = true
is_whole_function Lcm = true
is_whole_function Fact = true
is_whole_function Choose = true
is_whole_function Fib = true
is_whole_function _ = false
