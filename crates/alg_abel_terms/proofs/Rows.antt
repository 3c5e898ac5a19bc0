-- Worked rows, by computing.
use Rattle.std.proofs.Common.{◌≡◌, [], true, false, length, refl}
use Rattle.alg_terms.specs.declared.sorts.Sort.{Sort}
use Rattle.alg_terms.specs.declared.sorts.Sort.TheVariants.{Nat, Int, Decl}
use Rattle.alg_terms.specs.declared.symbols.Sym.TheVariants.{Add, Neg, Sub, Npow, Nsmul, Zsmul}
use Rattle.alg_terms.specs.Tree.{Tree, Lit, Var, App, Nil, Cons}
use Rattle.alg_num.specs.Reduced.{divisor_by_steps, greatest_divisor, reduced}
use Rattle.alg_sums.specs.Integers.{integers}
use Rattle.alg_sums.specs.Sum.{normal_of}
use Rattle.alg_expansions.specs.NormalTree.{binary}
use Rattle.alg_expansions.specs.Visited.{distinct}
use Rattle.alg_abel_terms.specs.NormalTree.{normal_form}
use Rattle.alg_abel_terms.specs.Limits.{is_out_of_range, atoms}
use Rattle.alg_abel_terms.specs.Numbers.{number, past}

abbrev A : Sort
A = Decl 0

abbrev a : Tree
a = Var 2 A

abbrev b : Tree
b = Var 3 A

abbrev n : Tree
n = Var 4 Nat

abbrev form : Tree → Tree
form t = normal_form (number []) A t

-- 3 • a + a is 4 • a
four : form (binary Add A (binary Nsmul A (Lit Nat 3) a) a) ≡ binary Nsmul A (Lit Nat 4) a
unfolding normal_of integers
four = refl

-- a + a is 2 • a
double : form (binary Add A a a) ≡ binary Nsmul A (Lit Nat 2) a
unfolding normal_of integers
double = refl

-- (-3) • b - (a - b) is -a - 2 • b
signs : form (binary Sub A (binary Zsmul A (App Neg Int (Cons (Lit Int 3) Nil)) b) (binary Sub A a b)) ≡ binary Sub A (App Neg A (Cons a Nil)) (binary Nsmul A (Lit Nat 2) b)
unfolding normal_of integers
signs = refl

-- b + (a - b) is a
cancelled : form (binary Add A b (binary Sub A a b)) ≡ a
unfolding normal_of integers
cancelled = refl

-- a - a is 0
nothing : form (binary Sub A a a) ≡ Lit A 0
unfolding normal_of integers
nothing = refl

-- (1 + 2) • a is 3 • a, and n • a is an atom
factors : form (binary Add A (binary Nsmul A (binary Add Nat (Lit Nat 1) (Lit Nat 2)) a) (binary Nsmul A n a)) ≡ binary Add A (binary Nsmul A (Lit Nat 3) a) (binary Nsmul A n a)
unfolding normal_of integers reduced greatest_divisor divisor_by_steps
factors = refl

-- a + b - (b + a + a) is -a
row : form (binary Sub A (binary Add A a b) (binary Add A (binary Add A b a) a)) ≡ App Neg A (Cons a Nil)
unfolding normal_of integers
row = refl

-- 2 ^ 126 copies are in range, and more aren't
at_limit : is_out_of_range (number []) (past []) (binary Nsmul A (binary Npow Nat (Lit Nat 2) (Lit Nat 126)) a) ≡ false
unfolding reduced greatest_divisor divisor_by_steps
at_limit = refl

past_limit : is_out_of_range (number []) (past []) (binary Nsmul A (binary Add Nat (binary Npow Nat (Lit Nat 2) (Lit Nat 126)) (Lit Nat 1)) a) ≡ true
unfolding reduced greatest_divisor divisor_by_steps
past_limit = refl

-- a factor past 2 ^ 127 - 1 has no number, so its multiple is an atom, and it is out of range
no_number : is_out_of_range (number []) (past []) (binary Nsmul A (binary Npow Nat (Lit Nat 2) (Lit Nat 127)) a) ≡ true
unfolding reduced greatest_divisor divisor_by_steps
no_number = refl

-- an atom under 0 • counts
zero_counts : length (distinct (atoms (number []) (binary Add A (binary Nsmul A (Lit Nat 0) a) (binary Add A b b)))) ≡ 2
zero_counts = refl
