-- Worked rows, by computing.
use Rattle.std.proofs.Common.{◌≡◌, true, false, refl, Option, Some, None, ℤ, pos, neg_ℤ}
use Rattle.alg_terms.specs.declared.sorts.Sort.{Sort}
use Rattle.alg_terms.specs.declared.sorts.Sort.TheVariants.{Nat, Int, Decl}
use Rattle.alg_terms.specs.declared.symbols.Sym.TheVariants.{Mul, Neg, Inv, Div, Npow, Zpow}
use Rattle.alg_terms.specs.Tree.{Tree, Lit, Var, App, Nil, Cons}
use Rattle.alg_group_words.specs.Syllables.{joined, joined_inverse, raised_runs}
use Rattle.alg_group_words.specs.WordTree.{binary, unary, normal_form}
use Rattle.alg_group_words.specs.Limits.{has_long}

-- numerals alone
abbrev number : Tree → Option ℤ
number (Lit s n) = Some (pos n)
number (App Neg s (Cons (Lit r n) Nil)) = Some (neg_ℤ (pos n))
number t = None

abbrev G : Sort
G = Decl 0

abbrev a : Tree
a = Var 2 G

abbrev b : Tree
b = Var 3 G

abbrev form : Tree → Tree
form t = normal_form number G t

abbrev times : Tree → Tree → Tree
times = binary Mul G

abbrev minus : Tree → Tree
minus n = unary Neg Int n

-- a ^ 100000 * a ^ -100000 is 1
powers : form (times (binary Npow G a (Lit Nat 100000)) (binary Zpow G a (minus (Lit Int 100000)))) ≡ Lit G 1
unfolding joined raised_runs
powers = refl

-- (a * b)⁻¹ is b⁻¹ * a⁻¹
turned : form (unary Inv G (times a b)) ≡ times (unary Inv G b) (unary Inv G a)
unfolding joined joined_inverse
turned = refl

-- a * b / a is a * b * a⁻¹, not b
conjugate : form (binary Div G (times a b) a) ≡ times (times a b) (unary Inv G a)
unfolding joined joined_inverse
conjugate = refl

-- (a * b * a⁻¹) ^ 2 is a * b ^ 2 * a⁻¹
square : form (binary Npow G (times (times a b) (unary Inv G a)) (Lit Nat 2)) ≡ times (times a (binary Npow G b (Lit Nat 2))) (unary Inv G a)
unfolding joined joined_inverse raised_runs
square = refl

-- (a * a * b) ^ -2 is b⁻¹ * a ^ -2 * b⁻¹ * a ^ -2
negative : form (binary Zpow G (times (times a a) b) (minus (Lit Int 2))) ≡ times (times (times (unary Inv G b) (binary Zpow G a (minus (Lit Int 2)))) (unary Inv G b)) (binary Zpow G a (minus (Lit Int 2)))
unfolding joined joined_inverse raised_runs
negative = refl

-- (a * b * a⁻¹) ^ 3 is a * b ^ 3 * a⁻¹
cube : form (binary Npow G (times (times a b) (unary Inv G a)) (Lit Nat 3)) ≡ times (times a (binary Npow G b (Lit Nat 3))) (unary Inv G a)
unfolding joined joined_inverse raised_runs
cube = refl

-- a * b and b * a are normal, and differ
first_order : form (times a b) ≡ times a b
unfolding joined
first_order = refl

second_order : form (times b a) ≡ times b a
unfolding joined
second_order = refl

-- a * a * b⁻¹ * b⁻¹ is a ^ 2 * b ^ -2
twice : form (times (times (times a a) (unary Inv G b)) (unary Inv G b)) ≡ times (binary Npow G a (Lit Nat 2)) (binary Zpow G b (minus (Lit Int 2)))
unfolding joined joined_inverse
twice = refl

-- (a * b) ^ 8193 is too long, (a * b) ^ 8192 isn't
long : has_long number (binary Npow G (times a b) (Lit Nat 8193)) ≡ true
unfolding joined
long = refl

not_long : has_long number (binary Npow G (times a b) (Lit Nat 8192)) ≡ false
unfolding joined
not_long = refl
