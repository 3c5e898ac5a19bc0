-- The numerals of values are those with which lines compute.
use Rattle.std.proofs.Common.{◌≡◌, ℕ, zero, suc, ℤ, pos, negsuc, false, refl, ap, sym, ◌∙◌, nat_eq, arith}
use Rattle.std.specs.Prelude.{if◌then◌else◌}
use Rattle.std.proofs.lemmas.Bool.Decides.{nat_tests}
use Rattle.alg_terms.specs.declared.sorts.Sort.{Sort}
use Rattle.alg_terms.specs.declared.symbols.Sym.TheVariants.{Div}
use Rattle.alg_terms.specs.Tree.{Tree, Lit, App, Cons, Nil}
use Rattle.alg_num.specs.Fraction.{Fraction}
use Rattle.alg_numerals.specs.WholeTree as lines
use Rattle.alg_fractions.specs.NumeralTree as fraction
use Rattle.alg_values.specs.Numerals as value

same_whole : (s : Sort) (z : ℤ) → lines.whole_tree s z ≡ value.whole_tree s z
unfolding lines.whole_tree value.whole_tree
same_whole s (pos n) = refl
same_whole s (negsuc n) = refl

other_than_one : (d : ℕ) → nat_eq (suc (suc d)) 1 ≡ false
other_than_one d = grind (arith, nat_tests)

same_over : (s : Sort) (x : Tree) (d : ℕ) → fraction.over_denominator s x d ≡ value.over_denominator s x d
unfolding fraction.over_denominator
same_over s x zero = refl
same_over s x (suc zero) = refl
same_over s x (suc (suc d)) = ap (λ t. if t then x else App Div s (Cons x (Cons (Lit s (suc (suc d))) Nil))) (sym (other_than_one d))

pub same_numeral : (s : Sort) (p : Fraction) → fraction.numeral_tree s p ≡ value.numeral_tree s p
same_numeral s p = same_over s (lines.whole_tree s p.numerator) p.denominator ∙ ap (λ x. value.over_denominator s x p.denominator) (same_whole s p.numerator)
