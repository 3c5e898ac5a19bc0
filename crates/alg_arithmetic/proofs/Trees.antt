-- The trees of numerals are those with which lines compute.
use Rattle.std.proofs.Common.{◌≡◌, ℕ, zero, suc, ℤ, pos, negsuc, false, List, [], ◌∷◌, refl, ap, ap₂, sym, ◌∙◌, subst, nat_eq, arith}
use Rattle.std.specs.Prelude.{if◌then◌else◌, IfOk, Result, Ok, Err}
use Rattle.std.proofs.lemmas.Bool.Decides.{nat_tests}
use Rattle.alg_terms.specs.declared.sorts.Sort.{Sort}
use Rattle.alg_terms.specs.declared.symbols.Sym.TheVariants.{Div}
use Rattle.alg_terms.specs.declared.symbols.Sym.{Sym}
use Rattle.alg_terms.specs.Tree.{Tree, Lit, App, Cons, Nil, of_list}
use Rattle.alg_num.specs.Fraction.{Fraction}
use Rattle.alg_build.specs.Book.{Book}
use Rattle.alg_build.specs.Rewriting.{Turns}
use Rattle.alg_build.specs.declared.rewriting.Rewriting.{Rewriting}
use Rattle.alg_rows.specs.Operations.{negation_tree}
use Rattle.alg_numerals.specs.WholeTree as lines
use Rattle.alg_fractions.specs.NumeralTree as fraction
use Rattle.alg_values.specs.Numerals as value
use Rattle.alg_arithmetic.specs.Evaluating.{signed_trees}
use Rattle.alg_arithmetic.specs.Operands.{operands}

same_whole : (s : Sort) (z : ℤ) → lines.whole_tree s z ≡ value.whole_tree s z
unfolding lines.whole_tree value.whole_tree
same_whole s (pos n) = refl
same_whole s (negsuc n) = refl

other_than_one : (d : ℕ) → nat_eq (suc (suc d)) 1 ≡ false
other_than_one d = grind (arith, nat_tests)

same_over : (s : Sort) (x : Tree) (d : ℕ) → fraction.over_denominator s x d ≡ value.over_denominator s x d
unfolding fraction.over_denominator
same_over s x zero = refl
same_over s x (suc zero) = refl
same_over s x (suc (suc d)) = ap (λ t. if t then x else App Div s (Cons x (Cons (Lit s (suc (suc d))) Nil))) (sym (other_than_one d))

same_signed_over : (s : Sort) (z : ℤ) (d : ℕ) → fraction.signed_over s z d ≡ value.signed_over s z d
unfolding fraction.signed_over
same_signed_over s (pos n) d = same_over s (Lit s n) d
same_signed_over s (negsuc n) d = ap (negation_tree s) (same_over s (Lit s (suc n)) d)

pub same_signed : (s : Sort) (p : Fraction) → fraction.signed_tree s p ≡ value.signed_tree s p
same_signed s p = same_signed_over s p.numerator p.denominator

pub same_numeral : (s : Sort) (p : Fraction) → fraction.numeral_tree s p ≡ value.numeral_tree s p
same_numeral s p = same_over s (lines.whole_tree s p.numerator) p.denominator ∙ ap (λ x. value.over_denominator s x p.denominator) (same_whole s p.numerator)

same_operands : (ss : List Sort) (ps : List Fraction) → operands ss ps ≡ signed_trees ss ps
same_operands [] ps = refl
same_operands (s ∷ ss) [] = refl
same_operands (s ∷ ss) (p ∷ ps) = ap₂ (λ x xs. x ∷ xs) (same_signed s p) (same_operands ss ps)

-- rewritings between trees that are other trees

turns_along : (b : Book) (s : Sort) (r : Rewriting) (t u v w : Tree) → t ≡ v → u ≡ w → Turns b s r t u → Turns b s r v w
turns_along b s r t u v w e f h = subst (λ x. Turns b s r x w) e (subst (λ x. Turns b s r t x) f h)

operation_turns : (b : Book) (s : Sort) (f : Sym) (r : Rewriting) (ss : List Sort) (ps : List Fraction) (z : Fraction) → Turns b s r (App f s (of_list (operands ss ps))) (fraction.signed_tree s z) → Turns b s r (App f s (of_list (signed_trees ss ps))) (value.signed_tree s z)
operation_turns b s f r ss ps z h = turns_along b s r _ _ _ _ (ap (λ xs. App f s (of_list xs)) (same_operands ss ps)) (same_signed s z) h

pub operation_answers : (E : Type 0) (b : Book) (s : Sort) (f : Sym) (ss : List Sort) (ps qs : List Fraction) (z : Fraction) (o : Result Rewriting E) → ps ≡ qs → IfOk o (λ r. Turns b s r (App f s (of_list (operands ss qs))) (fraction.signed_tree s z)) → IfOk o (λ r. Turns b s r (App f s (of_list (signed_trees ss ps))) (value.signed_tree s z))
operation_answers E b s f ss ps qs z (Ok r) e h = subst (λ xs. Turns b s r (App f s (of_list (signed_trees ss xs))) (value.signed_tree s z)) (sym e) (operation_turns b s f r ss qs z h)
operation_answers E b s f ss ps qs z (Err x) e h = tt
