-- The trees of whole numbers and of fractions.
use Rattle.std.specs.Prelude.{ℕ, suc, ℤ, pos, negsuc, nat_eq, if◌then◌else◌}
use Rattle.alg_terms.specs.declared.sorts.Sort.{Sort}
use Rattle.alg_terms.specs.declared.symbols.Sym.TheVariants.{Neg, Div}
use Rattle.alg_terms.specs.Tree.{Tree, Lit, App, Nil, Cons}
use Rattle.alg_num.specs.Fraction.{Fraction}

abbrev pub negation_of : Sort → Tree → Tree
negation_of s x = App Neg s (Cons x Nil)

-- n or -n
unfoldable pub whole_tree : Sort → ℤ → Tree
whole_tree s (pos n) = Lit s n
whole_tree s (negsuc n) = negation_of s (Lit s (suc n))

-- over 1 the tree itself
abbrev pub over_denominator : Sort → Tree → ℕ → Tree
over_denominator s x d = if nat_eq d 1 then x else App Div s (Cons x (Cons (Lit s d) Nil))

-- n, -n, n / d or (-n) / d: what is left in a goal
abbrev pub numeral_tree : Sort → Fraction → Tree
numeral_tree s p = over_denominator s (whole_tree s p.numerator) p.denominator

abbrev pub signed_over : Sort → ℤ → ℕ → Tree
signed_over s (pos n) d = over_denominator s (Lit s n) d
signed_over s (negsuc n) d = negation_of s (over_denominator s (Lit s (suc n)) d)

-- n, -n, n / d or -(n / d): the sign outside, as it is computed with
abbrev pub signed_tree : Sort → Fraction → Tree
signed_tree s p = signed_over s p.numerator p.denominator
