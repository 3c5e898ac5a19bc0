-- The trees of fractions: `n`, `-n`, `n / d` and, with its sign outside or inside, `-(n / d)` or `-n / d`.
use Rattle.std.specs.Prelude.{ℕ, zero, suc, ℤ, pos, negsuc}
use Rattle.alg_terms.specs.declared.sorts.Sort.{Sort}
use Rattle.alg_terms.specs.Tree.{Tree, Lit}
use Rattle.alg_num.specs.Fraction.{Fraction}
use Rattle.alg_rows.specs.Operations.{negation_tree, quotient_tree}
use Rattle.alg_numerals.specs.WholeTree.{whole_tree}

-- n / d
abbrev pub ratio_tree : Sort → ℕ → ℕ → Tree
ratio_tree s n d = quotient_tree s (Lit s n) (Lit s d)

-- the tree over the denominator, which isn't written where it is 1
unfoldable pub over_denominator : Sort → Tree → ℕ → Tree
over_denominator s x zero = quotient_tree s x (Lit s 0)
over_denominator s x (suc zero) = x
over_denominator s x (suc (suc d)) = quotient_tree s x (Lit s (suc (suc d)))

-- a fraction that isn't below 0
abbrev pub size_tree : Sort → ℕ → ℕ → Tree
size_tree s n d = over_denominator s (Lit s n) d

unfoldable pub signed_over : Sort → ℤ → ℕ → Tree
signed_over s (pos n) d = size_tree s n d
signed_over s (negsuc n) d = negation_tree s (size_tree s (suc n) d)

-- the sign outside: `-(n / d)`. This is the form in which procedures compute
abbrev pub signed_tree : Sort → Fraction → Tree
signed_tree s q = signed_over s q.numerator q.denominator

-- the sign inside: `-n / d`. This is the numeral that users read
abbrev pub numeral_tree : Sort → Fraction → Tree
numeral_tree s q = over_denominator s (whole_tree s q.numerator) q.denominator
