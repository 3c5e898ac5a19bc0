-- The tree of a whole number.
use Rattle.std.specs.Prelude.{suc, ℤ, pos, negsuc}
use Rattle.alg_terms.specs.declared.sorts.Sort.{Sort}
use Rattle.alg_terms.specs.Tree.{Tree, Lit}
use Rattle.alg_rows.specs.Operations.{negation_tree}

-- a literal, or a negated one
unfoldable pub whole_tree : Sort → ℤ → Tree
whole_tree s (pos n) = Lit s n
whole_tree s (negsuc n) = negation_tree s (Lit s (suc n))
