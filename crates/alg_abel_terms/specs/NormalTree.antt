-- The tree that spells a combination.
use Rattle.std.specs.Prelude.{ℕ, ◌==◌, cond, List, [], ◌∷◌, Option, ℤ, unsigned_abs}
use Rattle.alg_terms.specs.declared.sorts.Sort.{Sort}
use Rattle.alg_terms.specs.declared.sorts.Sort.TheVariants.{Nat}
use Rattle.alg_terms.specs.declared.symbols.Sym.TheVariants.{Add, Neg, Sub, Nsmul}
use Rattle.alg_terms.specs.Tree.{Tree, Lit, App, Nil, Cons}
use Rattle.alg_sums.specs.Rational.{negative}
use Rattle.alg_expansions.specs.NormalTree.{binary}
use Rattle.alg_abel_terms.specs.Combination.{combination}

-- x, or n • x
abbrev pub multiple_tree : Sort → Tree → ℕ → Tree
multiple_tree s a n = cond (n == 1) a (binary Nsmul s (Lit Nat n) a)

-- a term without its sign
abbrev pub unsigned_term : Sort → Tree × ℤ → Tree
unsigned_term s t = multiple_tree s t.0 (unsigned_abs t.1)

-- the first term is negated as a whole
abbrev pub first_term : Sort → Tree × ℤ → Tree
first_term s t = cond (negative t.1) (App Neg s (Cons (unsigned_term s t) Nil)) (unsigned_term s t)

-- later terms are added or subtracted, grouped to the left
abbrev pub plus_terms : Sort → Tree → List (Tree × ℤ) → Tree
plus_terms s a [] = a
plus_terms s a (t ∷ ts) = plus_terms s (binary (cond (negative t.1) Sub Add) s a (unsigned_term s t)) ts

-- the tree of a list of terms
abbrev pub normal_tree : Sort → List (Tree × ℤ) → Tree
normal_tree s [] = Lit s 0
normal_tree s (t ∷ ts) = plus_terms s (first_term s t) ts

-- the normal form of a tree of this sort: the tree of its combination
abbrev pub normal_form : (Tree → Option ℤ) → Sort → Tree → Tree
normal_form value s t = normal_tree s (combination value t)
