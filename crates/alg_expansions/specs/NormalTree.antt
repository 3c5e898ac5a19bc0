-- The tree that spells a polynomial.
use Rattle.std.specs.Prelude.{ℕ, ◌==◌, ◌&&◌, cond, List, [], ◌∷◌}
use Rattle.alg_terms.specs.declared.sorts.Sort.{Sort}
use Rattle.alg_terms.specs.declared.sorts.Sort.TheVariants.{Nat}
use Rattle.alg_terms.specs.declared.symbols.Sym.{Sym}
use Rattle.alg_terms.specs.declared.symbols.Sym.TheVariants.{Add, Mul, Neg, Sub, Div, Npow}
use Rattle.alg_terms.specs.Tree.{Tree, Lit, App, Nil, Cons}
use Rattle.alg_sums.specs.Coefficients.{Coefficients}

-- a symbol over two trees
abbrev pub binary : Sym → Sort → Tree → Tree → Tree
binary f s a b = App f s (Cons a (Cons b Nil))

-- x, or x ^ n
abbrev pub power_tree : Sort → Tree × ℕ → Tree
power_tree s p = cond (p.1 == 1) p.0 (binary Npow s p.0 (Lit Nat p.1))

-- a tree times each power, grouped to the left
abbrev pub times_powers : Sort → Tree → List (Tree × ℕ) → Tree
times_powers s t [] = t
times_powers s t (p ∷ m) = times_powers s (binary Mul s t (power_tree s p)) m

-- n, or n / d
abbrev pub quotient_tree : Sort → ℕ → ℕ → Tree
quotient_tree s n d = cond (d == 1) (Lit s n) (binary Div s (Lit s n) (Lit s d))

-- the monomial times n / d; a factor 1 isn't written
abbrev pub term_tree : Sort → List (Tree × ℕ) → ℕ → ℕ → Tree
term_tree s [] n d = quotient_tree s n d
term_tree s (p ∷ m) n d = cond ((n == 1) && (d == 1)) (times_powers s (power_tree s p) m) (binary Mul s (times_powers s (power_tree s p) m) (quotient_tree s n d))

-- a term without its sign
abbrev pub unsigned_term : {C : Type 0} → Coefficients C → Sort → List (Tree × ℕ) × C → Tree
unsigned_term r s t = term_tree s t.0 (r.top t.1) (r.bottom t.1)

-- the first term is negated as a whole
abbrev pub first_term : {C : Type 0} → Coefficients C → Sort → List (Tree × ℕ) × C → Tree
first_term r s t = cond (r.is_negative t.1) (App Neg s (Cons (unsigned_term r s t) Nil)) (unsigned_term r s t)

-- later terms are added or subtracted, grouped to the left
abbrev pub plus_terms : {C : Type 0} → Coefficients C → Sort → Tree → List (List (Tree × ℕ) × C) → Tree
plus_terms r s a [] = a
plus_terms r s a (t ∷ ts) = plus_terms r s (binary (cond (r.is_negative t.1) Sub Add) s a (unsigned_term r s t)) ts

-- the tree of a list of terms
abbrev pub normal_tree : {C : Type 0} → Coefficients C → Sort → List (List (Tree × ℕ) × C) → Tree
normal_tree r s [] = Lit s 0
normal_tree r s (t ∷ ts) = plus_terms r s (first_term r s t) ts
