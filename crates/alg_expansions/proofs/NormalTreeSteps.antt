-- Normal trees from the front: one factor, one term more.
use Rattle.std.proofs.Common.{◌≡◌, ℕ, List, [], ◌∷◌, ◌++◌, cond, refl}
use Rattle.alg_terms.specs.declared.sorts.Sort.{Sort}
use Rattle.alg_terms.specs.declared.symbols.Sym.TheVariants.{Add, Mul, Sub}
use Rattle.alg_terms.specs.Tree.{Tree}
use Rattle.alg_sums.specs.Coefficients.{Coefficients}
use Rattle.alg_expansions.specs.NormalTree.{binary, power_tree, times_powers, unsigned_term, first_term, plus_terms, normal_tree}

-- a tree times one power more
pub times_powers-push : (s : Sort) (t : Tree) (m : List (Tree × ℕ)) (p : Tree × ℕ) → times_powers s t (m ++ p ∷ []) ≡ binary Mul s (times_powers s t m) (power_tree s p)
times_powers-push s t [] p = refl
times_powers-push s t (q ∷ m) p = times_powers-push s (binary Mul s t (power_tree s q)) m p

module _ {C : Type 0} (r : Coefficients C) (s : Sort) where
  plus_terms-push : (a : Tree) (ts : List (List (Tree × ℕ) × C)) (t : List (Tree × ℕ) × C) → plus_terms r s a (ts ++ t ∷ []) ≡ binary (cond (r.is_negative t.1) Sub Add) s (plus_terms r s a ts) (unsigned_term r s t)
  plus_terms-push a [] t = refl
  plus_terms-push a (u ∷ ts) t = plus_terms-push (binary (cond (r.is_negative u.1) Sub Add) s a (unsigned_term r s u)) ts t

  -- a term after others
  pub normal_tree-push : (u : List (Tree × ℕ) × C) (ts : List (List (Tree × ℕ) × C)) (t : List (Tree × ℕ) × C) → normal_tree r s ((u ∷ ts) ++ t ∷ []) ≡ binary (cond (r.is_negative t.1) Sub Add) s (normal_tree r s (u ∷ ts)) (unsigned_term r s t)
  normal_tree-push u ts t = plus_terms-push (first_term r s u) ts t
