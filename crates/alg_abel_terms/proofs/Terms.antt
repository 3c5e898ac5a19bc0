-- The atoms of a combination are their own only terms.
use Rattle.std.proofs.Common.{◌≡◌, zero, List, [], ◌∷◌, refl, sym, subst, Option, Some, None, ℤ}
use Rattle.alg_terms.specs.declared.symbols.Sym.TheVariants.{Add, Neg, Sub, Nsmul, Zsmul}
use Rattle.alg_terms.specs.Tree.{Tree, Lit, App, Nil, Cons}
use Rattle.alg_terms.specs.Order.{tree_cmp}
use Rattle.alg_sums.specs.Sum.{negated, AllTerms}
use Rattle.alg_sums.proofs.Terms.{AllTerms-append, AllTerms-normal_of}
use Rattle.alg_sums.specs.Integers.{integers}
use Rattle.alg_abel_terms.specs.Combination.{atom, multiplied, multiple_or, terms, combination}

-- a tree that is its own only term
abbrev pub IsAtom : (Tree → Option ℤ) → Tree → Type 0
IsAtom value a = terms value a ≡ atom a

-- the term is one of such a tree
abbrev pub IsTerm : (Tree → Option ℤ) → Tree × ℤ → Type 0
IsTerm value t = IsAtom value t.0

module _ (value : Tree → Option ℤ) where
  negated_kept : (p : List (Tree × ℤ)) → AllTerms (IsTerm value) p → AllTerms (IsTerm value) (negated integers p)
  negated_kept [] h = tt
  negated_kept (t ∷ p) h = (h.0, negated_kept p h.1)

  multiplied_kept : (k : ℤ) (p : List (Tree × ℤ)) → AllTerms (IsTerm value) p → AllTerms (IsTerm value) (multiplied k p)
  multiplied_kept k [] h = tt
  multiplied_kept k (t ∷ p) h = (h.0, multiplied_kept k p h.1)

  atom_kept : (a : Tree) → IsAtom value a → AllTerms (IsTerm value) (terms value a)
  atom_kept a e = subst (AllTerms (IsTerm value)) (sym e) (e, tt)

  multiple_kept : (a : Tree) (p : List (Tree × ℤ)) (o : Option ℤ) → terms value a ≡ multiple_or a p o → AllTerms (IsTerm value) p → AllTerms (IsTerm value) (multiple_or a p o)
  multiple_kept a p (Some k) e h = multiplied_kept k p h
  multiple_kept a p None e h = (e, tt)

  pub terms_settled : (t : Tree) → AllTerms (IsTerm value) (terms value t)
  terms_settled (Lit s zero) = tt
  terms_settled (App Add s (Cons a (Cons b Nil))) = AllTerms-append (IsTerm value) (terms value a) (terms value b) (terms_settled a) (terms_settled b)
  terms_settled (App Sub s (Cons a (Cons b Nil))) = AllTerms-append (IsTerm value) (terms value a) (negated integers (terms value b)) (terms_settled a) (negated_kept (terms value b) (terms_settled b))
  terms_settled (App Neg s (Cons a Nil)) = negated_kept (terms value a) (terms_settled a)
  terms_settled (App Nsmul s (Cons k (Cons a Nil))) = multiple_kept (App Nsmul s (Cons k (Cons a Nil))) (terms value a) (value k) refl (terms_settled a)
  terms_settled (App Zsmul s (Cons k (Cons a Nil))) = multiple_kept (App Zsmul s (Cons k (Cons a Nil))) (terms value a) (value k) refl (terms_settled a)
  terms_settled t = (refl, tt)

  pub combination_settled : (t : Tree) → AllTerms (IsTerm value) (combination value t)
  combination_settled t = AllTerms-normal_of integers tree_cmp (IsTerm value) (λ a b h i. i) (terms value t) (terms_settled t)
