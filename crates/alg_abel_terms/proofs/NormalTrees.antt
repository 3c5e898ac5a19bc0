-- The terms of the normal tree of a list are that list, and the normal form of a normal form is itself.
use Rattle.std.proofs.Common.{◌≡◌, ℕ, List, [], ◌∷◌, ◌++◌, Bool, true, false, cond, refl, ap, ap₂, sym, ◌∙◌, arith, append_assoc, append-nil, Option, Some, ℤ, pos, negsuc, neg_ℤ}
use Rattle.std.specs.Prelude.{◌==◌, unsigned_abs}
use Rattle.std.proofs.lemmas.Bool.Decides.{nat_tests}
use Rattle.alg_num.proofs.IntegerLaws.{*ℤ-pos_one}
use Rattle.alg_terms.specs.declared.sorts.Sort.{Sort}
use Rattle.alg_terms.specs.declared.sorts.Sort.TheVariants.{Nat}
use Rattle.alg_terms.specs.declared.symbols.Sym.TheVariants.{Add, Neg, Sub, Nsmul}
use Rattle.alg_terms.specs.Tree.{Tree, Lit, App, Nil, Cons}
use Rattle.alg_terms.specs.Order.{tree_cmp}
use Rattle.alg_sums.specs.Sum.{AllTerms, negated, IsNormal, normal_of}
use Rattle.alg_sums.proofs.TreeOrder.{tree_cmp-IsStrict}
use Rattle.alg_sums.proofs.Normal.{normal_of-itself, normal_of-IsNormal}
use Rattle.alg_sums.specs.Rational.{negative}
use Rattle.alg_sums.specs.Integers.{integers}
use Rattle.alg_expansions.specs.NormalTree.{binary}
use Rattle.alg_abel_terms.specs.Combination.{multiple_or, terms, combination}
use Rattle.alg_abel_terms.specs.NormalTree.{unsigned_term, first_term, plus_terms, normal_tree, normal_form}
use Rattle.alg_abel_terms.proofs.Terms.{IsAtom, IsTerm, combination_settled}

one_by : (n : ℕ) → (n == 1) ≡ true → n ≡ 1
one_by n e = grind (arith, nat_tests, e)

abbrev signed : Bool → ℤ → ℤ
signed b z = cond b (neg_ℤ z) z

read : (z : ℤ) → signed (negative z) (pos (unsigned_abs z)) ≡ z
read (pos n) = refl
read (negsuc n) = refl

-- a literal of ℕ has its number
module _ (value : Tree → Option ℤ) (literal : (n : ℕ) → value (Lit Nat n) ≡ Some (pos n)) (s : Sort) where
  multiple_cases : (a : Tree) (n : ℕ) (b : Bool) → (n == 1) ≡ b → IsAtom value a → terms value (cond b a (binary Nsmul s (Lit Nat n) a)) ≡ (a, pos n) ∷ []
  multiple_cases a n true e h = h ∙ ap (λ m. (a, pos m) ∷ []) (sym (one_by n e))
  multiple_cases a n false e h = ap₂ (multiple_or (binary Nsmul s (Lit Nat n) a)) h (literal n) ∙ ap (λ z. (a, z) ∷ []) (*ℤ-pos_one (pos n))

  terms-unsigned : (t : Tree × ℤ) → IsTerm value t → terms value (unsigned_term s t) ≡ (t.0, pos (unsigned_abs t.1)) ∷ []
  terms-unsigned t h = multiple_cases t.0 (unsigned_abs t.1) (unsigned_abs t.1 == 1) refl h

  first_cases : (t : Tree × ℤ) (b : Bool) → IsTerm value t → terms value (cond b (App Neg s (Cons (unsigned_term s t) Nil)) (unsigned_term s t)) ≡ (t.0, signed b (pos (unsigned_abs t.1))) ∷ []
  unfolding integers
  first_cases t true h = ap (negated integers) (terms-unsigned t h)
  first_cases t false h = terms-unsigned t h

  terms-first_term : (t : Tree × ℤ) → IsTerm value t → terms value (first_term s t) ≡ t ∷ []
  terms-first_term t h = first_cases t (negative t.1) h ∙ ap (λ z. (t.0, z) ∷ []) (read t.1)

  later_cases : (a : Tree) (t : Tree × ℤ) (b : Bool) → IsTerm value t → terms value (binary (cond b Sub Add) s a (unsigned_term s t)) ≡ terms value a ++ (t.0, signed b (pos (unsigned_abs t.1))) ∷ []
  unfolding integers
  later_cases a t true h = ap (λ p. terms value a ++ negated integers p) (terms-unsigned t h)
  later_cases a t false h = ap (λ p. terms value a ++ p) (terms-unsigned t h)

  terms-plus_terms : (a : Tree) (ts : List (Tree × ℤ)) → AllTerms (IsTerm value) ts → terms value (plus_terms s a ts) ≡ terms value a ++ ts
  terms-plus_terms a [] h = sym (append-nil (terms value a))
  terms-plus_terms a (t ∷ ts) h =
      terms-plus_terms (binary (cond (negative t.1) Sub Add) s a (unsigned_term s t)) ts h.1
      ∙ ap (λ p. p ++ ts) (later_cases a t (negative t.1) h.0 ∙ ap (λ z. terms value a ++ (t.0, z) ∷ []) (read t.1))
      ∙ append_assoc (terms value a) (t ∷ []) ts

  -- the terms of the tree are the terms
  pub terms-normal_tree : (p : List (Tree × ℤ)) → AllTerms (IsTerm value) p → terms value (normal_tree s p) ≡ p
  terms-normal_tree [] h = refl
  terms-normal_tree (t ∷ ts) h = terms-plus_terms (first_term s t) ts h.1 ∙ ap (λ p. p ++ ts) (terms-first_term t h.0)

  -- the combination of the normal tree of a list in order is that list
  pub combination-normal_tree : (p : List (Tree × ℤ)) → IsNormal integers tree_cmp p → AllTerms (IsTerm value) p → combination value (normal_tree s p) ≡ p
  combination-normal_tree p n h = ap (normal_of integers tree_cmp) (terms-normal_tree p h) ∙ normal_of-itself integers tree_cmp-IsStrict p n

  -- a normal form has the combination of its tree
  pub combination-normal_form : (t : Tree) → combination value (normal_form value s t) ≡ combination value t
  combination-normal_form t = combination-normal_tree (combination value t) (normal_of-IsNormal integers tree_cmp-IsStrict (terms value t)) (combination_settled value t)

  -- the normal form of a normal form is itself
  pub normal_form-again : (t : Tree) → normal_form value s (normal_form value s t) ≡ normal_form value s t
  normal_form-again t = ap (normal_tree s) (combination-normal_form t)

  -- normal lists of one tree are one list
  pub normal_tree_apart : (p q : List (Tree × ℤ)) → IsNormal integers tree_cmp p → IsNormal integers tree_cmp q → AllTerms (IsTerm value) p → AllTerms (IsTerm value) q → normal_tree s p ≡ normal_tree s q → p ≡ q
  normal_tree_apart p q n m h i e = sym (combination-normal_tree p n h) ∙ ap (combination value) e ∙ combination-normal_tree q m i
