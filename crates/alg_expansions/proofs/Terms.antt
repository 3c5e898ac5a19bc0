-- What holds of the terms of an expansion: sums, products and powers have it again.
use Rattle.std.proofs.Common.{◌≡◌, ℕ, zero, suc, List, [], ◌∷◌, Bool, true, false, sym, subst, ◌∙◌, arith}
use Rattle.alg_terms.specs.Tree.{Tree}
use Rattle.alg_terms.specs.Order.{tree_cmp}
use Rattle.alg_sums.specs.Coefficients.{Coefficients}
use Rattle.alg_sums.specs.Monomial.{IsMonomial, times}
use Rattle.alg_sums.specs.Sum.{AllTerms, negated, scaled}
use Rattle.alg_sums.proofs.Sizes.{bottom_plus, bottom_times}
use Rattle.alg_sums.proofs.Terms.{AllTerms-append}
use Rattle.alg_sums.proofs.TreeOrder.{tree_cmp-IsStrict}
use Rattle.alg_sums.proofs.Monomials.{times-IsMonomial}
use Rattle.alg_expansions.specs.Setting.{Setting}
use Rattle.alg_expansions.specs.Expansion.{atom, constant, product, to_power, expansion}

-- a tree that is its own only term
abbrev pub IsAtom : {C : Type 0} → Coefficients C → Setting → Tree → Type 0
IsAtom r k a = expansion r k a ≡ atom r a

module _ {C : Type 0} (r : Coefficients C) where
  -- whole where inverses are not exact, and not negative where nothing is negated
  pub record IsSpelled (exact signed : Bool) (c : C) : Type 0 where
    pub whole : exact ≡ false → r.bottom c ≡ 1
    pub positive : signed ≡ false → r.is_negative c ≡ false

  -- ---- terms over atoms that meet G
  module _ (exact signed : Bool) (G : Tree → Type 0) where
    abbrev pub IsTerm : List (Tree × ℕ) × C → Type 0
    IsTerm t = IsMonomial tree_cmp G t.0 × IsSpelled exact signed t.1

    number_spelled : (n : ℕ) → IsSpelled exact signed (r.number n)
    number_spelled n = record { whole = λ e. r.bottom_number n; positive = λ e. r.positive_number n }

    one_spelled : IsSpelled exact signed r.one
    one_spelled = subst (IsSpelled exact signed) r.number_one (number_spelled 1)

    times_spelled : (a b : C) → IsSpelled exact signed a → IsSpelled exact signed b → IsSpelled exact signed (r.times a b)
    times_spelled a b h i = record { whole = λ e. bottom_times r a b (h.whole e) (i.whole e); positive = λ e. r.positive_times a b (h.positive e) (i.positive e) }

    minus_spelled : (a : C) → signed ≡ true → IsSpelled exact signed a → IsSpelled exact signed (r.minus a)
    minus_spelled a g h = record { whole = λ e. r.bottom_minus a ∙ h.whole e; positive = λ e. let f : true ≡ false = sym g ∙ e in cc }

    pub sum_term : (t u : List (Tree × ℕ) × C) → IsTerm t → IsTerm u → IsTerm (u.0, r.plus t.1 u.1)
    sum_term t u h i = (i.0, record { whole = λ e. bottom_plus r t.1 u.1 (h.1.whole e) (i.1.whole e); positive = λ e. r.positive_plus t.1 u.1 (h.1.positive e) (i.1.positive e) })

    pub negated_terms : (p : List (List (Tree × ℕ) × C)) → signed ≡ true → AllTerms IsTerm p → AllTerms IsTerm (negated r p)
    negated_terms [] g h = tt
    negated_terms (t ∷ p) g h = ((h.0.0, minus_spelled t.1 g h.0.1), negated_terms p g h.1)

    scaled_terms : (t : List (Tree × ℕ) × C) (q : List (List (Tree × ℕ) × C)) → IsTerm t → AllTerms IsTerm q → AllTerms IsTerm (scaled r (times tree_cmp) t q)
    scaled_terms t [] h i = tt
    scaled_terms t (u ∷ q) h i = ((times-IsMonomial tree_cmp tree_cmp-IsStrict G t.0 u.0 h.0 i.0.0, times_spelled t.1 u.1 h.1 i.0.1), scaled_terms t q h i.1)

    pub product_terms : (p q : List (List (Tree × ℕ) × C)) → AllTerms IsTerm p → AllTerms IsTerm q → AllTerms IsTerm (product r p q)
    product_terms [] q h i = tt
    product_terms (t ∷ p) q h i = AllTerms-append IsTerm (scaled r (times tree_cmp) t q) (product r p q) (scaled_terms t q h.0 i) (product_terms p q h.1 i)

    pub to_power_terms : (p : List (List (Tree × ℕ) × C)) (n : ℕ) → AllTerms IsTerm p → AllTerms IsTerm (to_power r p n)
    to_power_terms p zero h = ((tt, one_spelled), tt)
    to_power_terms p (suc n) h = product_terms (to_power r p n) p (to_power_terms p n h) h

    pub number_terms : (n : ℕ) → AllTerms IsTerm (constant (r.number n))
    number_terms n = ((tt, number_spelled n), tt)

    pub atom_terms : (a : Tree) → G a → AllTerms IsTerm (atom r a)
    atom_terms a g = (((tt, omega arith, g, tt), one_spelled), tt)
