-- The expansion of the normal tree of a list is that list.
use Rattle.std.proofs.Common.{◌≡◌, ℕ, zero, suc, pred, ◌<◌, List, [], ◌∷◌, ◌++◌, Bool, true, false, cond, refl, ap, ap₂, sym, subst, ◌∙◌, arith, append_assoc, append-nil, Some, None}
use Rattle.std.specs.Prelude.{◌==◌, ◌&&◌}
use Rattle.std.proofs.lemmas.Bool.{and_parts}
use Rattle.std.proofs.lemmas.Bool.Decides.{nat_tests}
use Rattle.alg_terms.specs.declared.sorts.Sort.{Sort}
use Rattle.alg_terms.specs.declared.sorts.Sort.TheVariants.{Nat}
use Rattle.alg_terms.specs.declared.symbols.Sym.TheVariants.{Add, Mul, Neg, Sub, Inv, Div, Npow}
use Rattle.alg_terms.specs.Tree.{Tree, Lit, App, Nil, Cons}
use Rattle.alg_terms.specs.Order.{tree_cmp}
use Rattle.alg_sums.specs.Coefficients.{Coefficients}
use Rattle.alg_sums.specs.Monomial.{IsAfter, IsMonomial, times, monomial_cmp}
use Rattle.alg_sums.specs.Sum.{AllTerms, negated, IsNormal, normal_of}
use Rattle.alg_expansions.specs.Expansion.{atom, constant, product, to_power, inverse_or, expansion, polynomial}
use Rattle.alg_expansions.specs.Setting.{Setting}
use Rattle.alg_expansions.specs.NormalTree.{binary, power_tree, times_powers, quotient_tree, term_tree, unsigned_term, first_term, plus_terms, normal_tree}
use Rattle.alg_sums.proofs.TreeOrder.{tree_cmp-IsStrict}
use Rattle.alg_sums.proofs.Monomials.{times-append, times-nil, times-one, monomial_cmp-IsStrict}
use Rattle.alg_sums.proofs.Normal.{normal_of-itself, normal_of-nil}
use Rattle.alg_expansions.proofs.Terms.{IsAtom, IsTerm}

one_by : (n : ℕ) → (n == 1) ≡ true → n ≡ 1
one_by n e = grind (arith, nat_tests, e)

-- ---- prepared_arguments of a monomial
after_prefix : (a : Tree) (u v : List (Tree × ℕ)) → IsAfter tree_cmp a (u ++ v) → IsAfter tree_cmp a u
after_prefix a [] v h = tt
after_prefix a (p ∷ u) v h = (h.0, after_prefix a u v h.1)

monomial_prefix : (G : Tree → Type 0) (u v : List (Tree × ℕ)) → IsMonomial tree_cmp G (u ++ v) → IsMonomial tree_cmp G u
monomial_prefix G [] v h = tt
monomial_prefix G (p ∷ u) v h = (after_prefix p.0 u v h.0, h.1, h.2, monomial_prefix G u v h.3)

monomial_suffix : (G : Tree → Type 0) (u v : List (Tree × ℕ)) → IsMonomial tree_cmp G (u ++ v) → IsMonomial tree_cmp G v
monomial_suffix G [] v h = h
monomial_suffix G (p ∷ u) v h = monomial_suffix G u v h.3

module _ {C : Type 0} (r : Coefficients C) where
  one_term : (m n : List (Tree × ℕ)) (c d : C) → m ≡ n → c ≡ d → ◌≡◌ {A = List (List (Tree × ℕ) × C)} ((m, c) ∷ []) ((n, d) ∷ [])
  one_term m n c d e f = ap₂ (λ x y. (x, y) ∷ []) e f

  one_times : (a : C) → r.times r.one a ≡ a
  one_times a = r.times_comm r.one a ∙ r.times_one a

  -- ---- a power of an atom
  pub to_power-atom : (a : Tree) (n : ℕ) → to_power r (atom r a) (suc n) ≡ ((a, suc n) ∷ [], r.one) ∷ []
  to_power-atom a zero = one_term ((a, 1) ∷ []) ((a, 1) ∷ []) (r.times r.one r.one) r.one refl (r.times_one r.one)
  to_power-atom a (suc n) =
      ap (λ p. product r p (atom r a)) (to_power-atom a n)
      ∙ one_term (times tree_cmp ((a, suc n) ∷ []) ((a, 1) ∷ [])) ((a, suc (suc n)) ∷ []) (r.times r.one r.one) r.one (times-one tree_cmp tree_cmp-IsStrict a n) (r.times_one r.one)

  module _ (k : Setting) (s : Sort) (signs : Bool) (G : Tree → Type 0) (g : (a : Tree) → G a → IsAtom r k a) where
    power_cases : (p : Tree × ℕ) (b : Bool) → (p.1 == 1) ≡ b → 0 < p.1 → G p.0 → expansion r k (cond b p.0 (binary Npow s p.0 (Lit Nat p.1))) ≡ (p ∷ [], r.one) ∷ []
    power_cases p true e h i = g p.0 i ∙ ap (λ n. ((p.0, n) ∷ [], r.one) ∷ []) (sym (one_by p.1 e))
    power_cases p false e h i =
        let n : p.1 ≡ suc (pred p.1) = omega arith in
        ap₂ (to_power r) (g p.0 i) n ∙ to_power-atom p.0 (pred p.1) ∙ ap (λ k. ((p.0, k) ∷ [], r.one) ∷ []) (sym n)

    expansion-power_tree : (p : Tree × ℕ) → 0 < p.1 → G p.0 → expansion r k (power_tree s p) ≡ (p ∷ [], r.one) ∷ []
    expansion-power_tree p h i = power_cases p (p.1 == 1) refl h i

    one_more : (t : Tree) (u m : List (Tree × ℕ)) (p : Tree × ℕ) → expansion r k t ≡ (u, r.one) ∷ [] → IsMonomial tree_cmp G (u ++ p ∷ m) → expansion r k (binary Mul s t (power_tree s p)) ≡ (u ++ p ∷ [], r.one) ∷ []
    one_more t u m p e h =
        let k = monomial_suffix G u (p ∷ m) h in
        let n : IsMonomial tree_cmp G (u ++ p ∷ []) = monomial_prefix G (u ++ p ∷ []) m (subst (IsMonomial tree_cmp G) (sym (append_assoc u (p ∷ []) m)) h) in
        ap₂ (product r) e (expansion-power_tree p k.1 k.2)
        ∙ one_term (times tree_cmp u (p ∷ [])) (u ++ p ∷ []) (r.times r.one r.one) r.one (times-append tree_cmp tree_cmp-IsStrict G u (p ∷ []) n) (r.times_one r.one)

    expansion-times_powers : (t : Tree) (u m : List (Tree × ℕ)) → expansion r k t ≡ (u, r.one) ∷ [] → IsMonomial tree_cmp G (u ++ m) → expansion r k (times_powers s t m) ≡ (u ++ m, r.one) ∷ []
    expansion-times_powers t u [] e h = e ∙ ap (λ v. (v, r.one) ∷ []) (sym (append-nil u))
    expansion-times_powers t u (p ∷ m) e h =
        let a : (u ++ p ∷ []) ++ m ≡ u ++ p ∷ m = append_assoc u (p ∷ []) m in
        expansion-times_powers (binary Mul s t (power_tree s p)) (u ++ p ∷ []) m (one_more t u m p e h) (subst (IsMonomial tree_cmp G) (sym a) h)
        ∙ ap (λ v. (v, r.one) ∷ []) a

    expansion-monomial : (p : Tree × ℕ) (m : List (Tree × ℕ)) → IsMonomial tree_cmp G (p ∷ m) → expansion r k (times_powers s (power_tree s p) m) ≡ (p ∷ m, r.one) ∷ []
    expansion-monomial p m h = expansion-times_powers (power_tree s p) (p ∷ []) m (expansion-power_tree p h.1 h.2) h

    -- ---- a coefficient
    quotient : ℕ → ℕ → C
    quotient n d = r.times (r.number n) (r.inverse (r.number d))

    over_one : (n d : ℕ) → d ≡ 1 → quotient n d ≡ r.number n
    unfolding quotient
    over_one n d e = ap (λ x. r.times (r.number n) (r.inverse x)) (ap r.number e ∙ r.number_one) ∙ ap (r.times (r.number n)) r.inverse_one ∙ r.times_one (r.number n)

    exact_quotient : (b : Bool) (n d : ℕ) → k.is_exact s ≡ b → (d == 1) ≡ false → (b ≡ false → d ≡ 1) → product r (constant (r.number n)) (inverse_or r (App Inv s (Cons (Lit s d) Nil)) (cond b (Some (r.number d)) None)) ≡ constant (quotient n d)
    unfolding quotient
    exact_quotient true n d e f w = refl
    exact_quotient false n d e f w = absurd (let k : d ≡ 1 = w refl in grind (arith, nat_tests, k, f))

    quotient_cases : (n d : ℕ) (b : Bool) → (d == 1) ≡ b → (k.is_exact s ≡ false → d ≡ 1) → expansion r k (cond b (Lit s n) (binary Div s (Lit s n) (Lit s d))) ≡ constant (quotient n d)
    quotient_cases n d true e w = ap constant (sym (over_one n d (one_by d e)))
    quotient_cases n d false e w = exact_quotient (k.is_exact s) n d refl e w

    expansion-quotient_tree : (n d : ℕ) → (k.is_exact s ≡ false → d ≡ 1) → expansion r k (quotient_tree s n d) ≡ constant (quotient n d)
    expansion-quotient_tree n d w = quotient_cases n d (d == 1) refl w

    term_cases : (p : Tree × ℕ) (m : List (Tree × ℕ)) (n d : ℕ) (b : Bool) → ((n == 1) && (d == 1)) ≡ b → IsMonomial tree_cmp G (p ∷ m) → (k.is_exact s ≡ false → d ≡ 1) → expansion r k (cond b (times_powers s (power_tree s p) m) (binary Mul s (times_powers s (power_tree s p) m) (quotient_tree s n d))) ≡ (p ∷ m, quotient n d) ∷ []
    term_cases p m n d true e h w =
        let k = and_parts (n == 1) (d == 1) e in
        expansion-monomial p m h ∙ ap (λ c. (p ∷ m, c) ∷ []) (sym (over_one n d (one_by d k.1) ∙ ap r.number (one_by n k.0) ∙ r.number_one))
    term_cases p m n d false e h w =
        ap₂ (product r) (expansion-monomial p m h) (expansion-quotient_tree n d w)
        ∙ one_term (times tree_cmp (p ∷ m) []) (p ∷ m) (r.times r.one (quotient n d)) (quotient n d) (times-nil tree_cmp tree_cmp-IsStrict G (p ∷ m) h) (one_times (quotient n d))

    expansion-term_tree : (m : List (Tree × ℕ)) (n d : ℕ) → IsMonomial tree_cmp G m → (k.is_exact s ≡ false → d ≡ 1) → expansion r k (term_tree s m n d) ≡ (m, quotient n d) ∷ []
    expansion-term_tree [] n d h w = expansion-quotient_tree n d w
    expansion-term_tree (p ∷ m) n d h w = term_cases p m n d ((n == 1) && (d == 1)) refl h w

    expansion-unsigned : (t : List (Tree × ℕ) × C) → IsTerm r (k.is_exact s) signs G t → expansion r k (unsigned_term r s t) ≡ (t.0, quotient (r.top t.1) (r.bottom t.1)) ∷ []
    expansion-unsigned t h = expansion-term_tree t.0 (r.top t.1) (r.bottom t.1) h.0 h.1.whole

    -- ---- signs
    abbrev signed : Bool → C → C
    signed b c = cond b (r.minus c) c

    read : (c : C) → signed (r.is_negative c) (quotient (r.top c) (r.bottom c)) ≡ c
    unfolding quotient
    read c = r.read c

    first_cases : (t : List (Tree × ℕ) × C) (b : Bool) → IsTerm r (k.is_exact s) signs G t → expansion r k (cond b (App Neg s (Cons (unsigned_term r s t) Nil)) (unsigned_term r s t)) ≡ (t.0, signed b (quotient (r.top t.1) (r.bottom t.1))) ∷ []
    first_cases t true h = ap (negated r) (expansion-unsigned t h)
    first_cases t false h = expansion-unsigned t h

    expansion-first_term : (t : List (Tree × ℕ) × C) → IsTerm r (k.is_exact s) signs G t → expansion r k (first_term r s t) ≡ t ∷ []
    expansion-first_term t h = first_cases t (r.is_negative t.1) h ∙ ap (λ c. (t.0, c) ∷ []) (read t.1)

    later_cases : (a : Tree) (t : List (Tree × ℕ) × C) (b : Bool) → IsTerm r (k.is_exact s) signs G t → expansion r k (binary (cond b Sub Add) s a (unsigned_term r s t)) ≡ expansion r k a ++ (t.0, signed b (quotient (r.top t.1) (r.bottom t.1))) ∷ []
    later_cases a t true h = ap (λ p. expansion r k a ++ negated r p) (expansion-unsigned t h)
    later_cases a t false h = ap (λ p. expansion r k a ++ p) (expansion-unsigned t h)

    expansion-plus_terms : (a : Tree) (ts : List (List (Tree × ℕ) × C)) → AllTerms (IsTerm r (k.is_exact s) signs G) ts → expansion r k (plus_terms r s a ts) ≡ expansion r k a ++ ts
    expansion-plus_terms a [] h = sym (append-nil (expansion r k a))
    expansion-plus_terms a (t ∷ ts) h =
        expansion-plus_terms (binary (cond (r.is_negative t.1) Sub Add) s a (unsigned_term r s t)) ts h.1
        ∙ ap (λ p. p ++ ts) (later_cases a t (r.is_negative t.1) h.0 ∙ ap (λ c. expansion r k a ++ (t.0, c) ∷ []) (read t.1))
        ∙ append_assoc (expansion r k a) (t ∷ []) ts

    -- the terms of the tree are the terms
    pub expansion-normal_tree : (t : List (Tree × ℕ) × C) (ts : List (List (Tree × ℕ) × C)) → AllTerms (IsTerm r (k.is_exact s) signs G) (t ∷ ts) → expansion r k (normal_tree r s (t ∷ ts)) ≡ t ∷ ts
    expansion-normal_tree t ts h = expansion-plus_terms (first_term r s t) ts h.1 ∙ ap (λ p. p ++ ts) (expansion-first_term t h.0)

    -- the list of the normal tree of a list in order is that list
    pub polynomial-normal_tree : (p : List (List (Tree × ℕ) × C)) → IsNormal r (monomial_cmp tree_cmp) p → AllTerms (IsTerm r (k.is_exact s) signs G) p → polynomial r k (normal_tree r s p) ≡ p
    polynomial-normal_tree [] n h = ap (λ c. normal_of r (monomial_cmp tree_cmp) (([], c) ∷ [])) r.number_zero ∙ normal_of-nil r (monomial_cmp-IsStrict tree_cmp tree_cmp-IsStrict) []
    polynomial-normal_tree (t ∷ ts) n h = ap (normal_of r (monomial_cmp tree_cmp)) (expansion-normal_tree t ts h) ∙ normal_of-itself r (monomial_cmp-IsStrict tree_cmp tree_cmp-IsStrict) (t ∷ ts) n
