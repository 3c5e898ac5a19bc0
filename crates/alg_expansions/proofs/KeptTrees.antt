-- A normal tree is well sorted, of its sort, and already prepared.
use Rattle.std.proofs.Common.{◌≡◌, ℕ, List, [], ◌∷◌, Bool, true, false, cond, refl, ap, ap₂, sym, ◌∙◌, arith}
use Rattle.std.specs.Prelude.{◌==◌, ◌&&◌}
use Rattle.std.proofs.lemmas.Bool.{and_parts}
use Rattle.std.proofs.lemmas.Bool.Decides.{nat_tests}
use Rattle.alg_terms.specs.declared.sorts.Sort.{Sort}
use Rattle.alg_terms.specs.declared.sorts.Sort.TheVariants.{Nat}
use Rattle.alg_terms.specs.declared.symbols.Sym.TheVariants.{Add, Mul, Neg, Sub, Div, Npow}
use Rattle.alg_terms.specs.Tree.{Tree, Lit, App, Nil, Cons, sort_of_tree}
use Rattle.alg_terms.specs.Order.{tree_cmp}
use Rattle.alg_law.specs.declared.classes.Class.TheVariants.{CommSemiring, Semiring, AddGroup, Field, CharZero}
use Rattle.alg_law.specs.declared.marks.Mark.TheVariants.{Good}
use Rattle.alg_law.specs.Declarations.{Declaration}
use Rattle.alg_law.specs.Having.{has_class}
use Rattle.alg_law.proofs.HavingLaws.{has_class-all}
use Rattle.alg_law.specs.WellSorted.{sort_mark, IsWellSorted}
use Rattle.alg_law.proofs.WellSortedLaws.{literal-good, sum-good, product-good}
use Rattle.alg_sums.specs.Coefficients.{Coefficients}
use Rattle.alg_sums.specs.Monomial.{IsMonomial}
use Rattle.alg_sums.specs.Sum.{AllTerms}
use Rattle.alg_expansions.specs.Setting.{setting_of}
use Rattle.alg_expansions.specs.NormalTree.{binary, power_tree, times_powers, quotient_tree, term_tree, unsigned_term, first_term, plus_terms, normal_tree}
use Rattle.alg_expansions.specs.NormalForm.{prepared}
use Rattle.alg_expansions.proofs.Terms.{IsSpelled, IsTerm}
use Rattle.alg_expansions.proofs.WellSortedTrees.{negation-good, difference-good, power-good, quotient-good}

module _ {C : Type 0} (r : Coefficients C) where
  -- ---- trees that stay
  module _ (ds : List Declaration) (s : Sort) where
    -- of the sort, well sorted, and prepared in nothing
    pub record IsKept (t : Tree) : Type 0 where
      pub sort : sort_of_tree t ≡ s
      pub good : IsWellSorted ds t
      pub stays : prepared r (setting_of ds) t ≡ t

    -- the sort is a ring, and its inverses are exact at most in a field
    pub record IsRing : Type 0 where
      pub known : sort_mark ds s ≡ Good
      pub ring : has_class ds s CommSemiring ≡ true

    module _ (i : IsRing) (G : Tree → Type 0) (g : (a : Tree) → G a → IsKept a) where
      semiring : has_class ds s Semiring ≡ true
      semiring = has_class-all ds s CommSemiring Semiring refl i.ring

      abbrev exact : Bool
      exact = (setting_of ds).is_exact s

      abbrev signed : Bool
      signed = has_class ds s AddGroup

      kept_power : (p : Tree × ℕ) (b : Bool) → IsKept p.0 → IsKept (cond b p.0 (binary Npow s p.0 (Lit Nat p.1)))
      kept_power p true h = h
      kept_power p false h = record { sort = refl; good = power-good ds s i.known p.0 p.1 semiring h.sort h.good; stays = ap (λ a. binary Npow s a (Lit Nat p.1)) h.stays }

      kept_times : (a b : Tree) → IsKept a → IsKept b → IsKept (binary Mul s a b)
      kept_times a b h j = record { sort = refl; good = product-good ds s i.known semiring a b h.sort j.sort h.good j.good; stays = ap₂ (binary Mul s) h.stays j.stays }

      kept_powers : (t : Tree) (m : List (Tree × ℕ)) → IsKept t → IsMonomial tree_cmp G m → IsKept (times_powers s t m)
      kept_powers t [] h m = h
      kept_powers t (p ∷ ps) h m = kept_powers (binary Mul s t (power_tree s p)) ps (kept_times t (power_tree s p) h (kept_power p (p.1 == 1) (g p.0 m.2))) m.3

      field_by : (b : Bool) (d : ℕ) → (has_class ds s Field && has_class ds s CharZero) ≡ b → (d == 1) ≡ false → (b ≡ false → d ≡ 1) → has_class ds s Field ≡ true
      field_by true d e f w = (and_parts (has_class ds s Field) (has_class ds s CharZero) e).0
      field_by false d e f w = absurd (let k : d ≡ 1 = w refl in grind (arith, nat_tests, k, f))

      kept_quotient : (n d : ℕ) (b : Bool) → (d == 1) ≡ b → (exact ≡ false → d ≡ 1) → IsKept (cond b (Lit s n) (binary Div s (Lit s n) (Lit s d)))
      kept_quotient n d true e w = record { sort = refl; good = literal-good ds s i.known semiring n; stays = refl }
      kept_quotient n d false e w = record { sort = refl; good = quotient-good ds s i.known n d semiring (field_by exact d refl e w); stays = refl }

      kept_term_cases : (p : Tree × ℕ) (m : List (Tree × ℕ)) (n d : ℕ) (b : Bool) → IsMonomial tree_cmp G (p ∷ m) → (exact ≡ false → d ≡ 1) → IsKept (cond b (times_powers s (power_tree s p) m) (binary Mul s (times_powers s (power_tree s p) m) (quotient_tree s n d)))
      kept_term_cases p m n d true h w = kept_powers (power_tree s p) m (kept_power p (p.1 == 1) (g p.0 h.2)) h.3
      kept_term_cases p m n d false h w = kept_times (times_powers s (power_tree s p) m) (quotient_tree s n d) (kept_powers (power_tree s p) m (kept_power p (p.1 == 1) (g p.0 h.2)) h.3) (kept_quotient n d (d == 1) refl w)

      kept_term : (m : List (Tree × ℕ)) (n d : ℕ) → IsMonomial tree_cmp G m → (exact ≡ false → d ≡ 1) → IsKept (term_tree s m n d)
      kept_term [] n d h w = kept_quotient n d (d == 1) refl w
      kept_term (p ∷ m) n d h w = kept_term_cases p m n d ((n == 1) && (d == 1)) h w

      kept_unsigned : (t : List (Tree × ℕ) × C) → IsTerm r exact signed G t → IsKept (unsigned_term r s t)
      kept_unsigned t h = kept_term t.0 (r.top t.1) (r.bottom t.1) h.0 h.1.whole

      -- a negative coefficient comes only where there is a negation
      group_by : (b : Bool) (c : C) → has_class ds s AddGroup ≡ b → r.is_negative c ≡ true → IsSpelled r exact b c → has_class ds s AddGroup ≡ true
      group_by true c e f h = e
      group_by false c e f h = let k : true ≡ false = sym f ∙ h.positive refl in cc

      kept_first : (t : List (Tree × ℕ) × C) (b : Bool) → r.is_negative t.1 ≡ b → IsTerm r exact signed G t → IsKept (cond b (App Neg s (Cons (unsigned_term r s t) Nil)) (unsigned_term r s t))
      kept_first t true e h =
          let u = kept_unsigned t h in
          record { sort = refl; good = negation-good ds s i.known (unsigned_term r s t) (group_by signed t.1 refl e h.1) u.sort u.good; stays = ap (λ a. App Neg s (Cons a Nil)) u.stays }
      kept_first t false e h = kept_unsigned t h

      kept_later : (a : Tree) (t : List (Tree × ℕ) × C) (b : Bool) → r.is_negative t.1 ≡ b → IsKept a → IsTerm r exact signed G t → IsKept (binary (cond b Sub Add) s a (unsigned_term r s t))
      kept_later a t true e j h =
          let u = kept_unsigned t h in
          record { sort = refl; good = difference-good ds s i.known a (unsigned_term r s t) (group_by signed t.1 refl e h.1) j.sort u.sort j.good u.good; stays = ap₂ (binary Sub s) j.stays u.stays }
      kept_later a t false e j h =
          let u = kept_unsigned t h in
          record { sort = refl; good = sum-good ds s i.known semiring a (unsigned_term r s t) j.sort u.sort j.good u.good; stays = ap₂ (binary Add s) j.stays u.stays }

      kept_terms : (a : Tree) (ts : List (List (Tree × ℕ) × C)) → IsKept a → AllTerms (IsTerm r exact signed G) ts → IsKept (plus_terms r s a ts)
      kept_terms a [] j h = j
      kept_terms a (t ∷ ts) j h = kept_terms (binary (cond (r.is_negative t.1) Sub Add) s a (unsigned_term r s t)) ts (kept_later a t (r.is_negative t.1) refl j h.0) h.1

      -- a normal tree is well sorted and prepared in nothing
      pub kept_normal_tree : (p : List (List (Tree × ℕ) × C)) → AllTerms (IsTerm r exact signed G) p → IsKept (normal_tree r s p)
      kept_normal_tree [] h = record { sort = refl; good = literal-good ds s i.known semiring 0; stays = refl }
      kept_normal_tree (t ∷ ts) h = kept_terms (first_term r s t) ts (kept_first t (r.is_negative t.1) refl h.0) h.1
