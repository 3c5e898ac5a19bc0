-- The normal form of a well sorted tree is well sorted, of the same sort.
use Rattle.std.proofs.Common.{◌≡◌, ℕ, zero, List, [], ◌∷◌, Bool, true, false, cond, refl, ap, sym, subst, ◌∙◌, Option, Some, None, ℤ, ◌+ℤ◌}
use Rattle.std.specs.Prelude.{◌==◌, ◌&&◌, unsigned_abs}
use Rattle.std.proofs.lemmas.Bool.{and_parts}
use Rattle.alg_terms.specs.declared.sorts.Sort.{Sort}
use Rattle.alg_terms.specs.declared.sorts.Sort.TheVariants.{Nat}
use Rattle.alg_terms.specs.declared.symbols.Sym.{Sym}
use Rattle.alg_terms.specs.declared.symbols.Sym.TheVariants.{Add, Neg, Sub, Nsmul, Zsmul}
use Rattle.alg_terms.specs.Tree.{Tree, Lit, App, Trees, Nil, Cons, sort_of_tree}
use Rattle.alg_terms.specs.Order.{tree_cmp, sort_same}
use Rattle.alg_terms.proofs.OrderLaws.{sort_same-self, sort_same-equal}
use Rattle.alg_law.specs.declared.classes.Class.TheVariants.{AddMonoid, AddGroup}
use Rattle.alg_law.specs.declared.marks.Mark.TheVariants.{Good}
use Rattle.alg_law.specs.Declarations.{Declaration}
use Rattle.alg_law.specs.Having.{has_class}
use Rattle.alg_law.specs.WellSorted.{worse, sort_mark, class_mark, head_mark, symbol_mark, mark_of, marks_of, sorts_of, IsWellSorted}
use Rattle.alg_law.proofs.WellSortedLaws.{worse-good, worse-parts, literal-good, known-from_good}
use Rattle.alg_sums.specs.Sum.{negated, AllTerms}
use Rattle.alg_sums.proofs.Terms.{AllTerms-append, AllTerms-normal_of}
use Rattle.alg_expansions.proofs.WellSortedTrees.{built_in_parts, negation-good, difference-good}
use Rattle.alg_sums.specs.Rational.{negative}
use Rattle.alg_sums.specs.Integers.{integers, positive_plus, positive_times}
use Rattle.alg_abel_terms.specs.Numbers.{IsNatural}
use Rattle.alg_expansions.specs.NormalTree.{binary}
use Rattle.alg_abel_terms.specs.Combination.{atom, multiplied, multiple_or, terms, combination}
use Rattle.alg_abel_terms.specs.NormalTree.{unsigned_term, first_term, plus_terms, normal_tree, normal_form}

module _ (ds : List Declaration) (s : Sort) where
  -- of the sort, and well sorted
  pub record IsGood (t : Tree) : Type 0 where
    pub sort : sort_of_tree t ≡ s
    pub good : IsWellSorted ds t

  -- the atom is good, and the coefficient negative only where there is a negation
  pub record IsGoodTerm (t : Tree × ℤ) : Type 0 where
    pub atom : IsGood t.0
    pub positive : has_class ds s AddGroup ≡ false → negative t.1 ≡ false

  module _ (known : sort_mark ds s ≡ Good) (monoid : has_class ds s AddMonoid ≡ true) where
    sum_head : head_mark ds Add s (s ∷ s ∷ []) ≡ Good
    sum_head = rw (known, sort_same-self s, monoid) refl

    multiple_head : head_mark ds Nsmul s (Nat ∷ s ∷ []) ≡ Good
    multiple_head = rw (known, sort_same-self s, monoid) refl

    zero_good : IsGood (Lit s 0)
    zero_good = record { sort = refl; good = worse-good (sort_mark ds s) (class_mark (has_class ds s AddMonoid)) known (ap class_mark monoid) }

    sum_sorts : (t u : Sort) → t ≡ s → u ≡ s → head_mark ds Add s (t ∷ u ∷ []) ≡ Good
    sum_sorts t u e i = subst (λ w. head_mark ds Add s (w ∷ u ∷ []) ≡ Good) (sym e) (subst (λ w. head_mark ds Add s (s ∷ w ∷ []) ≡ Good) (sym i) sum_head)

    sum_good : (a b : Tree) → IsGood a → IsGood b → IsGood (binary Add s a b)
    sum_good a b h i = record {
      sort = refl;
      good = worse-good (head_mark ds Add s (sort_of_tree a ∷ sort_of_tree b ∷ [])) (worse (mark_of ds a) (worse (mark_of ds b) Good)) (sum_sorts (sort_of_tree a) (sort_of_tree b) h.sort i.sort)
          (worse-good (mark_of ds a) (worse (mark_of ds b) Good) h.good (worse-good (mark_of ds b) Good i.good refl));
    }

    numeral_good : (n : ℕ) → IsWellSorted ds (Lit Nat n)
    numeral_good n = literal-good ds Nat refl refl n

    multiple_sorts : (a : Tree) (n : ℕ) → sort_of_tree a ≡ s → head_mark ds Nsmul s (Nat ∷ sort_of_tree a ∷ []) ≡ Good
    multiple_sorts a n e = subst (λ u. head_mark ds Nsmul s (Nat ∷ u ∷ []) ≡ Good) (sym e) multiple_head

    multiple_good : (a : Tree) (n : ℕ) → IsGood a → IsGood (binary Nsmul s (Lit Nat n) a)
    multiple_good a n h = record {
      sort = refl;
      good = worse-good (head_mark ds Nsmul s (Nat ∷ sort_of_tree a ∷ [])) (worse (mark_of ds (Lit Nat n)) (worse (mark_of ds a) Good)) (multiple_sorts a n h.sort)
          (worse-good (mark_of ds (Lit Nat n)) (worse (mark_of ds a) Good) (numeral_good n) (worse-good (mark_of ds a) Good h.good refl));
    }

    multiple_cases : (a : Tree) (n : ℕ) (b : Bool) → IsGood a → IsGood (cond b a (binary Nsmul s (Lit Nat n) a))
    multiple_cases a n true h = h
    multiple_cases a n false h = multiple_good a n h

    unsigned_good : (t : Tree × ℤ) → IsGoodTerm t → IsGood (unsigned_term s t)
    unsigned_good t h = multiple_cases t.0 (unsigned_abs t.1) (unsigned_abs t.1 == 1) h.atom

    group_by : (b : Bool) (z : ℤ) → negative z ≡ true → (b ≡ false → negative z ≡ false) → b ≡ true
    group_by true z e h = refl
    group_by false z e h = let f : true ≡ false = sym e ∙ h refl in cc

    first_cases : (t : Tree × ℤ) (b : Bool) → negative t.1 ≡ b → IsGoodTerm t → IsGood (cond b (App Neg s (Cons (unsigned_term s t) Nil)) (unsigned_term s t))
    first_cases t true e h =
        let u = unsigned_good t h in
        record { sort = refl; good = negation-good ds s known (unsigned_term s t) (group_by (has_class ds s AddGroup) t.1 e h.positive) u.sort u.good }
    first_cases t false e h = unsigned_good t h

    later_cases : (a : Tree) (t : Tree × ℤ) (b : Bool) → negative t.1 ≡ b → IsGood a → IsGoodTerm t → IsGood (binary (cond b Sub Add) s a (unsigned_term s t))
    later_cases a t true e j h =
        let u = unsigned_good t h in
        record { sort = refl; good = difference-good ds s known a (unsigned_term s t) (group_by (has_class ds s AddGroup) t.1 e h.positive) j.sort u.sort j.good u.good }
    later_cases a t false e j h = sum_good a (unsigned_term s t) j (unsigned_good t h)

    plus_good : (a : Tree) (ts : List (Tree × ℤ)) → IsGood a → AllTerms IsGoodTerm ts → IsGood (plus_terms s a ts)
    plus_good a [] j h = j
    plus_good a (t ∷ ts) j h = plus_good (binary (cond (negative t.1) Sub Add) s a (unsigned_term s t)) ts (later_cases a t (negative t.1) refl j h.0) h.1

    pub normal_tree_good : (p : List (Tree × ℤ)) → AllTerms IsGoodTerm p → IsGood (normal_tree s p)
    normal_tree_good [] h = zero_good
    normal_tree_good (t ∷ ts) h = plus_good (first_term s t) ts (first_cases t (negative t.1) refl h.0) h.1

module _ (ds : List Declaration) (value : Tree → Option ℤ) (natural : IsNatural ds value) where
  abbrev AreGood : Sort → List (Tree × ℤ) → Type 0
  AreGood s = AllTerms (IsGoodTerm ds s)

  atom_good : (a : Tree) → IsWellSorted ds a → AreGood (sort_of_tree a) (atom a)
  atom_good a g = (record { atom = record { sort = refl; good = g }; positive = λ e. refl }, tt)

  negated_good : (s : Sort) (p : List (Tree × ℤ)) → has_class ds s AddGroup ≡ true → AreGood s p → AreGood s (negated integers p)
  unfolding integers
  negated_good s [] g h = tt
  negated_good s (t ∷ p) g h = (record { atom = h.0.atom; positive = λ e. let f : true ≡ false = sym g ∙ e in cc }, negated_good s p g h.1)

  multiplied_good : (s : Sort) (k : ℤ) (p : List (Tree × ℤ)) → (has_class ds s AddGroup ≡ false → negative k ≡ false) → AreGood s p → AreGood s (multiplied k p)
  multiplied_good s k [] g h = tt
  multiplied_good s k (t ∷ p) g h = (record { atom = h.0.atom; positive = λ e. positive_times k t.1 (g e) (h.0.positive e) }, multiplied_good s k p g h.1)

  sum_term : (s : Sort) (t u : Tree × ℤ) → IsGoodTerm ds s t → IsGoodTerm ds s u → IsGoodTerm ds s (u.0, t.1 +ℤ u.1)
  sum_term s t u h i = record { atom = i.atom; positive = λ e. positive_plus t.1 u.1 (h.positive e) (i.positive e) }

  multiple_terms : (s : Sort) (a : Tree) (p : List (Tree × ℤ)) (o : Option ℤ) → sort_of_tree a ≡ s → IsWellSorted ds a → ((k : ℤ) → o ≡ Some k → has_class ds s AddGroup ≡ false → negative k ≡ false) → AreGood s p → AreGood s (multiple_or a p o)
  multiple_terms s a p (Some k) e g n h = multiplied_good s k p (n k refl) h
  multiple_terms s a p None e g n h = subst (λ u. AreGood u (atom a)) e (atom_good a g)

  at_sort : (s : Sort) (a : Tree) → sort_same (sort_of_tree a) s ≡ true → AreGood (sort_of_tree a) (terms value a) → AreGood s (terms value a)
  at_sort s a e h = subst (λ u. AreGood u (terms value a)) (sort_same-equal (sort_of_tree a) s e) h

  -- a well sorted compound has well sorted parts
  abbrev parts : (f : Sym) (s : Sort) (xs : Trees) → IsWellSorted ds (App f s xs) → (head_mark ds f s (sorts_of xs) ≡ Good) × (marks_of ds xs ≡ Good)
  parts f s xs g = worse-parts (head_mark ds f s (sorts_of xs)) (marks_of ds xs) g

  two_parts : (a b : Tree) → marks_of ds (Cons a (Cons b Nil)) ≡ Good → IsWellSorted ds a × IsWellSorted ds b
  two_parts a b g =
      let h = worse-parts (mark_of ds a) (worse (mark_of ds b) Good) g in
      let i = worse-parts (mark_of ds b) Good h.1 in
      (h.0, i.0)

  pub terms_good : (t : Tree) → IsWellSorted ds t → AreGood (sort_of_tree t) (terms value t)
  terms_good (Lit s zero) g = tt
  terms_good (App Add s (Cons a (Cons b Nil))) g =
      let h = parts Add s (Cons a (Cons b Nil)) g in
      let i = built_in_parts ds Add s (sort_of_tree a ∷ sort_of_tree b ∷ []) (worse-parts (sort_mark ds s) (symbol_mark ds Add s (sort_of_tree a ∷ sort_of_tree b ∷ [])) h.0).1 in
      let e = and_parts (sort_same (sort_of_tree a) s) (sort_same (sort_of_tree b) s && true) i.0 in
      let f = and_parts (sort_same (sort_of_tree b) s) true e.1 in
      let j = two_parts a b h.1 in
      AllTerms-append (IsGoodTerm ds s) (terms value a) (terms value b) (at_sort s a e.0 (terms_good a j.0)) (at_sort s b f.0 (terms_good b j.1))
  terms_good (App Sub s (Cons a (Cons b Nil))) g =
      let h = parts Sub s (Cons a (Cons b Nil)) g in
      let i = built_in_parts ds Sub s (sort_of_tree a ∷ sort_of_tree b ∷ []) (worse-parts (sort_mark ds s) (symbol_mark ds Sub s (sort_of_tree a ∷ sort_of_tree b ∷ [])) h.0).1 in
      let e = and_parts (sort_same (sort_of_tree a) s) (sort_same (sort_of_tree b) s && true) i.0 in
      let f = and_parts (sort_same (sort_of_tree b) s) true e.1 in
      let j = two_parts a b h.1 in
      AllTerms-append (IsGoodTerm ds s) (terms value a) (negated integers (terms value b)) (at_sort s a e.0 (terms_good a j.0)) (negated_good s (terms value b) i.1 (at_sort s b f.0 (terms_good b j.1)))
  terms_good (App Neg s (Cons a Nil)) g =
      let h = parts Neg s (Cons a Nil) g in
      let i = built_in_parts ds Neg s (sort_of_tree a ∷ []) (worse-parts (sort_mark ds s) (symbol_mark ds Neg s (sort_of_tree a ∷ [])) h.0).1 in
      let e = and_parts (sort_same (sort_of_tree a) s) true i.0 in
      let j = worse-parts (mark_of ds a) Good h.1 in
      negated_good s (terms value a) i.1 (at_sort s a e.0 (terms_good a j.0))
  terms_good (App Nsmul s (Cons k (Cons a Nil))) g =
      let h = parts Nsmul s (Cons k (Cons a Nil)) g in
      let i = built_in_parts ds Nsmul s (sort_of_tree k ∷ sort_of_tree a ∷ []) (worse-parts (sort_mark ds s) (symbol_mark ds Nsmul s (sort_of_tree k ∷ sort_of_tree a ∷ [])) h.0).1 in
      let e = and_parts (sort_same (sort_of_tree k) Nat) (sort_same (sort_of_tree a) s && true) i.0 in
      let f = and_parts (sort_same (sort_of_tree a) s) true e.1 in
      let j = two_parts k a h.1 in
      multiple_terms s (binary Nsmul s k a) (terms value a) (value k) refl g (λ z q n. natural k z j.0 (sort_same-equal (sort_of_tree k) Nat e.0) q) (at_sort s a f.0 (terms_good a j.1))
  terms_good (App Zsmul s (Cons k (Cons a Nil))) g =
      let h = parts Zsmul s (Cons k (Cons a Nil)) g in
      let i = built_in_parts ds Zsmul s (sort_of_tree k ∷ sort_of_tree a ∷ []) (worse-parts (sort_mark ds s) (symbol_mark ds Zsmul s (sort_of_tree k ∷ sort_of_tree a ∷ [])) h.0).1 in
      let e = and_parts _ (sort_same (sort_of_tree a) s && true) i.0 in
      let f = and_parts (sort_same (sort_of_tree a) s) true e.1 in
      let j = two_parts k a h.1 in
      multiple_terms s (binary Zsmul s k a) (terms value a) (value k) refl g (λ z q n. let x : true ≡ false = sym i.1 ∙ n in cc) (at_sort s a f.0 (terms_good a j.1))
  terms_good t g = atom_good t g

  pub combination_good : (t : Tree) → IsWellSorted ds t → AreGood (sort_of_tree t) (combination value t)
  unfolding integers
  combination_good t g = AllTerms-normal_of integers tree_cmp (IsGoodTerm ds (sort_of_tree t)) (sum_term (sort_of_tree t)) (terms value t) (terms_good t g)

  pub normal_form_good : (s : Sort) (t : Tree) → sort_of_tree t ≡ s → has_class ds s AddMonoid ≡ true → IsWellSorted ds t → IsGood ds s (normal_form value s t)
  normal_form_good s t e m g = normal_tree_good ds s (subst (λ u. sort_mark ds u ≡ Good) e (known-from_good ds t g)) m (combination value t) (subst (λ u. AreGood u (combination value t)) e (combination_good t g))
