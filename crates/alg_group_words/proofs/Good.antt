-- The normal form of a well sorted tree in a group is well sorted, of the same sort.
use Rattle.std.proofs.Common.{◌≡◌, ℕ, zero, suc, List, [], ◌∷◌, Bool, true, false, refl, ap, sym, subst, ◌∙◌, Option, Some, None, ℤ, pos, negsuc}
use Rattle.std.specs.Prelude.{◌&&◌, ◌||◌, if◌then◌else◌, nat_eq, length}
use Rattle.std.proofs.lemmas.Bool.{and_parts}
use Rattle.alg_terms.specs.declared.sorts.Sort.{Sort}
use Rattle.alg_terms.specs.declared.sorts.Sort.TheVariants.{Nat, Int}
use Rattle.alg_terms.specs.declared.symbols.Sym.{Sym}
use Rattle.alg_terms.specs.declared.symbols.Sym.TheVariants.{Mul, Neg, Inv, Div, Npow, Zpow}
use Rattle.alg_terms.specs.Tree.{Tree, Lit, App, Trees, Nil, Cons, sort_of_tree}
use Rattle.alg_terms.specs.Order.{sort_same}
use Rattle.alg_terms.proofs.OrderLaws.{sort_same-self, sort_same-equal}
use Rattle.alg_terms.specs.Symbols.{places, arguments_fit, places_fit, serves}
use Rattle.alg_law.specs.declared.classes.Class.TheVariants.{Semigroup, Monoid, Group, Field}
use Rattle.alg_law.specs.declared.marks.Mark.{Mark}
use Rattle.alg_law.specs.declared.marks.Mark.TheVariants.{Good, BadSort}
use Rattle.alg_law.specs.Declarations.{Declaration}
use Rattle.alg_law.specs.Having.{has_class}
use Rattle.alg_law.proofs.HavingLaws.{has_class-all}
use Rattle.alg_law.specs.WellSorted.{worse, sort_mark, class_mark, head_mark, symbol_mark, built_in_mark, has_classes, mark_of, marks_of, sorts_of, IsWellSorted}
use Rattle.alg_law.proofs.WellSortedLaws.{worse-good, worse-parts, literal-good, known-from_good}
use Rattle.alg_group_words.specs.Word.{Letter, inverted}
use Rattle.alg_group_words.specs.Letters.{letter_of, raised_or, letters}
use Rattle.alg_group_words.specs.Syllables.{syllables}
use Rattle.alg_group_words.specs.WordTree.{binary, unary, power_tree, times_syllables, normal_tree, normal_form}
use Rattle.alg_group_words.proofs.Trees.{syllables_are}
use Rattle.alg_group_words.proofs.Settled.{AllAtoms, AllLetters, append_kept, inverted_kept, raised_kept, runs_kept}

-- ---- what a well sorted compound tells
class_good : (b : Bool) → class_mark b ≡ Good → b ≡ true
class_good true e = refl
class_good false e = cc

fits_good : (b c : Bool) → (if b then class_mark c else BadSort) ≡ Good → (b ≡ true) × (c ≡ true)
fits_good true c e = (refl, class_good c e)
fits_good false c e = cc

built_in_fits : (ds : List Declaration) (f : Sym) (s : Sort) (ts : List Sort) → built_in_mark ds f s ts ≡ Good → places_fit (places f) s ts ≡ true
built_in_fits ds f s ts e =
    let h = fits_good (nat_eq (length (places f)) (length ts) && arguments_fit f s ts) (has_classes ds f s) e in
    let a = and_parts (nat_eq (length (places f)) (length ts)) (arguments_fit f s ts) h.0 in
    (and_parts (places_fit (places f) s ts) (serves f s) a.1).0

-- ---- normal trees
module _ (ds : List Declaration) (s : Sort) where
  -- of the sort, and well sorted
  pub record IsGood (t : Tree) : Type 0 where
    pub sort : sort_of_tree t ≡ s
    pub good : IsWellSorted ds t

  module _ (known : sort_mark ds s ≡ Good) (group : has_class ds s Group ≡ true) where
    monoid : has_class ds s Monoid ≡ true
    monoid = has_class-all ds s Group Monoid refl group

    semigroup : has_class ds s Semigroup ≡ true
    semigroup = has_class-all ds s Group Semigroup refl group

    or_left : (a b : Bool) → a ≡ true → (a || b) ≡ true
    or_left a b e = rw e refl

    inverses : (has_class ds s Group || has_class ds s Field) ≡ true
    inverses = or_left (has_class ds s Group) (has_class ds s Field) group

    product_head : (t u : Sort) → t ≡ s → u ≡ s → head_mark ds Mul s (t ∷ u ∷ []) ≡ Good
    product_head t u e i = rw (e, i, known, sort_same-self s, semigroup) refl

    power_head : (t : Sort) → t ≡ s → head_mark ds Npow s (t ∷ Nat ∷ []) ≡ Good
    power_head t e = rw (e, known, sort_same-self s, monoid) refl

    integer_head : (t : Sort) → t ≡ s → head_mark ds Zpow s (t ∷ Int ∷ []) ≡ Good
    integer_head t e = rw (e, known, sort_same-self s, inverses) refl

    inverse_head : (t : Sort) → t ≡ s → head_mark ds Inv s (t ∷ []) ≡ Good
    inverse_head t e = rw (e, known, sort_same-self s, inverses) refl

    one_good : IsGood (Lit s 1)
    one_good = record { sort = refl; good = worse-good (sort_mark ds s) (class_mark (has_class ds s Monoid)) known (ap class_mark monoid) }

    both_good : (h : Mark) (a b : Tree) → h ≡ Good → IsWellSorted ds a → IsWellSorted ds b → worse h (worse (mark_of ds a) (worse (mark_of ds b) Good)) ≡ Good
    both_good h a b e g i = worse-good h (worse (mark_of ds a) (worse (mark_of ds b) Good)) e (worse-good (mark_of ds a) (worse (mark_of ds b) Good) g (worse-good (mark_of ds b) Good i refl))

    product_good : (a b : Tree) → IsGood a → IsGood b → IsGood (binary Mul s a b)
    product_good a b h i = record { sort = refl; good = both_good (head_mark ds Mul s (sort_of_tree a ∷ sort_of_tree b ∷ [])) a b (product_head (sort_of_tree a) (sort_of_tree b) h.sort i.sort) h.good i.good }

    negated_good : (n : ℕ) → IsWellSorted ds (unary Neg Int (Lit Int n))
    negated_good n = worse-good (mark_of ds (Lit Int n)) Good (literal-good ds Int refl refl n) refl

    power_good : (a : Tree) (z : ℤ) → IsGood a → IsGood (power_tree s a z)
    power_good a (pos zero) h = record { sort = refl; good = both_good (head_mark ds Npow s (sort_of_tree a ∷ Nat ∷ [])) a (Lit Nat 0) (power_head (sort_of_tree a) h.sort) h.good (literal-good ds Nat refl refl 0) }
    power_good a (pos (suc zero)) h = h
    power_good a (pos (suc (suc n))) h = record { sort = refl; good = both_good (head_mark ds Npow s (sort_of_tree a ∷ Nat ∷ [])) a (Lit Nat (suc (suc n))) (power_head (sort_of_tree a) h.sort) h.good (literal-good ds Nat refl refl (suc (suc n))) }
    power_good a (negsuc zero) h = record { sort = refl; good = worse-good (head_mark ds Inv s (sort_of_tree a ∷ [])) (worse (mark_of ds a) Good) (inverse_head (sort_of_tree a) h.sort) (worse-good (mark_of ds a) Good h.good refl) }
    power_good a (negsuc (suc n)) h = record { sort = refl; good = both_good (head_mark ds Zpow s (sort_of_tree a ∷ Int ∷ [])) a (unary Neg Int (Lit Int (suc (suc n)))) (integer_head (sort_of_tree a) h.sort) h.good (negated_good (suc (suc n))) }

    times_good : (t : Tree) (ps : List (Tree × ℤ)) → IsGood t → AllAtoms IsGood ps → IsGood (times_syllables s t ps)
    times_good t [] h i = h
    times_good t (p ∷ ps) h i = times_good (binary Mul s t (power_tree s p.0 p.1)) ps (product_good t (power_tree s p.0 p.1) h (power_good p.0 p.1 i.0)) i.1

    pub normal_tree_good : (ss : List (Tree × ℤ)) → AllAtoms IsGood ss → IsGood (normal_tree s ss)
    normal_tree_good [] h = one_good
    normal_tree_good (p ∷ ps) h = times_good (power_tree s p.0 p.1) ps (power_good p.0 p.1 h.0) h.1

-- ---- the atoms of a well sorted tree
module _ (ds : List Declaration) (value : Tree → Option ℤ) where
  abbrev AreGood : Sort → List Letter → Type 0
  AreGood s = AllLetters (IsGood ds s)

  letter_good : (a : Tree) → IsWellSorted ds a → AreGood (sort_of_tree a) (letter_of a)
  letter_good a g = (record { sort = refl; good = g }, tt)

  power_letters : (s : Sort) (a : Tree) (w : List Letter) (o : Option ℤ) → sort_of_tree a ≡ s → IsWellSorted ds a → AreGood s w → AreGood s (raised_or a w o)
  power_letters s a w (Some k) e g h = raised_kept (IsGood ds s) w k h
  power_letters s a w None e g h = subst (λ u. AreGood u (letter_of a)) e (letter_good a g)

  at_sort : (s : Sort) (a : Tree) → sort_same (sort_of_tree a) s ≡ true → AreGood (sort_of_tree a) (letters value a) → AreGood s (letters value a)
  at_sort s a e h = subst (λ u. AreGood u (letters value a)) (sort_same-equal (sort_of_tree a) s e) h

  fits : (f : Sym) (s : Sort) (xs : Trees) → symbol_mark ds f s (sorts_of xs) ≡ built_in_mark ds f s (sorts_of xs) → IsWellSorted ds (App f s xs) → (places_fit (places f) s (sorts_of xs) ≡ true) × (marks_of ds xs ≡ Good)
  fits f s xs q g =
      let h = worse-parts (head_mark ds f s (sorts_of xs)) (marks_of ds xs) g in
      let i = worse-parts (sort_mark ds s) (symbol_mark ds f s (sorts_of xs)) h.0 in
      (built_in_fits ds f s (sorts_of xs) (sym q ∙ i.1), h.1)

  two_parts : (a b : Tree) → marks_of ds (Cons a (Cons b Nil)) ≡ Good → IsWellSorted ds a × IsWellSorted ds b
  two_parts a b g =
      let h = worse-parts (mark_of ds a) (worse (mark_of ds b) Good) g in
      let i = worse-parts (mark_of ds b) Good h.1 in
      (h.0, i.0)

  pub letters_good : (t : Tree) → IsWellSorted ds t → AreGood (sort_of_tree t) (letters value t)
  letters_good (Lit s (suc zero)) g = tt
  letters_good (App Mul s (Cons a (Cons b Nil))) g =
      let h = fits Mul s (Cons a (Cons b Nil)) refl g in
      let e = and_parts (sort_same (sort_of_tree a) s) (sort_same (sort_of_tree b) s && true) h.0 in
      let f = and_parts (sort_same (sort_of_tree b) s) true e.1 in
      let j = two_parts a b h.1 in
      append_kept (IsGood ds s) (letters value a) (letters value b) (at_sort s a e.0 (letters_good a j.0)) (at_sort s b f.0 (letters_good b j.1))
  letters_good (App Inv s (Cons a Nil)) g =
      let h = fits Inv s (Cons a Nil) refl g in
      let e = and_parts (sort_same (sort_of_tree a) s) true h.0 in
      let j = worse-parts (mark_of ds a) Good h.1 in
      inverted_kept (IsGood ds s) (letters value a) (at_sort s a e.0 (letters_good a j.0))
  letters_good (App Div s (Cons a (Cons b Nil))) g =
      let h = fits Div s (Cons a (Cons b Nil)) refl g in
      let e = and_parts (sort_same (sort_of_tree a) s) (sort_same (sort_of_tree b) s && true) h.0 in
      let f = and_parts (sort_same (sort_of_tree b) s) true e.1 in
      let j = two_parts a b h.1 in
      append_kept (IsGood ds s) (letters value a) (inverted (letters value b)) (at_sort s a e.0 (letters_good a j.0)) (inverted_kept (IsGood ds s) (letters value b) (at_sort s b f.0 (letters_good b j.1)))
  letters_good (App Npow s (Cons a (Cons k Nil))) g =
      let h = fits Npow s (Cons a (Cons k Nil)) refl g in
      let e = and_parts (sort_same (sort_of_tree a) s) _ h.0 in
      let j = two_parts a k h.1 in
      power_letters s (binary Npow s a k) (letters value a) (value k) refl g (at_sort s a e.0 (letters_good a j.0))
  letters_good (App Zpow s (Cons a (Cons k Nil))) g =
      let h = fits Zpow s (Cons a (Cons k Nil)) refl g in
      let e = and_parts (sort_same (sort_of_tree a) s) _ h.0 in
      let j = two_parts a k h.1 in
      power_letters s (binary Zpow s a k) (letters value a) (value k) refl g (at_sort s a e.0 (letters_good a j.0))
  letters_good t g = letter_good t g

  pub syllables_good : (t : Tree) → IsWellSorted ds t → AllAtoms (IsGood ds (sort_of_tree t)) (syllables value t)
  syllables_good t g = subst (AllAtoms (IsGood ds (sort_of_tree t))) (sym (syllables_are value t)) (runs_kept (IsGood ds (sort_of_tree t)) (letters value t) (letters_good t g))

  pub normal_form_good : (s : Sort) (t : Tree) → sort_of_tree t ≡ s → has_class ds s Group ≡ true → IsWellSorted ds t → IsGood ds s (normal_form value s t)
  normal_form_good s t e m g = normal_tree_good ds s (subst (λ u. sort_mark ds u ≡ Good) e (known-from_good ds t g)) m (syllables value t) (subst (λ u. AllAtoms (IsGood ds u) (syllables value t)) e (syllables_good t g))
