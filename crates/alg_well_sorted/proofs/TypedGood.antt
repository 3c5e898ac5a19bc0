-- The typed tree of an expression without a fault is well sorted, and of its region's sort.
use Rattle.std.proofs.Common.{◌≡◌, ℕ, zero, suc, true, false, not, nat_eq, nat_lt, ◌^◌, List, [], ◌∷◌, ◌++◌, length, All, Option, Some, None, refl, ap, sym, ◌∙◌, subst}
use Rattle.std.proofs.lemmas.List.Elements.{All-nil, All-cons, All-head, All-tail}
use Rattle.std.specs.Prelude.{slice_get}
use Rattle.alg_terms.specs.declared.sorts.Sort.{Sort}
use Rattle.alg_terms.specs.declared.sorts.Sort.TheVariants.{Nat, Int, Rat, Decl}
use Rattle.alg_terms.specs.declared.symbols.Sym.{Sym}
use Rattle.alg_terms.specs.declared.symbols.Sym.TheVariants as symbol
use Rattle.alg_terms.specs.declared.symbols.Place.TheVariants.{Same}
use Rattle.alg_terms.specs.Tree.{Tree, Lit, Var, of_list}
use Rattle.alg_terms.specs.Order.{sort_same}
use Rattle.alg_terms.specs.Symbols.{places}
use Rattle.alg_law.specs.declared.marks.Mark.TheVariants.{Good}
use Rattle.alg_law.specs.Declarations.{Declaration}
use Rattle.alg_law.specs.Following.{IsKnown}
use Rattle.alg_law.specs.Having.{has_class}
use Rattle.alg_law.specs.WellSorted.{sort_mark, literal_class, class_mark, same_mark, of_sort as of_sort_mark, variable_of, of_function, sorts_same, sorts_agree, symbol_mark, mark_of, marks_of}
use Rattle.alg_law.proofs.WellSortedLaws.{worse-good}
use Rattle.alg_syntax.specs.declared.signs.Operator.TheVariants.{Add, Sub, Mul, Div, Mod, Smul, Pow}
use Rattle.alg_names.specs.declared.meanings.Meaning.{Meaning}
use Rattle.alg_names.specs.declared.meanings.Meaning.TheVariants.{SortName, Variable, Function, Shared, Hypothesis}
use Rattle.alg_names.specs.declared.scope.Scope.{Scope}
use Rattle.alg_names.specs.InForce.{meaning, has}
use Rattle.alg_elaborate.specs.declared.causes.Cause.TheVariants as cause
use Rattle.alg_elaborate.specs.Raw.{Raw, Raws, literal, named, negation, reciprocal, operation, applied, of_sort, none, more, count}
use Rattle.alg_elaborate.specs.Meanings.{type_of, argument_sorts, symbol_of, times}
use Rattle.alg_elaborate.specs.Regions.{exponent_sort, sort_or}
use Rattle.alg_law.specs.Combinations.{difference_of, quotient_of}
use Rattle.alg_elaborate.specs.Operations.{power_of, multiple_of}
use Rattle.alg_elaborate.specs.Faults.{when, lacks, lacks_by, not_integral, differs, literal_faults, name_faults, sort_name_faults, applied_faults, faults, faults_of_each}
use Rattle.alg_elaborate.specs.TypedTrees.{tree_where, compound, typed_name, typed, typed_each}
use Rattle.alg_well_sorted.specs.Agreeing.{Applies, by_declaration, always, IsMeant, Agrees}
use Rattle.alg_well_sorted.proofs.Parts.{append_parts, when_none, and_true, class_good, same_sort, differs_none, integral_known, less_one, none_first, none_last, same_number-self, found_meant, has_same, lacks_none, lacks_by_none, integral_none}
use Rattle.alg_well_sorted.specs.OfSort.{IsOfSort, AreOfSorts}
use Rattle.alg_well_sorted.proofs.Compounds.{tree_where-true, compound-good, unary-good, binary-good, power-good, multiple-good}

-- what a name in force means
pub is_meant : (s : Scope) (ds : List Declaration) → Agrees s ds → (x : List ℕ) → IsMeant ds (meaning s x)
is_meant s ds a x = found_meant ds s.names x a.names

literal-typed : (s : Scope) (ds : List Declaration) → Agrees s ds → (k : Sort) (n : ℕ) → IsKnown ds k → literal_faults s k n ≡ [] → IsOfSort ds k (tree_where (nat_lt n (2 ^ 127)) (Lit k n) k)
literal-typed s ds a k n known e =
    let p = append_parts (when (not (nat_lt n (2 ^ 127))) cause.LiteralTooWide) (when (not (has s k (literal_class n))) cause.NoInstance) e in
    let c : has_class ds k (literal_class n) ≡ true = sym (has_same s ds a k (literal_class n)) ∙ when_none (has s k (literal_class n)) cause.NoInstance p.1 in
    subst (λ t. IsOfSort ds k t) (sym (tree_where-true (nat_lt n (2 ^ 127)) (Lit k n) k (when_none (nat_lt n (2 ^ 127)) cause.LiteralTooWide p.0)))
    record {
      good = worse-good (sort_mark ds k) (class_mark (has_class ds k (literal_class n))) known (class_good (has_class ds k (literal_class n)) c);
      sort = refl;
    }

variable-good : (ds : List Declaration) (d : ℕ) (k l : Sort) → variable_of (slice_get ds d) ≡ Some l → IsKnown ds k → k ≡ l → IsOfSort ds k (Var d k)
variable-good ds d k l v known e =
    record {
      good = worse-good (sort_mark ds k) (of_sort_mark (variable_of (slice_get ds d)) k) known
          (ap (λ o. of_sort_mark o k) v ∙ ap same_mark (same_sort l k (sym e)));
      sort = refl;
    }

pub name-typed : (ds : List Declaration) (k : Sort) (m : Option Meaning) → IsMeant ds m → IsKnown ds k → name_faults false k m ≡ [] → IsOfSort ds k (typed_name k m)
name-typed ds k None h known e = cc
name-typed ds k (Some (SortName l)) h known e = cc
name-typed ds k (Some (Variable d l)) h known e = variable-good ds d k l h.0 known (differs_none k l e)
name-typed ds k (Some (Function f ls l)) h known e = cc
name-typed ds k (Some (Shared f n)) h known e = cc
name-typed ds k (Some (Hypothesis n r l)) h known e = cc

difference_places : (k : Sort) → places (difference_of k) ≡ Same ∷ Same ∷ []
difference_places Nat = refl
difference_places Int = refl
difference_places Rat = refl
difference_places (Decl d) = refl

quotient_places : (k : Sort) → places (quotient_of k) ≡ Same ∷ Same ∷ []
quotient_places Nat = refl
quotient_places Int = refl
quotient_places Rat = refl
quotient_places (Decl d) = refl

same_agree : (ls : List Sort) → sorts_agree ls ls ≡ true
same_agree [] = refl
same_agree (l ∷ ls) = and_true (sort_same l l) (sorts_agree ls ls) (same_sort l l refl) (same_agree ls)

-- a function before arguments of its sorts
pub applies-good : (ds : List Declaration) (f : Sym) (ls : List Sort) (l : Sort) → Applies ds f ls l → symbol_mark ds f l ls ≡ Good
applies-good ds _ _ _ (by_declaration j ls l e) =
    ap (λ o. of_function o l ls) e
    ∙ ap same_mark (and_true (sorts_same ls ls) (sort_same l l) (and_true (nat_eq (length ls) (length ls)) (sorts_agree ls ls) (same_number-self (length ls)) (same_agree ls)) (same_sort l l refl))
applies-good ds _ _ _ (always f ls l h) = h ds

times_counted : (n : ℕ) (k : Sort) → length (times n k) ≡ n
times_counted zero k = refl
times_counted (suc n) k = ap suc (times_counted n k)

pub times_known : (ds : List Declaration) (n : ℕ) (k : Sort) → IsKnown ds k → All (IsKnown ds) (times n k)
times_known ds zero k h = All-nil (IsKnown ds)
times_known ds (suc n) k h = All-cons (IsKnown ds) k (times n k) h (times_known ds n k h)

argument_sorts-known : (ds : List Declaration) (k : Sort) (m : Option Meaning) → IsMeant ds m → IsKnown ds k → All (IsKnown ds) (argument_sorts k m)
argument_sorts-known ds k None h known = All-nil (IsKnown ds)
argument_sorts-known ds k (Some (SortName l)) h known = All-nil (IsKnown ds)
argument_sorts-known ds k (Some (Variable d l)) h known = All-nil (IsKnown ds)
argument_sorts-known ds k (Some (Function f ls l)) h known = h.arguments
argument_sorts-known ds k (Some (Shared f n)) h known = times_known ds n k known
argument_sorts-known ds k (Some (Hypothesis n r l)) h known = All-nil (IsKnown ds)

-- as many arguments as there are sorts
arguments_counted : (s : Scope) (k : Sort) (m : Option Meaning) (n : ℕ) → applied_faults s k m n ≡ [] → nat_eq n (length (argument_sorts k m)) ≡ true
arguments_counted s k None n e = cc
arguments_counted s k (Some (SortName l)) n e = cc
arguments_counted s k (Some (Variable d l)) n e = cc
arguments_counted s k (Some (Function f ls l)) n e =
    when_none (nat_eq n (length ls)) cause.SortMismatch (append_parts (when (not (nat_eq n (length ls))) cause.SortMismatch) (differs k l) e).0
arguments_counted s k (Some (Shared f m)) n e =
    ap (λ j. nat_eq n j) (times_counted m k)
    ∙ when_none (nat_eq n m) cause.SortMismatch (append_parts (when (not (nat_eq n m)) cause.SortMismatch) (lacks s f k) e).0
arguments_counted s k (Some (Hypothesis m r l)) n e = cc

-- the symbol is good before arguments of these sorts
head-good : (s : Scope) (ds : List Declaration) → Agrees s ds → (k : Sort) (m : Option Meaning) (n : ℕ) → IsMeant ds m → applied_faults s k m n ≡ [] → symbol_mark ds (symbol_of m) k (argument_sorts k m) ≡ Good
head-good s ds a k None n h e = cc
head-good s ds a k (Some (SortName l)) n h e = cc
head-good s ds a k (Some (Variable d l)) n h e = cc
head-good s ds a k (Some (Function f ls l)) n h e =
    let p = append_parts (when (not (nat_eq n (length ls))) cause.SortMismatch) (differs k l) e in
    ap (λ j. symbol_mark ds f j ls) (differs_none k l p.1) ∙ applies-good ds f ls l h.applies
head-good s ds a k (Some (Shared f m)) n h e =
    let p = append_parts (when (not (nat_eq n m)) cause.SortMismatch) (lacks s f k) e in
    let q = lacks_none s ds a f k p.1 in
    h ds k q.0 q.1
head-good s ds a k (Some (Hypothesis m r l)) n h e = cc

applied-typed : (ds : List Declaration) (k : Sort) (f : Sym) (ks : List Sort) (n : ℕ) (ts : List Tree) → IsKnown ds k → symbol_mark ds f k ks ≡ Good → nat_eq n (length ks) ≡ true → AreOfSorts ds ks ts → IsOfSort ds k (tree_where (nat_eq n (length ks)) (compound f k ts) k)
applied-typed ds k f ks n ts known h c g =
    subst (λ t. IsOfSort ds k t) (sym (tree_where-true (nat_eq n (length ks)) (compound f k ts) k c))
    (compound-good ds f k ts known (ap (λ ls. symbol_mark ds f k ls) g.sorts ∙ h) g.good)

-- an expression with its sort is of that sort
sort_named : (k : Sort) (m : Option Meaning) → sort_name_faults k m ≡ [] → sort_or k (type_of m) ≡ k
sort_named k None e = cc
sort_named k (Some (SortName l)) e = sym (differs_none k l e)
sort_named k (Some (Variable d l)) e = cc
sort_named k (Some (Function f ls l)) e = cc
sort_named k (Some (Shared f n)) e = cc
sort_named k (Some (Hypothesis n r l)) e = cc

one_more : (ds : List Declaration) (k : Sort) (ks : List Sort) (t : Tree) (ts : List Tree) → IsOfSort ds k t → AreOfSorts ds ks ts → AreOfSorts ds (k ∷ ks) (t ∷ ts)
one_more ds k ks t ts g h =
    record {
      good = worse-good (mark_of ds t) (marks_of ds (of_list ts)) g.good h.good;
      sorts = λ i. g.sort i ∷ h.sorts i;
    }

mutual
  pub typed-good : (s : Scope) (ds : List Declaration) → Agrees s ds → (k : Sort) (t : Raw) → IsKnown ds k → faults s false k t ≡ [] → IsOfSort ds k (typed s k t)
  typed-good s ds g k (literal n) known e = literal-typed s ds g k n known e
  typed-good s ds g k (named x) known e = name-typed ds k (meaning s x) (is_meant s ds g x) known e
  typed-good s ds g k (negation a) known e =
      let p = append_parts (lacks s symbol.Neg k) (faults s false k a) e in
      unary-good ds symbol.Neg k (typed s k a) refl (lacks_none s ds g symbol.Neg k p.0) known (typed-good s ds g k a known p.1)
  typed-good s ds g k (reciprocal a) known e =
      let p = append_parts (lacks s symbol.Inv k) (faults s false k a) e in
      unary-good ds symbol.Inv k (typed s k a) refl (lacks_none s ds g symbol.Inv k p.0) known (typed-good s ds g k a known p.1)
  typed-good s ds g k (operation Add a b) known e =
      let p = append_parts (lacks s symbol.Add k) (faults s false k a ++ faults s false k b) e in
      let q = append_parts (faults s false k a) (faults s false k b) p.1 in
      binary-good ds symbol.Add k (typed s k a) (typed s k b) refl (lacks_none s ds g symbol.Add k p.0) known (typed-good s ds g k a known q.0) (typed-good s ds g k b known q.1)
  typed-good s ds g k (operation Sub a b) known e =
      let p = append_parts (lacks s (difference_of k) k) (faults s false k a ++ faults s false k b) e in
      let q = append_parts (faults s false k a) (faults s false k b) p.1 in
      binary-good ds (difference_of k) k (typed s k a) (typed s k b) (difference_places k) (lacks_none s ds g (difference_of k) k p.0) known (typed-good s ds g k a known q.0) (typed-good s ds g k b known q.1)
  typed-good s ds g k (operation Mul a b) known e =
      let p = append_parts (lacks s symbol.Mul k) (faults s false k a ++ faults s false k b) e in
      let q = append_parts (faults s false k a) (faults s false k b) p.1 in
      binary-good ds symbol.Mul k (typed s k a) (typed s k b) refl (lacks_none s ds g symbol.Mul k p.0) known (typed-good s ds g k a known q.0) (typed-good s ds g k b known q.1)
  typed-good s ds g k (operation Div a b) known e =
      let p = append_parts (lacks s (quotient_of k) k) (faults s false k a ++ faults s false k b) e in
      let q = append_parts (faults s false k a) (faults s false k b) p.1 in
      binary-good ds (quotient_of k) k (typed s k a) (typed s k b) (quotient_places k) (lacks_none s ds g (quotient_of k) k p.0) known (typed-good s ds g k a known q.0) (typed-good s ds g k b known q.1)
  typed-good s ds g k (operation Mod a b) known e =
      let p = append_parts (lacks s symbol.Mod k) (faults s false k a ++ faults s false k b) e in
      let q = append_parts (faults s false k a) (faults s false k b) p.1 in
      binary-good ds symbol.Mod k (typed s k a) (typed s k b) refl (lacks_none s ds g symbol.Mod k p.0) known (typed-good s ds g k a known q.0) (typed-good s ds g k b known q.1)
  typed-good s ds g k (operation Smul x a) known e =
      let l = exponent_sort s x in
      let p = append_parts (lacks_by s l (multiple_of l) k) ((not_integral l ++ faults s false l x) ++ faults s false k a) e in
      let q = append_parts (not_integral l ++ faults s false l x) (faults s false k a) p.1 in
      let r = append_parts (not_integral l) (faults s false l x) q.0 in
      let i = integral_none l r.0 in
      multiple-good ds l k (typed s l x) (typed s k a) i (lacks_by_none s ds g l (multiple_of l) k p.0 i) known (typed-good s ds g l x (integral_known ds l i) r.1) (typed-good s ds g k a known q.1)
  typed-good s ds g k (operation Pow a x) known e =
      let l = exponent_sort s x in
      let p = append_parts (lacks_by s l (power_of l) k) (faults s false k a ++ (not_integral l ++ faults s false l x)) e in
      let q = append_parts (faults s false k a) (not_integral l ++ faults s false l x) p.1 in
      let r = append_parts (not_integral l) (faults s false l x) q.1 in
      let i = integral_none l r.0 in
      power-good ds l k (typed s k a) (typed s l x) i (lacks_by_none s ds g l (power_of l) k p.0 i) known (typed-good s ds g k a known q.0) (typed-good s ds g l x (integral_known ds l i) r.1)
  typed-good s ds g k (applied f us) known e =
      let m = meaning s f in
      let ks = argument_sorts k m in
      let p = append_parts (applied_faults s k m (count us)) (faults_of_each s false us ks) e in
      let c = arguments_counted s k m (count us) p.0 in
      applied-typed ds k (symbol_of m) ks (count us) (typed_each s us ks) known (head-good s ds g k m (count us) (is_meant s ds g f) p.0) c
      (typed_each-good s ds g us ks (argument_sorts-known ds k m (is_meant s ds g f) known) c p.1)
  typed-good s ds g k (of_sort a x) known e =
      let l = sort_or k (type_of (meaning s x)) in
      let p = append_parts (sort_name_faults k (meaning s x)) (faults s false l a) e in
      let h : l ≡ k = sort_named k (meaning s x) p.0 in
      subst (λ j. IsOfSort ds j (typed s l a)) h (typed-good s ds g l a (subst (λ j. IsKnown ds j) (sym h) known) p.1)

  pub typed_each-good : (s : Scope) (ds : List Declaration) → Agrees s ds → (us : Raws) (ks : List Sort) → All (IsKnown ds) ks → nat_eq (count us) (length ks) ≡ true → faults_of_each s false us ks ≡ [] → AreOfSorts ds ks (typed_each s us ks)
  typed_each-good s ds g none [] h c e = record { good = refl; sorts = refl }
  typed_each-good s ds g none (k ∷ ks) h c e = absurd (none_first (length ks) c)
  typed_each-good s ds g (more a us) [] h c e = absurd (none_last (count us) c)
  typed_each-good s ds g (more a us) (k ∷ ks) h c e =
      let p = append_parts (faults s false k a) (faults_of_each s false us ks) e in
      one_more ds k ks (typed s k a) (typed_each s us ks) (typed-good s ds g k a (All-head (IsKnown ds) k ks h) p.0)
      (typed_each-good s ds g us ks (All-tail (IsKnown ds) k ks h) (less_one (count us) (length ks) c) p.1)
