-- What is written for a well sorted tree is read as that tree, and without a fault.
use Rattle.std.proofs.Common.{◌≡◌, ℕ, suc, ◌<◌, ◌^◌, List, [], ◌∷◌, ◌++◌, length, map, Bool, true, false, not, ◌&&◌, ◌||◌, nat_eq, nat_lt, Option, Some, None, refl, ap, sym, ◌∙◌, subst, arith}
use Rattle.std.specs.Prelude.{⊤}
use Rattle.std.proofs.lemmas.Bool.{lt-ltb}
use Rattle.alg_terms.specs.declared.sorts.Sort.{Sort}
use Rattle.alg_terms.specs.declared.sorts.Sort.TheVariants.{Nat, Int}
use Rattle.alg_terms.specs.declared.symbols.Sym.{Sym}
use Rattle.alg_terms.specs.declared.symbols.Sym.TheVariants as sym_
use Rattle.alg_terms.specs.Tree.{Tree, Lit, Var, App, Trees, Nil, Cons, to_list, sort_of_tree}
use Rattle.alg_terms.proofs.TreeLaws.{of_list-to_list}
use Rattle.alg_terms.specs.Order.{sort_same}
use Rattle.alg_terms.proofs.OrderLaws.{sort_same-equal, sort_same-self}
use Rattle.alg_terms.specs.Symbols.{serves, is_integral}
use Rattle.alg_expr.specs.Applying.{arity_fits, sorts_fit}
use Rattle.alg_law.specs.Declarations.{Declaration}
use Rattle.alg_law.specs.Following.{IsKnown}
use Rattle.alg_law.specs.Having.{has_class}
use Rattle.alg_law.specs.WellSorted.{literal_class, has_classes}
use Rattle.alg_syntax.specs.declared.signs.Operator.{Operator}
use Rattle.alg_syntax.specs.declared.signs.Operator.TheVariants.{Smul, Pow}
use Rattle.alg_names.specs.declared.meanings.Meaning.TheVariants as meaning
use Rattle.alg_names.specs.declared.scope.Scope.{Scope}
use Rattle.alg_names.specs.InForce.{has, supports, instances}
use Rattle.alg_names.specs.InForce as in_force
use Rattle.alg_elaborate.specs.declared.causes.Cause.{Cause}
use Rattle.alg_elaborate.specs.declared.causes.Cause.TheVariants as cause
use Rattle.alg_elaborate.specs.Raw.{Raw, Raws, literal, negation, reciprocal, operation, applied, none, more, count}
use Rattle.alg_elaborate.specs.Meanings.{type_of, value_sort, is_shared, argument_sorts, symbol_of}
use Rattle.alg_elaborate.specs.Operations.{power_of, multiple_of}
use Rattle.alg_elaborate.specs.Regions.{parts, either, leaves, leaves_of_each, leaf_sort, or_else, first_known, sort_or, exponent_default, exponent_sort}
use Rattle.alg_elaborate.specs.Faults.{when, lacks, lacks_by, not_integral, differs, literal_faults, name_faults, sort_name_faults, applied_faults, faults, faults_of_each}
use Rattle.alg_elaborate.specs.TypedTrees.{tree_where, compound, typed_name, typed, typed_each}
use Rattle.alg_well_sorted.proofs.Parts.{and_true, has_same, classes_same, same_number-self}
use Rattle.alg_well_sorted.proofs.Compounds.{tree_where-true}
use Rattle.alg_show.specs.Names.{name_at, sort_name}
use Rattle.alg_show.specs.Knowing.{knows, default_of, asks}
use Rattle.alg_show.specs.Unparenthesized.{number_raw, raw}
use Rattle.alg_show.specs.Tasks.{IsNarrow, AreNarrow, argument_raws}
use Rattle.alg_show.specs.ReadingBack.{IsNamed}
use Rattle.alg_show.proofs.Fitting.{IsProper, AreProper}
use Rattle.alg_show.proofs.Scoped.{Stands}

first_append : (s : Scope) (xs ys : List Raw) → first_known s (xs ++ ys) ≡ or_else (first_known s xs) (first_known s ys)
first_append s [] ys = refl
first_append s (x ∷ xs) ys = ap (or_else (leaf_sort s x)) (first_append s xs ys) ∙ by (leaf_sort s x)
  where
    by : (o : Option Sort) → or_else o (or_else (first_known s xs) (first_known s ys)) ≡ or_else (or_else o (first_known s xs)) (first_known s ys)
    by (Some k) = refl
    by None = refl

abbrev pub known_sort : Bool → Sort → Option Sort
known_sort true k = Some k
known_sort false k = None

joined_sorts : (p q : Bool) (k : Sort) → or_else (known_sort p k) (known_sort q k) ≡ known_sort (p || q) k
joined_sorts true q k = refl
joined_sorts false true k = refl
joined_sorts false false k = refl

known_end : (p : Bool) (k : Sort) → or_else (known_sort p k) None ≡ known_sort p k
known_end true k = refl
known_end false k = refl

pub or_none : (b : Bool) → (b || false) ≡ b
or_none true = refl
or_none false = refl

pub when_not : (b : Bool) (c : Cause) → b ≡ true → when (not b) c ≡ []
when_not true c e = refl
when_not false c e = cc

pub both_none : {A : Type 0} (xs ys : List A) → xs ≡ [] → ys ≡ [] → xs ++ ys ≡ []
both_none xs ys e f = ap (λ x. x ++ ys) e ∙ f

no_difference : (k l : Sort) → k ≡ l → differs k l ≡ []
no_difference k l e = when_not (sort_same k l) cause.SortMismatch (ap (λ x. sort_same x l) e ∙ sort_same-self l)

module _ (s : Scope) (ds : List Declaration) (st : Stands s ds) where
  -- how what is written is read, where k is the tree's sort
  pub record ReadsAs (k : Sort) (t : Tree) (w : Bool → Raw) (kn : Bool) (df : Sort) : Type 0 where
    pub asked : first_known s (leaves s (w true)) ≡ Some k
    pub known : first_known s (leaves s (w false)) ≡ known_sort kn k
    pub typed : (b : Bool) → IsNarrow (w b) → typed s k (w b) ≡ t
    pub faultless : (b : Bool) → IsNarrow (w b) → faults s false k (w b) ≡ []
    pub proper : (b : Bool) → IsProper (w b)
    pub default : (b : Bool) → exponent_default (w b) ≡ df

  abbrev pub Reads : Tree → Type 0
  Reads t = ReadsAs (sort_of_tree t) t (λ b. raw ds b t) (knows t) (default_of t)

  abbrev pub AllRead : Trees → Type 0
  AllRead Nil = ⊤
  AllRead (Cons x xs) = Reads x × AllRead xs

  pub of_sort_k : (k : Sort) (x : Tree) → sort_of_tree x ≡ k → Reads x → ReadsAs k x (λ b. raw ds b x) (knows x) (default_of x)
  of_sort_k k x e r = subst (λ l. ReadsAs l x (λ b. raw ds b x) (knows x) (default_of x)) e r

  pub there : (f : Sym) (k : Sort) → serves f k ≡ true → has_classes ds f k ≡ true → supports s f k ≡ true
  there f k p q = and_true (serves f k) (has_classes (instances s) f k) p (classes_same (instances s) ds k (has_same s ds st.agrees k) f ∙ q)

  pub no_lack : (f : Sym) (k : Sort) → serves f k ≡ true → has_classes ds f k ≡ true → lacks s f k ≡ []
  no_lack f k p q = when_not (supports s f k) cause.NoInstance (there f k p q)

  -- ---- leaves

  literal_faultless : (k : Sort) (n : ℕ) → has_class ds k (literal_class n) ≡ true → n < 2 ^ 127 → literal_faults s k n ≡ []
  literal_faultless k n c l =
      both_none _ _ (when_not (nat_lt n (2 ^ 127)) cause.LiteralTooWide (lt-ltb n (2 ^ 127) l))
      (when_not (has s k (literal_class n)) cause.NoInstance (has_same s ds st.agrees k (literal_class n) ∙ c))

  pub literal_reads : (k : Sort) (n : ℕ) → IsKnown ds k → IsNamed (sort_name ds k) → has_class ds k (literal_class n) ≡ true → Reads (Lit k n)
  literal_reads k n known named_ c =
      record {
        asked = ap (λ m. or_else (type_of m) None) (st.sorts k known);
        known = refl;
        typed = reads_literal;
        faultless = faultless_literal;
        proper = proper_literal;
        default = default_literal;
      }
    where
      narrow : n < 2 ^ 127 → tree_where (nat_lt n (2 ^ 127)) (Lit k n) k ≡ Lit k n
      narrow l = tree_where-true (nat_lt n (2 ^ 127)) (Lit k n) k (lt-ltb n (2 ^ 127) l)

      reads_literal : (b : Bool) → IsNarrow (number_raw ds b k n) → typed s k (number_raw ds b k n) ≡ Lit k n
      reads_literal true l = ap (λ m. typed s (sort_or k (type_of m)) (literal n)) (st.sorts k known) ∙ narrow l
      reads_literal false l = narrow l

      faultless_literal : (b : Bool) → IsNarrow (number_raw ds b k n) → faults s false k (number_raw ds b k n) ≡ []
      faultless_literal true l =
          ap (λ m. sort_name_faults k m ++ faults s false (sort_or k (type_of m)) (literal n)) (st.sorts k known)
          ∙ both_none _ _ (no_difference k k refl) (literal_faultless k n c l)
      faultless_literal false l = literal_faultless k n c l

      proper_literal : (b : Bool) → IsProper (number_raw ds b k n)
      proper_literal true = (tt, named_)
      proper_literal false = tt

      default_literal : (b : Bool) → exponent_default (number_raw ds b k n) ≡ Nat
      default_literal true = refl
      default_literal false = refl

  pub variable_reads : (d : ℕ) (k : Sort) → in_force.meaning s (name_at ds d) ≡ Some (meaning.Variable d k) → IsNamed (name_at ds d) → Reads (Var d k)
  variable_reads d k m named_ =
      record {
        asked = ap (λ o. or_else (value_sort o) None) m;
        known = ap (λ o. or_else (value_sort o) None) m;
        typed = λ b l. ap (typed_name k) m;
        faultless = λ b l. ap (name_faults false k) m ∙ no_difference k k refl;
        proper = λ b. named_;
        default = λ b. refl;
      }

  -- ---- one part

  pub negation_reads : (k : Sort) (x : Tree) → ReadsAs k x (λ b. raw ds b x) (knows x) (default_of x) → lacks s sym_.Neg k ≡ [] → (arity_fits sym_.Neg 1 && sorts_fit sym_.Neg k (sort_of_tree x ∷ [])) ≡ true → (kn : Bool) → kn ≡ knows x → ReadsAs k (App sym_.Neg k (Cons x Nil)) (λ b. negation (raw ds b x)) kn Int
  negation_reads k x r l fit kn e =
      record {
        asked = r.asked;
        known = r.known ∙ ap (λ b. known_sort b k) (sym e);
        typed = λ b w. ap (λ y. compound sym_.Neg k (y ∷ [])) (r.typed b w) ∙ tree_where-true _ _ k fit;
        faultless = λ b w. both_none _ _ l (r.faultless b w);
        proper = r.proper;
        default = λ b. refl;
      }

  pub inverse_reads : (k : Sort) (x : Tree) → ReadsAs k x (λ b. raw ds b x) (knows x) (default_of x) → lacks s sym_.Inv k ≡ [] → (arity_fits sym_.Inv 1 && sorts_fit sym_.Inv k (sort_of_tree x ∷ [])) ≡ true → (kn : Bool) → kn ≡ knows x → ReadsAs k (App sym_.Inv k (Cons x Nil)) (λ b. reciprocal (raw ds b x)) kn Nat
  inverse_reads k x r l fit kn e =
      record {
        asked = r.asked;
        known = r.known ∙ ap (λ b. known_sort b k) (sym e);
        typed = λ b w. ap (λ y. compound sym_.Inv k (y ∷ [])) (r.typed b w) ∙ tree_where-true _ _ k fit;
        faultless = λ b w. both_none _ _ l (r.faultless b w);
        proper = r.proper;
        default = λ b. refl;
      }

  -- ---- two parts of one region

  pub two_known : (k : Sort) (xs ys : List Raw) (p q : Bool) → first_known s xs ≡ known_sort p k → first_known s ys ≡ known_sort q k → first_known s (xs ++ ys) ≡ known_sort (p || q) k
  two_known k xs ys p q e f = first_append s xs ys ∙ (ap (λ o. or_else o (first_known s ys)) e ∙ (ap (or_else (known_sort p k)) f ∙ joined_sorts p q k))

  pub two_asked : (k : Sort) (xs ys : List Raw) → first_known s xs ≡ Some k → first_known s (xs ++ ys) ≡ Some k
  two_asked k xs ys e = first_append s xs ys ∙ ap (λ o. or_else o (first_known s ys)) e

  -- how an operator is read where both parts are of the region
  pub record Joins (o : Operator) (f : Sym) (k : Sort) : Type 0 where
    pub parts_of : (xs ys : List Raw) → parts o xs ys ≡ xs ++ ys
    pub typed_of : (a b : Raw) → typed s k (operation o a b) ≡ compound f k (typed s k a ∷ typed s k b ∷ [])
    pub faults_of : (a b : Raw) → faults s false k (operation o a b) ≡ lacks s f k ++ (faults s false k a ++ faults s false k b)

  pub operation_reads : (o : Operator) (f : Sym) (k : Sort) → Joins o f k → (x y : Tree) → ReadsAs k x (λ b. raw ds b x) (knows x) (default_of x) → ReadsAs k y (λ b. raw ds b y) (knows y) (default_of y) → lacks s f k ≡ [] → (arity_fits f 2 && sorts_fit f k (sort_of_tree x ∷ sort_of_tree y ∷ [])) ≡ true → ReadsAs k (App f k (Cons x (Cons y Nil))) (λ b. operation o (raw ds b x) (raw ds false y)) (knows x || knows y) Nat
  operation_reads o f k j x y r q l fit =
      record {
        asked = ap (first_known s) (j.parts_of (leaves s (raw ds true x)) (leaves s (raw ds false y))) ∙ two_asked k (leaves s (raw ds true x)) (leaves s (raw ds false y)) r.asked;
        known = ap (first_known s) (j.parts_of (leaves s (raw ds false x)) (leaves s (raw ds false y))) ∙ two_known k (leaves s (raw ds false x)) (leaves s (raw ds false y)) (knows x) (knows y) r.known q.known;
        typed = λ b w.
            j.typed_of (raw ds b x) (raw ds false y)
            ∙ (ap (λ z. compound f k (z ∷ typed s k (raw ds false y) ∷ [])) (r.typed b w.0)
            ∙ (ap (λ z. compound f k (x ∷ z ∷ [])) (q.typed false w.1) ∙ tree_where-true _ _ k fit));
        faultless = λ b w. j.faults_of (raw ds b x) (raw ds false y) ∙ both_none _ _ l (both_none _ _ (r.faultless b w.0) (q.faultless false w.1));
        proper = λ b. (r.proper b, q.proper false);
        default = λ b. refl;
      }

  -- ---- exponents

  sort_or_known : (p : Bool) (j k : Sort) → j ≡ k → sort_or j (known_sort p k) ≡ k
  sort_or_known true j k e = refl
  sort_or_known false j k e = e

  pub settled : (k : Sort) (w : Bool → List Raw) (kn : Bool) (d : Sort) (ask : Bool) → first_known s (w true) ≡ Some k → first_known s (w false) ≡ known_sort kn k → ask ≡ (not kn && not (sort_same d k)) → sort_or d (first_known s (w ask)) ≡ k
  settled k w kn d true a e h = ap (sort_or d) a
  settled k w true d false a e h = ap (sort_or d) e
  settled k w false d false a e h = ap (sort_or d) e ∙ same (sort_same d k) refl h
    where
      same : (b : Bool) → sort_same d k ≡ b → false ≡ not b → d ≡ k
      same true f g = sort_same-equal d k f
      same false f g = cc

  exponent_read : (e : Tree) → Reads e → exponent_sort s (raw ds (asks e) e) ≡ sort_of_tree e
  exponent_read e r =
      ap (λ d. sort_or d (first_known s (leaves s (raw ds (asks e) e)))) (r.default (asks e))
      ∙ settled (sort_of_tree e) (λ b. leaves s (raw ds b e)) (knows e) (default_of e) (asks e) r.asked r.known refl

  integral_ok : (l : Sort) → is_integral l ≡ true → not_integral l ≡ []
  integral_ok l e = when_not (is_integral l) cause.SortMismatch e

  no_lack_by : (l : Sort) (f : Sym) (k : Sort) → is_integral l ≡ true → supports s f k ≡ true → lacks_by s l f k ≡ []
  no_lack_by l f k i e = ap (λ b. when (is_integral l && not b) cause.NoInstance) e ∙ off (is_integral l)
    where
      off : (b : Bool) → when (b && false) cause.NoInstance ≡ []
      off true = refl
      off false = refl

  pub power_reads : (k : Sort) (x e : Tree) (l : Sort) → sort_of_tree e ≡ l → is_integral l ≡ true → ReadsAs k x (λ b. raw ds b x) (knows x) (default_of x) → Reads e → supports s (power_of l) k ≡ true → (arity_fits (power_of l) 2 && sorts_fit (power_of l) k (sort_of_tree x ∷ sort_of_tree e ∷ [])) ≡ true → (kn : Bool) → kn ≡ knows x → ReadsAs k (App (power_of l) k (Cons x (Cons e Nil))) (λ b. operation Pow (raw ds b x) (raw ds (asks e) e)) kn Nat
  power_reads k x e l h i r q there_ fit kn g =
      let w = raw ds (asks e) e in
      let sort : exponent_sort s w ≡ l = exponent_read e q ∙ h in
      let q' : ReadsAs l e (λ b. raw ds b e) (knows e) (default_of e) = of_sort_k l e h q in
      record {
        asked = r.asked;
        known = r.known ∙ ap (λ b. known_sort b k) (sym g);
        typed = λ b n.
            ap (λ m. compound (power_of m) k (typed s k (raw ds b x) ∷ typed s m w ∷ [])) sort
            ∙ (ap (λ z. compound (power_of l) k (z ∷ typed s l w ∷ [])) (r.typed b n.0)
            ∙ (ap (λ z. compound (power_of l) k (x ∷ z ∷ [])) (q'.typed (asks e) n.1) ∙ tree_where-true _ _ k fit));
        faultless = λ b n.
            ap (λ m. lacks_by s m (power_of m) k ++ (faults s false k (raw ds b x) ++ (not_integral m ++ faults s false m w))) sort
            ∙ both_none _ _ (no_lack_by l (power_of l) k i there_) (both_none _ _ (r.faultless b n.0) (both_none _ _ (integral_ok l i) (q'.faultless (asks e) n.1)));
        proper = λ b. (r.proper b, q.proper (asks e));
        default = λ b. refl;
      }

  pub multiple_reads : (k : Sort) (e x : Tree) (l : Sort) → sort_of_tree e ≡ l → is_integral l ≡ true → Reads e → ReadsAs k x (λ b. raw ds b x) (knows x) (default_of x) → supports s (multiple_of l) k ≡ true → (arity_fits (multiple_of l) 2 && sorts_fit (multiple_of l) k (sort_of_tree e ∷ sort_of_tree x ∷ [])) ≡ true → ReadsAs k (App (multiple_of l) k (Cons e (Cons x Nil))) (λ b. operation Smul (raw ds (asks e) e) (raw ds b x)) (knows x) Nat
  multiple_reads k e x l h i q r there_ fit =
      let w = raw ds (asks e) e in
      let sort : exponent_sort s w ≡ l = exponent_read e q ∙ h in
      let q' : ReadsAs l e (λ b. raw ds b e) (knows e) (default_of e) = of_sort_k l e h q in
      record {
        asked = r.asked;
        known = r.known;
        typed = λ b n.
            ap (λ m. compound (multiple_of m) k (typed s m w ∷ typed s k (raw ds b x) ∷ [])) sort
            ∙ (ap (λ z. compound (multiple_of l) k (typed s l w ∷ z ∷ [])) (r.typed b n.1)
            ∙ (ap (λ z. compound (multiple_of l) k (z ∷ x ∷ [])) (q'.typed (asks e) n.0) ∙ tree_where-true _ _ k fit));
        faultless = λ b n.
            ap (λ m. lacks_by s m (multiple_of m) k ++ ((not_integral m ++ faults s false m w) ++ faults s false k (raw ds b x))) sort
            ∙ both_none _ _ (no_lack_by l (multiple_of l) k i there_) (both_none _ _ (both_none _ _ (integral_ok l i) (q'.faultless (asks e) n.0)) (r.faultless b n.1));
        proper = λ b. (q.proper (asks e), r.proper b);
        default = λ b. refl;
      }

  -- ---- functions of any one sort

  pub one_shared : (f : Sym) (g : List ℕ) (k : Sort) (x : Tree) → in_force.meaning s g ≡ Some (meaning.Shared f 1) → IsNamed g → ReadsAs k x (λ b. raw ds b x) (knows x) (default_of x) → lacks s f k ≡ [] → (arity_fits f 1 && sorts_fit f k (sort_of_tree x ∷ [])) ≡ true → (kn : Bool) → kn ≡ knows x → ReadsAs k (App f k (Cons x Nil)) (λ b. applied g (more (raw ds b x) none)) kn Nat
  one_shared f g k x m named_ r l fit kn h =
      record {
        asked = ap (first_known s) (region (raw ds true x)) ∙ two_asked k (leaves s (raw ds true x)) [] r.asked;
        known = ap (first_known s) (region (raw ds false x)) ∙ (two_known k (leaves s (raw ds false x)) [] (knows x) false r.known refl ∙ ap (λ b. known_sort b k) (or_none (knows x) ∙ sym h));
        typed = λ b w.
            ap (λ o. tree_where (nat_eq 1 (length (argument_sorts k o))) (compound (symbol_of o) k (typed_each s (more (raw ds b x) none) (argument_sorts k o))) k) m
            ∙ (ap (λ z. compound f k (z ∷ [])) (r.typed b w.0) ∙ tree_where-true _ _ k fit);
        faultless = λ b w.
            ap (λ o. applied_faults s k o 1 ++ faults_of_each s false (more (raw ds b x) none) (argument_sorts k o)) m
            ∙ both_none _ _ l (both_none _ _ (r.faultless b w.0) refl);
        proper = λ b. (named_, (omega arith, (r.proper b, tt)));
        default = λ b. refl;
      }
    where
      region : (a : Raw) → leaves s (applied g (more a none)) ≡ leaves s a ++ []
      region a = ap (λ o. either (is_shared o) (leaves s a ++ []) (applied g (more a none) ∷ [])) m

  pub two_shared : (f : Sym) (g : List ℕ) (k : Sort) (x y : Tree) → in_force.meaning s g ≡ Some (meaning.Shared f 2) → IsNamed g → ReadsAs k x (λ b. raw ds b x) (knows x) (default_of x) → ReadsAs k y (λ b. raw ds b y) (knows y) (default_of y) → lacks s f k ≡ [] → (arity_fits f 2 && sorts_fit f k (sort_of_tree x ∷ sort_of_tree y ∷ [])) ≡ true → ReadsAs k (App f k (Cons x (Cons y Nil))) (λ b. applied g (more (raw ds b x) (more (raw ds false y) none))) (knows x || knows y) Nat
  two_shared f g k x y m named_ r q l fit =
      record {
        asked = ap (first_known s) (region (raw ds true x) (raw ds false y)) ∙ two_asked k (leaves s (raw ds true x)) (leaves s (raw ds false y) ++ []) r.asked;
        known = ap (first_known s) (region (raw ds false x) (raw ds false y))
            ∙ two_known k (leaves s (raw ds false x)) (leaves s (raw ds false y) ++ []) (knows x) (knows y) r.known
            (two_known k (leaves s (raw ds false y)) [] (knows y) false q.known refl ∙ ap (λ b. known_sort b k) (or_none (knows y)));
        typed = λ b w.
            ap (λ o. tree_where (nat_eq 2 (length (argument_sorts k o))) (compound (symbol_of o) k (typed_each s (more (raw ds b x) (more (raw ds false y) none)) (argument_sorts k o))) k) m
            ∙ (ap (λ z. compound f k (z ∷ typed s k (raw ds false y) ∷ [])) (r.typed b w.0)
            ∙ (ap (λ z. compound f k (x ∷ z ∷ [])) (q.typed false w.1.0) ∙ tree_where-true _ _ k fit));
        faultless = λ b w.
            ap (λ o. applied_faults s k o 2 ++ faults_of_each s false (more (raw ds b x) (more (raw ds false y) none)) (argument_sorts k o)) m
            ∙ both_none _ _ l (both_none _ _ (r.faultless b w.0) (both_none _ _ (q.faultless false w.1.0) refl));
        proper = λ b. (named_, (omega arith, (r.proper b, (q.proper false, tt))));
        default = λ b. refl;
      }
    where
      region : (a b : Raw) → leaves s (applied g (more a (more b none))) ≡ leaves s a ++ (leaves s b ++ [])
      region a b = ap (λ o. either (is_shared o) (leaves s a ++ (leaves s b ++ [])) (applied g (more a (more b none)) ∷ [])) m

  -- ---- functions with sorts of their own

  -- each argument has the sort that stands for it
  abbrev pub OfSorts : List Sort → Trees → Type 0
  OfSorts [] Nil = ⊤
  OfSorts [] (Cons x xs) = ⊥
  OfSorts (l ∷ ls) Nil = ⊥
  OfSorts (l ∷ ls) (Cons x xs) = (sort_of_tree x ≡ l) × OfSorts ls xs

  abbrev written : Trees → Raws
  written xs = argument_raws ds false (to_list xs)

  each_typed : (ls : List Sort) (xs : Trees) → OfSorts ls xs → AllRead xs → AreNarrow (written xs) → typed_each s (written xs) ls ≡ to_list xs
  each_typed [] Nil o r w = refl
  each_typed [] (Cons x xs) o r w = absurd o
  each_typed (l ∷ ls) Nil o r w = absurd o
  each_typed (l ∷ ls) (Cons x xs) o r w =
      ap (λ z. z ∷ typed_each s (written xs) ls) ((of_sort_k l x o.0 r.0).typed false w.0)
      ∙ ap (λ zs. x ∷ zs) (each_typed ls xs o.1 r.1 w.1)

  each_faultless : (ls : List Sort) (xs : Trees) → OfSorts ls xs → AllRead xs → AreNarrow (written xs) → faults_of_each s false (written xs) ls ≡ []
  each_faultless [] Nil o r w = refl
  each_faultless [] (Cons x xs) o r w = absurd o
  each_faultless (l ∷ ls) Nil o r w = absurd o
  each_faultless (l ∷ ls) (Cons x xs) o r w = both_none _ _ ((of_sort_k l x o.0 r.0).faultless false w.0) (each_faultless ls xs o.1 r.1 w.1)

  counted : (ls : List Sort) (xs : Trees) → OfSorts ls xs → count (written xs) ≡ length ls
  counted [] Nil o = refl
  counted [] (Cons x xs) o = absurd o
  counted (l ∷ ls) Nil o = absurd o
  counted (l ∷ ls) (Cons x xs) o = ap suc (counted ls xs o.1)

  all_proper : (xs : Trees) → AllRead xs → AreProper (written xs)
  all_proper Nil r = tt
  all_proper (Cons x xs) r = (r.0.proper false, all_proper xs r.1)

  pub function_reads : (f : Sym) (g : List ℕ) (ls : List Sort) (k : Sort) (xs : Trees) (w : Bool → Raw) → ((b : Bool) → w b ≡ applied g (written xs)) → in_force.meaning s g ≡ Some (meaning.Function f ls k) → IsNamed g → 0 < length ls → OfSorts ls xs → AllRead xs → (arity_fits f (length (to_list xs)) && sorts_fit f k (map sort_of_tree (to_list xs))) ≡ true → ReadsAs k (App f k xs) w true Nat
  function_reads f g ls k xs w same m named_ some o r fit =
      subst (λ v. ReadsAs k (App f k xs) v true Nat) (λ i b. sym (same b) i)
      record {
        asked = known_;
        known = known_;
        typed = λ b n.
            ap (λ p. tree_where (nat_eq (count (written xs)) (length (argument_sorts k p))) (compound (symbol_of p) k (typed_each s (written xs) (argument_sorts k p))) k) m
            ∙ (tree_where-true (nat_eq (count (written xs)) (length ls)) _ k right_count
            ∙ (ap (compound f k) (each_typed ls xs o r n) ∙ (tree_where-true _ _ k fit ∙ ap (App f k) (of_list-to_list xs))));
        faultless = λ b n.
            ap (λ p. applied_faults s k p (count (written xs)) ++ faults_of_each s false (written xs) (argument_sorts k p)) m
            ∙ both_none _ _ (both_none _ _ (when_not (nat_eq (count (written xs)) (length ls)) cause.SortMismatch right_count) (no_difference k k refl)) (each_faultless ls xs o r n);
        proper = λ b. (named_, ((let c = counted ls xs o in omega arith), all_proper xs r));
        default = λ b. refl;
      }
    where
      known_ : first_known s (leaves s (applied g (written xs))) ≡ Some k
      known_ =
          ap (λ p. first_known s (either (is_shared p) (leaves_of_each s (written xs)) (applied g (written xs) ∷ []))) m
          ∙ ap (λ p. or_else (value_sort p) None) m

      right_count : nat_eq (count (written xs)) (length ls) ≡ true
      right_count = ap (λ (n : ℕ). nat_eq n (length ls)) (counted ls xs o) ∙ same_number-self (length ls)
