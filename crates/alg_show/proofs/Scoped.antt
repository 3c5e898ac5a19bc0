-- What names mean in the scope of declarations.
use Rattle.std.proofs.Common.{◌≡◌, ℕ, zero, suc, ◌+◌, List, [], ◌∷◌, ◌++◌, Bool, true, false, Option, Some, None, refl, ap, sym, ◌∙◌, subst, arith, cond}
use Rattle.std.specs.Prelude.{⊤, codes, slice_get}
use Rattle.std.specs.Str.{bytes_eq}
use Rattle.std.proofs.lemmas.Slice.Eq.{bytes_eq-Decides}
use Rattle.alg_terms.specs.declared.sorts.Sort.{Sort}
use Rattle.alg_terms.specs.declared.sorts.Sort.TheVariants.{Nat, Int, Rat, Decl}
use Rattle.alg_terms.specs.declared.symbols.Sym.TheVariants.{Abs, Min, Max, Gcd, Lcm, Fact, Choose, Fib, Apply}
use Rattle.alg_law.specs.Declarations.{Declaration, Carrier, Instance, Variable, Function, Hypothesis}
use Rattle.alg_law.specs.Following.{IsKnown, IsWellFormed}
use Rattle.alg_law.specs.WellSorted.{is_type, variable_of, function_of}
use Rattle.alg_names.specs.declared.meanings.Meaning.{Meaning}
use Rattle.alg_names.specs.declared.meanings.Meaning.TheVariants as meaning
use Rattle.alg_names.specs.declared.scope.Scope.{Scope}
use Rattle.alg_names.specs.BuiltIn.{built_in, one, two}
use Rattle.alg_names.specs.Entering.{enter, entered, IsFresh}
use Rattle.alg_names.specs.Found.{found}
use Rattle.alg_names.specs.InForce as in_force
use Rattle.alg_well_sorted.specs.Agreeing.{Agrees}
use Rattle.alg_well_sorted.proofs.EnteringLaws.{start-follows, entered-follows, type_there}
use Rattle.alg_show.specs.Names.{name_if, name_at, sort_name}
use Rattle.alg_show.specs.ReadingBack.{AllNew, at_first, in_force as scope_of}

-- what is found stays found
found_kept : {A : Type 0} (xs ys : List (List ℕ × A)) (n : List ℕ) (m : A) → found xs n ≡ Some m → found (xs ++ ys) n ≡ Some m
found_kept [] ys n m e = cc
found_kept {A = A} (x ∷ xs) ys n m e = by (bytes_eq n x.0) (found_kept xs ys n m) e
  where
    by : (b : Bool) → (found xs n ≡ Some m → found (xs ++ ys) n ≡ Some m) → cond b (Some x.1) (found xs n) ≡ Some m → cond b (Some x.1) (found (xs ++ ys) n) ≡ Some m
    by true k h = h
    by false k h = k h

found_last : {A : Type 0} (xs : List (List ℕ × A)) (n : List ℕ) (m : A) → found xs n ≡ None → found (xs ++ (n, m) ∷ []) n ≡ Some m
found_last [] n m e = ap (λ b. cond b (Some m) None) ((bytes_eq-Decides n n).1 refl)
found_last {A = A} (x ∷ xs) n m e = by (bytes_eq n x.0) (found_last xs n m) e
  where
    by : (b : Bool) → (found xs n ≡ None → found (xs ++ (n, m) ∷ []) n ≡ Some m) → cond b (Some x.1) (found xs n) ≡ None → cond b (Some x.1) (found (xs ++ (n, m) ∷ []) n) ≡ Some m
    by true k h = cc
    by false k h = k h

enter_kept : (s : Scope) (d : Declaration) (n : List ℕ) (m : Meaning) → found s.names n ≡ Some m → found (enter s d).names n ≡ Some m
enter_kept s (Carrier x) n m e = found_kept s.names _ n m e
enter_kept s (Instance k c) n m e = e
enter_kept s (Variable x l) n m e = found_kept s.names _ n m e
enter_kept s (Function x ls l) n m e = found_kept s.names _ n m e
enter_kept s (Hypothesis x h) n m e = found_kept s.names _ n m e

entered_kept : (s : Scope) (ds : List Declaration) (n : List ℕ) (m : Meaning) → found s.names n ≡ Some m → found (entered s ds).names n ≡ Some m
entered_kept s [] n m e = e
entered_kept s (d ∷ ds) n m e = entered_kept (enter s d) ds n m (enter_kept s d n m e)

enter_counted : (s : Scope) (d : Declaration) → (enter s d).declared ≡ suc s.declared
enter_counted s (Carrier n) = refl
enter_counted s (Instance k c) = refl
enter_counted s (Variable n l) = refl
enter_counted s (Function n ls l) = refl
enter_counted s (Hypothesis n h) = refl

-- what a declaration's name means, where its number is j
abbrev MeansAt : Scope → ℕ → Declaration → Type 0
MeansAt s j (Carrier n) = found s.names n ≡ Some (meaning.SortName (Decl j))
MeansAt s j (Instance k c) = ⊤
MeansAt s j (Variable n l) = found s.names n ≡ Some (meaning.Variable j l)
MeansAt s j (Function n ls l) = found s.names n ≡ Some (meaning.Function (Apply j) ls l)
MeansAt s j (Hypothesis n h) = ⊤

abbrev MeansIf : Scope → ℕ → Option Declaration → Type 0
MeansIf s j None = ⊤
MeansIf s j (Some d) = MeansAt s j d

means_now : (s : Scope) (d : Declaration) (ds : List Declaration) → IsFresh s d → MeansAt (entered (enter s d) ds) s.declared d
means_now s (Carrier n) ds f = entered_kept (enter s (Carrier n)) ds n _ (found_last s.names n _ f)
means_now s (Instance k c) ds f = tt
means_now s (Variable n l) ds f = entered_kept (enter s (Variable n l)) ds n _ (found_last s.names n _ f)
means_now s (Function n ls l) ds f = entered_kept (enter s (Function n ls l)) ds n _ (found_last s.names n _ f)
means_now s (Hypothesis n h) ds f = tt

means_all : (s : Scope) (ds : List Declaration) → AllNew s ds → (i j : ℕ) → j ≡ s.declared + i → MeansIf (entered s ds) j (slice_get ds i)
means_all s [] h zero j e = tt
means_all s [] h (suc i) j e = tt
means_all s (d ∷ ds) h zero j e = subst (λ (k : ℕ). MeansAt (entered (enter s d) ds) k d) (sym (omega (arith, e))) (means_now s d ds h.0)
means_all s (d ∷ ds) h (suc i) j e = means_all (enter s d) ds h.1 i j (let k = enter_counted s d in omega (arith, e))

-- the names of the notation and of the declarations mean what they should
pub record Stands (s : Scope) (ds : List Declaration) : Type 0 where
  pub agrees : Agrees s ds
  pub sorts : (k : Sort) → IsKnown ds k → in_force.meaning s (sort_name ds k) ≡ Some (meaning.SortName k)
  pub variables : (d : ℕ) (l : Sort) → variable_of (slice_get ds d) ≡ Some l → in_force.meaning s (name_at ds d) ≡ Some (meaning.Variable d l)
  pub functions : (d : ℕ) (ls : List Sort) (l : Sort) → function_of (slice_get ds d) ≡ Some (ls, l) → in_force.meaning s (name_at ds d) ≡ Some (meaning.Function (Apply d) ls l)
  pub abs : in_force.meaning s (codes "abs") ≡ Some (meaning.Shared Abs 1)
  pub min : in_force.meaning s (codes "min") ≡ Some (meaning.Shared Min 2)
  pub max : in_force.meaning s (codes "max") ≡ Some (meaning.Shared Max 2)
  pub gcd : in_force.meaning s (codes "Nat.gcd") ≡ Some (meaning.Function Gcd two Nat)
  pub lcm : in_force.meaning s (codes "Nat.lcm") ≡ Some (meaning.Function Lcm two Nat)
  pub factorial : in_force.meaning s (codes "Nat.factorial") ≡ Some (meaning.Function Fact one Nat)
  pub choose : in_force.meaning s (codes "Nat.choose") ≡ Some (meaning.Function Choose two Nat)
  pub fib : in_force.meaning s (codes "Nat.fib") ≡ Some (meaning.Function Fib one Nat)

means_type : (s : Scope) (j : ℕ) (o : Option Declaration) → MeansIf s j o → is_type o ≡ true → found s.names (name_if o) ≡ Some (meaning.SortName (Decl j))
means_type s j None h e = cc
means_type s j (Some (Carrier n)) h e = h
means_type s j (Some (Instance k c)) h e = cc
means_type s j (Some (Variable n l)) h e = cc
means_type s j (Some (Function n ls l)) h e = cc
means_type s j (Some (Hypothesis n p)) h e = cc

some_same : {A : Type 0} (d x y : A) → Some x ≡ Some y → x ≡ y
some_same {A = A} d x y e = ap (λ o. by o) e
  where
    by : Option A → A
    by None = d
    by (Some z) = z

means_variable : (s : Scope) (j : ℕ) (l : Sort) (o : Option Declaration) → MeansIf s j o → variable_of o ≡ Some l → found s.names (name_if o) ≡ Some (meaning.Variable j l)
means_variable s j l None h e = cc
means_variable s j l (Some (Carrier n)) h e = cc
means_variable s j l (Some (Instance k c)) h e = cc
means_variable s j l (Some (Variable n m)) h e = h ∙ ap (λ k. Some (meaning.Variable j k)) (some_same m m l e)
means_variable s j l (Some (Function n ls m)) h e = cc
means_variable s j l (Some (Hypothesis n p)) h e = cc

means_function : (s : Scope) (j : ℕ) (ls : List Sort) (l : Sort) (o : Option Declaration) → MeansIf s j o → function_of o ≡ Some (ls, l) → found s.names (name_if o) ≡ Some (meaning.Function (Apply j) ls l)
means_function s j ls l None h e = cc
means_function s j ls l (Some (Carrier n)) h e = cc
means_function s j ls l (Some (Instance k c)) h e = cc
means_function s j ls l (Some (Variable n m)) h e = cc
means_function s j ls l (Some (Function n ms m)) h e = h ∙ ap (λ (p : List Sort × Sort). Some (meaning.Function (Apply j) p.0 p.1)) (some_same (ms, m) (ms, m) (ls, l) e)
means_function s j ls l (Some (Hypothesis n p)) h e = cc

pub stands : (ds : List Declaration) → IsWellFormed ds → AllNew at_first ds → Stands (scope_of ds) ds
stands ds w n =
    let all = λ (i : ℕ). means_all at_first ds n i i (omega arith) in
    let keep = λ (x : List ℕ) (m : Meaning) (e : found built_in x ≡ Some m). entered_kept at_first ds x m e in
    record {
      agrees = (entered-follows at_first [] ds (start-follows at_first refl refl refl refl) w).agrees;
      sorts = sorts_mean;
      variables = λ d l e. means_variable (scope_of ds) d l (slice_get ds d) (all d) e;
      functions = λ d ls l e. means_function (scope_of ds) d ls l (slice_get ds d) (all d) e;
      abs = keep _ _ refl;
      min = keep _ _ refl;
      max = keep _ _ refl;
      gcd = keep _ _ refl;
      lcm = keep _ _ refl;
      factorial = keep _ _ refl;
      choose = keep _ _ refl;
      fib = keep _ _ refl;
    }
  where
    sorts_mean : (k : Sort) → IsKnown ds k → in_force.meaning (scope_of ds) (sort_name ds k) ≡ Some (meaning.SortName k)
    sorts_mean Nat h = entered_kept at_first ds _ _ refl
    sorts_mean Int h = entered_kept at_first ds _ _ refl
    sorts_mean Rat h = entered_kept at_first ds _ _ refl
    sorts_mean (Decl k) h = means_type (scope_of ds) k (slice_get ds k) (means_all at_first ds n k k (omega arith)) (type_there (is_type (slice_get ds k)) h)
