-- A symbol whose mark is good has the value's sort, and the arena takes its arguments.
use Rattle.std.proofs.Common.{◌≡◌, ℕ, List, [], ◌∷◌, length, map, refl, ap, sym, ◌∙◌, Bool, true, false, ◌&&◌, Ok, Some, None, Option, nat_eq, All, arith}
use Rattle.std.specs.Prelude.{if◌then◌else◌, slice_get}
use Rattle.std.proofs.lemmas.Bool.Decides.{nat_tests}
use Rattle.std.proofs.lemmas.List.Elements.{All-head, All-tail}
use Rattle.alg_terms.specs.declared.sorts.Sort.{Sort}
use Rattle.alg_terms.specs.declared.symbols.Sym.{Sym}
use Rattle.alg_terms.specs.declared.symbols.Sym.TheVariants.{Add, Mul, Neg, Sub, Inv, Div, Npow, Zpow, Nsmul, Zsmul, Abs, Min, Max, NatSub, IDiv, Mod, Gcd, Lcm, Fact, Choose, Fib, Apply}
use Rattle.alg_terms.specs.declared.symbols.Place.{Place}
use Rattle.alg_terms.specs.declared.symbols.Place.TheVariants.{Same, OfNat, OfInt}
use Rattle.alg_terms.specs.Symbols.{is_built_in, places, serves, place_fits, places_fit, arguments_fit}
use Rattle.alg_terms.specs.Tree.{App, Cons, Statement, equal}
use Rattle.alg_terms.specs.Order.{sort_same}
use Rattle.alg_terms.proofs.OrderLaws.{sort_same-equal}
use Rattle.alg_expr.specs.Applying.{arity_fits, sorts_fit}
use Rattle.alg_law.specs.declared.marks.Mark.{Mark}
use Rattle.alg_law.specs.declared.marks.Mark.TheVariants.{Good, BadSort}
use Rattle.alg_law.specs.Declarations.{Declaration}
use Rattle.alg_law.specs.WellSorted.{symbol_mark, head_mark, sort_mark, built_in_mark, class_mark, has_classes, of_function, function_of, sorts_same, same_mark, sorts_of}
use Rattle.alg_law.proofs.WellSortedLaws.{worse-parts}
use Rattle.alg_proof.specs.Steps.{Cong, conclude, value_sort, same_sort, second_of, name_mark, name_of, left_sides, right_sides, all_equations}
use Rattle.alg_proof.specs.Causes.{statements_at}
use Rattle.alg_build.specs.Book.{Book, left_at, right_at, lefts_at, rights_at, IsEquation}

both_true : (a b : Bool) → (a && b) ≡ true → (a ≡ true) × (b ≡ true)
both_true true b e = (refl, e)
both_true false b e = cc

good_test : (b : Bool) (m : Mark) → (if b then m else BadSort) ≡ Good → b ≡ true
good_test true m e = refl
good_test false m e = cc

good_same : (b : Bool) → same_mark b ≡ Good → b ≡ true
good_same true e = refl
good_same false e = cc

nat_eq-equal : (m n : ℕ) → nat_eq m n ≡ true → m ≡ n
nat_eq-equal m n e = grind (arith, nat_tests)

nat_eq-swap : (m n : ℕ) → nat_eq m n ≡ true → nat_eq n m ≡ true
nat_eq-swap m n e = grind (arith, nat_tests)

-- some argument has the sort of the value
abbrev has_same : List Place → Bool
has_same [] = false
has_same (Same ∷ ps) = true
has_same (OfNat ∷ ps) = has_same ps
has_same (OfInt ∷ ps) = has_same ps

same_sort_is : (ps : List Place) (s : Sort) (ts : List Sort) → has_same ps ≡ true → length ps ≡ length ts → places_fit ps s ts ≡ true → same_sort ps ts ≡ Some s
same_sort_is [] s ts h n f = cc
same_sort_is (p ∷ ps) s [] h n f = absurd (omega (arith, n))
same_sort_is (Same ∷ ps) s (t ∷ ts) h n f = ap Some (sort_same-equal t s (both_true (sort_same t s) (places_fit ps s ts) f).0)
same_sort_is (OfNat ∷ ps) s (t ∷ ts) h n f = same_sort_is ps s ts h (omega (arith, n)) (both_true (place_fits OfNat s t) (places_fit ps s ts) f).1
same_sort_is (OfInt ∷ ps) s (t ∷ ts) h n f = same_sort_is ps s ts h (omega (arith, n)) (both_true (place_fits OfInt s t) (places_fit ps s ts) f).1

-- what the table of built-in symbols gives
record IsTabled (f : Sym) : Type 0 where
  built : is_built_in f ≡ true
  mark : (ds : List Declaration) (s : Sort) (ts : List Sort) → symbol_mark ds f s ts ≡ built_in_mark ds f s ts
  value : (ds : List Declaration) (ts : List Sort) → value_sort ds f ts ≡ same_sort (places f) ts
  name : (ds : List Declaration) → name_mark ds f ≡ Good
  same : has_same (places f) ≡ true

data Kind : Sym → Type 0 where
  tabled : (f : Sym) → IsTabled f → Kind f
  declared : (k : ℕ) → Kind (Apply k)

kind_of : (f : Sym) → Kind f
kind_of Add = tabled Add (record { built = refl; mark = λ ds s ts. refl; value = λ ds ts. refl; name = λ ds. refl; same = refl })
kind_of Mul = tabled Mul (record { built = refl; mark = λ ds s ts. refl; value = λ ds ts. refl; name = λ ds. refl; same = refl })
kind_of Neg = tabled Neg (record { built = refl; mark = λ ds s ts. refl; value = λ ds ts. refl; name = λ ds. refl; same = refl })
kind_of Sub = tabled Sub (record { built = refl; mark = λ ds s ts. refl; value = λ ds ts. refl; name = λ ds. refl; same = refl })
kind_of Inv = tabled Inv (record { built = refl; mark = λ ds s ts. refl; value = λ ds ts. refl; name = λ ds. refl; same = refl })
kind_of Div = tabled Div (record { built = refl; mark = λ ds s ts. refl; value = λ ds ts. refl; name = λ ds. refl; same = refl })
kind_of Npow = tabled Npow (record { built = refl; mark = λ ds s ts. refl; value = λ ds ts. refl; name = λ ds. refl; same = refl })
kind_of Zpow = tabled Zpow (record { built = refl; mark = λ ds s ts. refl; value = λ ds ts. refl; name = λ ds. refl; same = refl })
kind_of Nsmul = tabled Nsmul (record { built = refl; mark = λ ds s ts. refl; value = λ ds ts. refl; name = λ ds. refl; same = refl })
kind_of Zsmul = tabled Zsmul (record { built = refl; mark = λ ds s ts. refl; value = λ ds ts. refl; name = λ ds. refl; same = refl })
kind_of Abs = tabled Abs (record { built = refl; mark = λ ds s ts. refl; value = λ ds ts. refl; name = λ ds. refl; same = refl })
kind_of Min = tabled Min (record { built = refl; mark = λ ds s ts. refl; value = λ ds ts. refl; name = λ ds. refl; same = refl })
kind_of Max = tabled Max (record { built = refl; mark = λ ds s ts. refl; value = λ ds ts. refl; name = λ ds. refl; same = refl })
kind_of NatSub = tabled NatSub (record { built = refl; mark = λ ds s ts. refl; value = λ ds ts. refl; name = λ ds. refl; same = refl })
kind_of IDiv = tabled IDiv (record { built = refl; mark = λ ds s ts. refl; value = λ ds ts. refl; name = λ ds. refl; same = refl })
kind_of Mod = tabled Mod (record { built = refl; mark = λ ds s ts. refl; value = λ ds ts. refl; name = λ ds. refl; same = refl })
kind_of Gcd = tabled Gcd (record { built = refl; mark = λ ds s ts. refl; value = λ ds ts. refl; name = λ ds. refl; same = refl })
kind_of Lcm = tabled Lcm (record { built = refl; mark = λ ds s ts. refl; value = λ ds ts. refl; name = λ ds. refl; same = refl })
kind_of Fact = tabled Fact (record { built = refl; mark = λ ds s ts. refl; value = λ ds ts. refl; name = λ ds. refl; same = refl })
kind_of Choose = tabled Choose (record { built = refl; mark = λ ds s ts. refl; value = λ ds ts. refl; name = λ ds. refl; same = refl })
kind_of Fib = tabled Fib (record { built = refl; mark = λ ds s ts. refl; value = λ ds ts. refl; name = λ ds. refl; same = refl })
kind_of (Apply k) = declared k

pub record Fits (ds : List Declaration) (f : Sym) (s : Sort) (ts : List Sort) : Type 0 where
  pub value : value_sort ds f ts ≡ Some s
  pub name : name_mark ds f ≡ Good
  pub arity : arity_fits f (length ts) ≡ true
  pub sorts : sorts_fit f s ts ≡ true

tabled_fits : (ds : List Declaration) (f : Sym) (s : Sort) (ts : List Sort) → IsTabled f → symbol_mark ds f s ts ≡ Good → Fits ds f s ts
tabled_fits ds f s ts t e =
    let good : built_in_mark ds f s ts ≡ Good = sym (t.mark ds s ts) ∙ e in
    let tests = both_true (nat_eq (length (places f)) (length ts)) (arguments_fit f s ts) (good_test (nat_eq (length (places f)) (length ts) && arguments_fit f s ts) (class_mark (has_classes ds f s)) good) in
    let fit = (both_true (places_fit (places f) s ts) (serves f s) tests.1).0 in
    record {
      value = t.value ds ts ∙ same_sort_is (places f) s ts t.same (nat_eq-equal _ _ tests.0) fit;
      name = t.name ds;
      arity = rw (t.built, nat_eq-swap _ _ tests.0) refl;
      sorts = rw (t.built, tests.1) refl;
    }

function_sort : (o : Option (List Sort × Sort)) (s : Sort) (ts : List Sort) → of_function o s ts ≡ Good → second_of o ≡ Some s
function_sort None s ts e = cc
function_sort (Some p) s ts e = ap Some (sort_same-equal p.1 s (both_true (sorts_same p.0 ts) (sort_same p.1 s) (good_same _ e)).1)

kind_fits : (ds : List Declaration) (f : Sym) (s : Sort) (ts : List Sort) → Kind f → symbol_mark ds f s ts ≡ Good → Fits ds f s ts
kind_fits ds _ s ts (tabled f t) e = tabled_fits ds f s ts t e
kind_fits ds _ s ts (declared k) e =
    let v = function_sort (function_of (slice_get ds k)) s ts e in
    record { value = v; name = ap name_of v; arity = refl; sorts = refl }

pub fits : (ds : List Declaration) (f : Sym) (s : Sort) (ts : List Sort) → head_mark ds f s ts ≡ Good → Fits ds f s ts
fits ds f s ts e = kind_fits ds f s ts (kind_of f) (worse-parts (sort_mark ds s) (symbol_mark ds f s ts) e).1

-- a congruence is good

abbrev facts_at : Book → List ℕ → List Statement
facts_at b is = map (λ i. equal (left_at b i) (right_at b i)) is

all_there : (b : Book) (is : List ℕ) → All (IsEquation b) is → statements_at b.done is ≡ Some (facts_at b is)
all_there b [] h = refl
all_there b (i ∷ is) h = rw ((All-head (IsEquation b) i is h).line, all_there b is (All-tail (IsEquation b) i is h)) refl

lefts_of_facts : (b : Book) (is : List ℕ) → left_sides (facts_at b is) ≡ lefts_at b is
lefts_of_facts b [] = refl
lefts_of_facts b (i ∷ is) = ap (Cons (left_at b i)) (lefts_of_facts b is)

rights_of_facts : (b : Book) (is : List ℕ) → right_sides (facts_at b is) ≡ rights_at b is
rights_of_facts b [] = refl
rights_of_facts b (i ∷ is) = ap (Cons (right_at b i)) (rights_of_facts b is)

equations_of_facts : (b : Book) (is : List ℕ) → all_equations (facts_at b is) ≡ true
equations_of_facts b [] = refl
equations_of_facts b (i ∷ is) = equations_of_facts b is

pub cong_good : (b : Book) (f : Sym) (s : Sort) (is : List ℕ) → All (IsEquation b) is → head_mark b.theory.declarations f s (sorts_of (lefts_at b is)) ≡ Good
    → conclude (b.theory) b.done (Cong f is) ≡ Ok (equal (App f s (lefts_at b is)) (App f s (rights_at b is)))
cong_good b f s is h e =
    let g = fits b.theory.declarations f s (sorts_of (lefts_at b is)) e in
    rw (g.name, all_there b is h, lefts_of_facts b is, rights_of_facts b is, equations_of_facts b is, g.value, e) refl
