-- What the symbol of a well sorted node tells: that it is there, its number, and its value's sort.
use Rattle.std.proofs.Common.{◌≡◌, ℕ, ◌^◌, ◌<◌, ◌≤◌, nat_eq, nat_lt, Bool, true, false, ◌&&◌, List, [], ◌∷◌, length, Option, Some, None, slice_get, refl, sym, ap, ◌∙◌, arith, lt-ltb, if◌then◌else◌}
use Rattle.std.proofs.lemmas.Bool.{and_parts}
use Rattle.std.proofs.lemmas.Bool.Decides.{nat_tests}
use Rattle.std.proofs.lemmas.Option.{slice_get_within}
use Rattle.alg_terms.specs.declared.sorts.Sort.{Sort}
use Rattle.alg_terms.specs.declared.symbols.Sym.{Sym}
use Rattle.alg_terms.specs.declared.symbols.Sym.TheVariants as symbol
use Rattle.alg_terms.specs.declared.symbols.Place.{Place}
use Rattle.alg_terms.specs.declared.symbols.Place.TheVariants.{Same, OfNat, OfInt}
use Rattle.alg_terms.specs.Symbols.{places, serves, place_fits, places_fit, arguments_fit}
use Rattle.alg_terms.specs.Order.{sort_same}
use Rattle.alg_terms.proofs.OrderLaws.{sort_same-equal}
use Rattle.alg_law.specs.declared.marks.Mark.{Mark}
use Rattle.alg_law.specs.declared.marks.Mark.TheVariants.{Good, BadSort}
use Rattle.alg_law.specs.Declarations.{Declaration}
use Rattle.alg_law.specs.WellSorted.{sort_mark, class_mark, same_mark, sorts_same, function_of, of_function, has_classes, built_in_mark, symbol_mark, head_mark}
use Rattle.alg_law.proofs.WellSortedLaws.{worse-parts}
use Rattle.alg_proof.specs.Steps.{same_sort, second_of, value_sort, name_of, name_mark}
use Rattle.alg_certificate_lines.specs.Kept.{kept_number, numbered_symbol, kept_symbol}

good_test : (b : Bool) (m : Mark) → (if b then m else BadSort) ≡ Good → b ≡ true
good_test true m e = refl
good_test false m e = cc

pub good_same : (b : Bool) → same_mark b ≡ Good → b ≡ true
good_same true e = refl
good_same false e = cc

pub same_number : (m n : ℕ) → nat_eq m n ≡ true → m ≡ n
same_number m n e = grind (arith, nat_tests)

-- the number of a declaration that is there is kept
below : (k n m : ℕ) → k < n → n ≤ m → k < m
below k n m h l = omega arith

pub number_below : (ds : List Declaration) (k : ℕ) (d : Declaration) → length ds ≤ 2 ^ 32 → slice_get ds k ≡ Some d → nat_lt k (2 ^ 32) ≡ true
number_below ds k d few e = lt-ltb k (2 ^ 32) (below k (length ds) (2 ^ 32) (slice_get_within ds k d e) few)

pub number_kept : (k : ℕ) → nat_lt k (2 ^ 32) ≡ true → kept_number k ≡ Some k
number_kept k e = ap (λ b. if◌then◌else◌ {A = Option ℕ} b (Some k) None) e

-- some place is that of an argument of the value's sort
abbrev pub has_same : List Place → Bool
has_same [] = false
has_same (Same ∷ ps) = true
has_same (OfNat ∷ ps) = has_same ps
has_same (OfInt ∷ ps) = has_same ps

same_sort_is : (ps : List Place) (s : Sort) (ts : List Sort) → has_same ps ≡ true → length ps ≡ length ts → places_fit ps s ts ≡ true → same_sort ps ts ≡ Some s
same_sort_is [] s ts h n f = cc
same_sort_is (p ∷ ps) s [] h n f = absurd (omega (arith, n))
same_sort_is (Same ∷ ps) s (t ∷ ts) h n f = ap Some (sort_same-equal t s (and_parts (sort_same t s) (places_fit ps s ts) f).0)
same_sort_is (OfNat ∷ ps) s (t ∷ ts) h n f = same_sort_is ps s ts h (omega (arith, n)) (and_parts (place_fits OfNat s t) (places_fit ps s ts) f).1
same_sort_is (OfInt ∷ ps) s (t ∷ ts) h n f = same_sort_is ps s ts h (omega (arith, n)) (and_parts (place_fits OfInt s t) (places_fit ps s ts) f).1

pub some_place : (ps : List Place) → has_same ps ≡ true → length ps ≡ 0 → ⊥
some_place [] h n = cc
some_place (p ∷ ps) h n = absurd (omega (arith, n))

-- what the table of built-in symbols gives
pub record IsTabled (f : Sym) : Type 0 where
  pub mark : (ds : List Declaration) (s : Sort) (ts : List Sort) → symbol_mark ds f s ts ≡ built_in_mark ds f s ts
  pub value : (ds : List Declaration) (ts : List Sort) → value_sort ds f ts ≡ same_sort (places f) ts
  pub name : (ds : List Declaration) → name_mark ds f ≡ Good
  pub kept : kept_symbol f ≡ Some f
  pub same : has_same (places f) ≡ true

pub data Origin : Sym → Type 0 where
  tabled : (f : Sym) → IsTabled f → Origin f
  declared : (k : ℕ) → Origin (symbol.Apply k)

pub origin : (f : Sym) → Origin f
origin symbol.Add = tabled symbol.Add (record { mark = λ ds s ts. refl; value = λ ds ts. refl; name = λ ds. refl; kept = refl; same = refl })
origin symbol.Mul = tabled symbol.Mul (record { mark = λ ds s ts. refl; value = λ ds ts. refl; name = λ ds. refl; kept = refl; same = refl })
origin symbol.Neg = tabled symbol.Neg (record { mark = λ ds s ts. refl; value = λ ds ts. refl; name = λ ds. refl; kept = refl; same = refl })
origin symbol.Sub = tabled symbol.Sub (record { mark = λ ds s ts. refl; value = λ ds ts. refl; name = λ ds. refl; kept = refl; same = refl })
origin symbol.Inv = tabled symbol.Inv (record { mark = λ ds s ts. refl; value = λ ds ts. refl; name = λ ds. refl; kept = refl; same = refl })
origin symbol.Div = tabled symbol.Div (record { mark = λ ds s ts. refl; value = λ ds ts. refl; name = λ ds. refl; kept = refl; same = refl })
origin symbol.Npow = tabled symbol.Npow (record { mark = λ ds s ts. refl; value = λ ds ts. refl; name = λ ds. refl; kept = refl; same = refl })
origin symbol.Zpow = tabled symbol.Zpow (record { mark = λ ds s ts. refl; value = λ ds ts. refl; name = λ ds. refl; kept = refl; same = refl })
origin symbol.Nsmul = tabled symbol.Nsmul (record { mark = λ ds s ts. refl; value = λ ds ts. refl; name = λ ds. refl; kept = refl; same = refl })
origin symbol.Zsmul = tabled symbol.Zsmul (record { mark = λ ds s ts. refl; value = λ ds ts. refl; name = λ ds. refl; kept = refl; same = refl })
origin symbol.Abs = tabled symbol.Abs (record { mark = λ ds s ts. refl; value = λ ds ts. refl; name = λ ds. refl; kept = refl; same = refl })
origin symbol.Min = tabled symbol.Min (record { mark = λ ds s ts. refl; value = λ ds ts. refl; name = λ ds. refl; kept = refl; same = refl })
origin symbol.Max = tabled symbol.Max (record { mark = λ ds s ts. refl; value = λ ds ts. refl; name = λ ds. refl; kept = refl; same = refl })
origin symbol.NatSub = tabled symbol.NatSub (record { mark = λ ds s ts. refl; value = λ ds ts. refl; name = λ ds. refl; kept = refl; same = refl })
origin symbol.IDiv = tabled symbol.IDiv (record { mark = λ ds s ts. refl; value = λ ds ts. refl; name = λ ds. refl; kept = refl; same = refl })
origin symbol.Mod = tabled symbol.Mod (record { mark = λ ds s ts. refl; value = λ ds ts. refl; name = λ ds. refl; kept = refl; same = refl })
origin symbol.Gcd = tabled symbol.Gcd (record { mark = λ ds s ts. refl; value = λ ds ts. refl; name = λ ds. refl; kept = refl; same = refl })
origin symbol.Lcm = tabled symbol.Lcm (record { mark = λ ds s ts. refl; value = λ ds ts. refl; name = λ ds. refl; kept = refl; same = refl })
origin symbol.Fact = tabled symbol.Fact (record { mark = λ ds s ts. refl; value = λ ds ts. refl; name = λ ds. refl; kept = refl; same = refl })
origin symbol.Choose = tabled symbol.Choose (record { mark = λ ds s ts. refl; value = λ ds ts. refl; name = λ ds. refl; kept = refl; same = refl })
origin symbol.Fib = tabled symbol.Fib (record { mark = λ ds s ts. refl; value = λ ds ts. refl; name = λ ds. refl; kept = refl; same = refl })
origin (symbol.Apply k) = declared k

-- a symbol that is there is kept
function_kept : (ds : List Declaration) (k : ℕ) (o : Option Declaration) → slice_get ds k ≡ o → length ds ≤ 2 ^ 32
    → name_of (second_of (function_of o)) ≡ Good → nat_lt k (2 ^ 32) ≡ true
function_kept ds k None e few g = cc
function_kept ds k (Some d) e few g = number_below ds k d few e

kept_by : (ds : List Declaration) (f : Sym) → Origin f → length ds ≤ 2 ^ 32 → name_mark ds f ≡ Good → kept_symbol f ≡ Some f
kept_by ds _ (tabled f t) few e = t.kept
kept_by ds _ (declared k) few e = ap numbered_symbol (number_kept k (function_kept ds k (slice_get ds k) refl few e))

pub symbol_kept : (ds : List Declaration) (f : Sym) → length ds ≤ 2 ^ 32 → name_mark ds f ≡ Good → kept_symbol f ≡ Some f
symbol_kept ds f few e = kept_by ds f (origin f) few e

-- the symbol of a well sorted node is there, and its value has the node's sort
pub record IsHead (ds : List Declaration) (f : Sym) (s : Sort) (ts : List Sort) : Type 0 where
  pub name : name_mark ds f ≡ Good
  pub value : value_sort ds f ts ≡ Some s

-- as many arguments as places, each of its place's sort
pub tabled_tests : (ds : List Declaration) (f : Sym) (s : Sort) (ts : List Sort) → IsTabled f → symbol_mark ds f s ts ≡ Good
    → (length (places f) ≡ length ts) × (places_fit (places f) s ts ≡ true)
tabled_tests ds f s ts t e =
    let good : (nat_eq (length (places f)) (length ts) && arguments_fit f s ts) ≡ true =
    good_test (nat_eq (length (places f)) (length ts) && arguments_fit f s ts) (class_mark (has_classes ds f s)) (sym (t.mark ds s ts) ∙ e) in
    let tests = and_parts (nat_eq (length (places f)) (length ts)) (arguments_fit f s ts) good in
    (same_number (length (places f)) (length ts) tests.0, (and_parts (places_fit (places f) s ts) (serves f s) tests.1).0)

function_sort : (o : Option (List Sort × Sort)) (s : Sort) (ts : List Sort) → of_function o s ts ≡ Good → second_of o ≡ Some s
function_sort None s ts e = cc
function_sort (Some p) s ts e =
    ap Some (sort_same-equal p.1 s (and_parts (sorts_same p.0 ts) (sort_same p.1 s) (good_same (sorts_same p.0 ts && sort_same p.1 s) e)).1)

head_by : (ds : List Declaration) (f : Sym) (s : Sort) (ts : List Sort) → Origin f → symbol_mark ds f s ts ≡ Good → IsHead ds f s ts
head_by ds _ s ts (tabled f t) e =
    let tests = tabled_tests ds f s ts t e in
    record { name = t.name ds; value = t.value ds ts ∙ same_sort_is (places f) s ts t.same tests.0 tests.1 }
head_by ds _ s ts (declared k) e =
    let v = function_sort (function_of (slice_get ds k)) s ts e in
    record { name = ap name_of v; value = v }

pub head_is : (ds : List Declaration) (f : Sym) (s : Sort) (ts : List Sort) → head_mark ds f s ts ≡ Good → IsHead ds f s ts
head_is ds f s ts e = head_by ds f s ts (origin f) (worse-parts (sort_mark ds s) (symbol_mark ds f s ts) e).1
