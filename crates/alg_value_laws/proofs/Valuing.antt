-- The value of a well sorted tree has a numeral in the tree's sort.
use Rattle.std.proofs.Common.{◌≡◌, ℕ, ℤ, pos, Bool, true, false, ◌&&◌, List, [], ◌∷◌, map, refl, sym, ◌∙◌, subst, Some, None, Option, ◌⊎◌, inl, inr}
use Rattle.std.specs.Prelude.{if◌then◌else◌, nat_lt, ◌^◌, ⊤}
use Rattle.std.proofs.lemmas.Bool.{and_parts}
use Rattle.alg_terms.specs.declared.sorts.Sort.{Sort}
use Rattle.alg_terms.specs.declared.sorts.Sort.TheVariants.{Nat, Int, Rat, Decl}
use Rattle.alg_terms.specs.declared.symbols.Sym.{Sym}
use Rattle.alg_terms.specs.declared.symbols.Sym.TheVariants.{Add, Mul, Neg, Sub, Inv, Div, Npow, Zpow, Nsmul, Zsmul, Abs, Min, Max, NatSub, IDiv, Mod, Gcd, Lcm, Fact, Choose, Fib, Apply}
use Rattle.alg_terms.specs.Tree.{Tree, Lit, Var, App, Trees, Nil, Cons, sort_of_tree}
use Rattle.alg_num.specs.Fraction.{Fraction}
use Rattle.alg_num.specs.Negative.{negative_of}
use Rattle.alg_law.specs.declared.classes.Class.TheVariants.{Semiring, Ring, Field, CharZero, IsStrictOrderedRing}
use Rattle.alg_law.specs.declared.marks.Mark.TheVariants.{Good}
use Rattle.alg_law.specs.Declarations.{Declaration}
use Rattle.alg_law.specs.Having.{has_class}
use Rattle.alg_law.specs.Computing.{natural_value, integer_value}
use Rattle.alg_law.specs.WellSorted.{IsWellSorted, AreWellSorted, head_mark, sort_mark, symbol_mark, mark_of, marks_of, sorts_of, built_in_mark}
use Rattle.alg_law.proofs.WellSortedLaws.{worse-parts}
use Rattle.alg_values.specs.Setting.{Classes, setting}
use Rattle.alg_values.specs.Arithmetic.{whole_number, size_of, where_has, inverse_of, arithmetic_of, sum_value, product_value, power_value, integer_power_value}
use Rattle.alg_values.specs.Ranges.{cross_products_in_range}
use Rattle.alg_values.specs.Functions.{is_named, named_of, whole_function, natural_ranged, integer_ranged, absolute_of, compared_ranged, is_at_most}
use Rattle.alg_values.specs.Values.{operated, over, with_value, value, values}
use Rattle.alg_values.specs.declared.value.Value.{Value}
use Rattle.alg_values.specs.declared.value.Value.TheVariants.{Num, Past, Without}
use Rattle.alg_value_laws.specs.Fitting.{Fits, AllFit, IsRing, IsFieldOfZero}
use Rattle.alg_value_laws.specs.Places.{sorts_over}
use Rattle.alg_value_laws.proofs.Places.{sorts_are}
use Rattle.alg_value_laws.proofs.Ranges.{where_num, num_is}
use Rattle.alg_value_laws.proofs.Fractions.{natural_fits, integer_fits, field_fits, ring_fits, whole_fits, integral_fits, sum_fits, product_fits, power_fits}

-- lists of a known length

one_fit : (ds : List Declaration) (ss : List Sort) (s : Sort) (p : Fraction) → ss ≡ s ∷ [] → AllFit ds ss (p ∷ []) → Fits ds s p
one_fit ds ss s p e h = (subst (λ (ts : List Sort). AllFit ds ts (p ∷ [])) e h).0

two_fit : (ds : List Declaration) (ss : List Sort) (s t : Sort) (p q : Fraction) → ss ≡ s ∷ t ∷ [] → AllFit ds ss (p ∷ q ∷ []) → Fits ds s p × Fits ds t q
two_fit ds ss s t p q e h = let k = subst (λ (ts : List Sort). AllFit ds ts (p ∷ q ∷ [])) e h in (k.0, k.1.0)

module _ (ds : List Declaration) (s : Sort) where
  natural_in : has_class ds s Semiring ≡ true → (k : Fraction) → Fits ds Nat k → Fits ds s k
  natural_in h k f = let n = natural_fits ds k f in subst (Fits ds s) (sym n.1) (whole_fits ds s h n.0)

  integer_in : IsRing ds s → (k : Fraction) → Fits ds Int k → Fits ds s k
  integer_in h k f = subst (Fits ds s) (sym (integer_fits ds k f)) (integral_fits ds s h k.numerator)

  integer_power_fits : IsFieldOfZero ds s → (p z : Fraction) (i : ℤ) → integer_power_value p i ≡ Num z → Fits ds s z
  integer_power_fits h p z i e = field_fits ds s h z

  compared_fits : (t : Bool) (p q z : Fraction) → Fits ds s p → Fits ds s q → (c : Bool) → compared_ranged p q (if c then p else q) ≡ Num z → Fits ds s z
  compared_fits t p q z h k c e = at (cross_products_in_range p q) c e
    where
      at : (r : Bool) (c : Bool) → (if r then Num (if c then p else q) else Past) ≡ Num z → Fits ds s z
      at true true e = subst (Fits ds s) (num_is p z e) h
      at true false e = subst (Fits ds s) (num_is q z e) k
      at false c e = cc

  compared_fits_turned : (p q z : Fraction) → Fits ds s p → Fits ds s q → (c : Bool) → compared_ranged p q (if c then q else p) ≡ Num z → Fits ds s z
  compared_fits_turned p q z h k c e = at (cross_products_in_range p q) c e
    where
      at : (r : Bool) (c : Bool) → (if r then Num (if c then q else p) else Past) ≡ Num z → Fits ds s z
      at true true e = subst (Fits ds s) (num_is q z e) k
      at true false e = subst (Fits ds s) (num_is p z e) h
      at false c e = cc

natural_ranged_fits : (ds : List Declaration) (o : Option ℕ) (z : Fraction) → natural_ranged o ≡ Num z → Fits ds Nat z
natural_ranged_fits ds None z e = cc
natural_ranged_fits ds (Some n) z e = at (nat_lt n (2 ^ 127)) e
  where
    at : (t : Bool) → (if t then Num (whole_number (pos n)) else Past) ≡ Num z → Fits ds Nat z
    at true e = subst (Fits ds Nat) (num_is _ z e) (whole_fits ds Nat refl n)
    at false e = cc

integer_ranged_fits : (ds : List Declaration) (o : Option ℤ) (z : Fraction) → integer_ranged o ≡ Num z → Fits ds Int z
integer_ranged_fits ds None z e = cc
integer_ranged_fits ds (Some i) z e = at _ e
  where
    at : (t : Bool) → (if t then Num (whole_number i) else Past) ≡ Num z → Fits ds Int z
    at true e = subst (Fits ds Int) (num_is _ z e) (integral_fits ds Int refl i)
    at false e = cc

whole_function_fits : (ds : List Declaration) (s : Sort) (f : Sym) (ps : List Fraction) (z : Fraction) → whole_function s f ps ≡ Num z → Fits ds s z
whole_function_fits ds Nat f ps z e = natural_ranged_fits ds (natural_value f (map size_of ps)) z e
whole_function_fits ds Int f ps z e = integer_ranged_fits ds (integer_value f (map (λ p. p.numerator) ps)) z e
whole_function_fits ds Rat f ps z e = cc
whole_function_fits ds (Decl k) f ps z e = cc

-- the symbols, each over parts of its own sorts

module _ (ds : List Declaration) (s : Sort) (ss : List Sort) (z : Fraction) where
  mark : (f : Sym) → head_mark ds f s ss ≡ Good → symbol_mark ds f s ss ≡ Good
  mark f h = (worse-parts (sort_mark ds s) (symbol_mark ds f s ss) h).1

  add_fits : (p q : Fraction) → head_mark ds Add s ss ≡ Good → AllFit ds ss (p ∷ q ∷ []) → arithmetic_of (has_class ds) Add s (p ∷ q ∷ []) ≡ Num z → Fits ds s z
  add_fits p q h k e =
      let w = where_num (has_class ds s Semiring) (sum_value p q) z e in
      let f = two_fit ds ss s s p q (sorts_are ds Add s ss (mark Add h)) k in
      sum_fits ds s p q z f.0 f.1 w.1

  mul_fits : (p q : Fraction) → head_mark ds Mul s ss ≡ Good → AllFit ds ss (p ∷ q ∷ []) → arithmetic_of (has_class ds) Mul s (p ∷ q ∷ []) ≡ Num z → Fits ds s z
  mul_fits p q h k e =
      let w = where_num (has_class ds s Semiring) (product_value p q) z e in
      let f = two_fit ds ss s s p q (sorts_are ds Mul s ss (mark Mul h)) k in
      product_fits ds s p q z f.0 f.1 w.1

  neg_fits : (p : Fraction) → head_mark ds Neg s ss ≡ Good → AllFit ds ss (p ∷ []) → arithmetic_of (has_class ds) Neg s (p ∷ []) ≡ Num z → Fits ds s z
  neg_fits p h k e =
      let w = where_num (has_class ds s Ring) (Num (negative_of p)) z e in
      let f = one_fit ds ss s p (sorts_are ds Neg s ss (mark Neg h)) k in
      subst (Fits ds s) (num_is (negative_of p) z w.1) (ring_fits ds s w.0 p (negative_of p) f refl)

  sub_fits : (p q : Fraction) → head_mark ds Sub s ss ≡ Good → AllFit ds ss (p ∷ q ∷ []) → arithmetic_of (has_class ds) Sub s (p ∷ q ∷ []) ≡ Num z → Fits ds s z
  sub_fits p q h k e =
      let w = where_num (has_class ds s Ring) (sum_value p (negative_of q)) z e in
      let f = two_fit ds ss s s p q (sorts_are ds Sub s ss (mark Sub h)) k in
      sum_fits ds s p (negative_of q) z f.0 (ring_fits ds s w.0 q (negative_of q) f.1 refl) w.1

  npow_fits : (p k : Fraction) → head_mark ds Npow s ss ≡ Good → AllFit ds ss (p ∷ k ∷ []) → arithmetic_of (has_class ds) Npow s (p ∷ k ∷ []) ≡ Num z → Fits ds s z
  npow_fits p k h m e =
      let w = where_num (has_class ds s Semiring) (power_value p (size_of k)) z e in
      let f = two_fit ds ss s Nat p k (sorts_are ds Npow s ss (mark Npow h)) m in
      power_fits ds s p z (size_of k) f.0 w.1

  nsmul_fits : (k p : Fraction) → head_mark ds Nsmul s ss ≡ Good → AllFit ds ss (k ∷ p ∷ []) → arithmetic_of (has_class ds) Nsmul s (k ∷ p ∷ []) ≡ Num z → Fits ds s z
  nsmul_fits k p h m e =
      let w = where_num (has_class ds s Semiring) (product_value k p) z e in
      let f = two_fit ds ss Nat s k p (sorts_are ds Nsmul s ss (mark Nsmul h)) m in
      product_fits ds s k p z (natural_in ds s w.0 k f.0) f.1 w.1

  zsmul_fits : (k p : Fraction) → head_mark ds Zsmul s ss ≡ Good → AllFit ds ss (k ∷ p ∷ []) → arithmetic_of (has_class ds) Zsmul s (k ∷ p ∷ []) ≡ Num z → Fits ds s z
  zsmul_fits k p h m e =
      let w = where_num (has_class ds s Ring) (product_value k p) z e in
      let f = two_fit ds ss Int s k p (sorts_are ds Zsmul s ss (mark Zsmul h)) m in
      product_fits ds s k p z (integer_in ds s w.0 k f.0) f.1 w.1

  abs_fits : (p : Fraction) → head_mark ds Abs s ss ≡ Good → AllFit ds ss (p ∷ []) → named_of (has_class ds) Abs s (p ∷ []) ≡ Num z → Fits ds s z
  abs_fits p h k e =
      let w = where_num (has_class ds s Ring && has_class ds s IsStrictOrderedRing) (Num (absolute_of p)) z e in
      let r = (and_parts (has_class ds s Ring) (has_class ds s IsStrictOrderedRing) w.0).0 in
      let f = one_fit ds ss s p (sorts_are ds Abs s ss (mark Abs h)) k in
      subst (Fits ds s) (num_is (absolute_of p) z w.1) (ring_fits ds s r p (absolute_of p) f refl)

  min_fits : (p q : Fraction) → head_mark ds Min s ss ≡ Good → AllFit ds ss (p ∷ q ∷ []) → named_of (has_class ds) Min s (p ∷ q ∷ []) ≡ Num z → Fits ds s z
  min_fits p q h k e =
      let w = where_num (has_class ds s IsStrictOrderedRing) (compared_ranged p q (if is_at_most p q then p else q)) z e in
      let f = two_fit ds ss s s p q (sorts_are ds Min s ss (mark Min h)) k in
      compared_fits ds s true p q z f.0 f.1 (is_at_most p q) w.1

  max_fits : (p q : Fraction) → head_mark ds Max s ss ≡ Good → AllFit ds ss (p ∷ q ∷ []) → named_of (has_class ds) Max s (p ∷ q ∷ []) ≡ Num z → Fits ds s z
  max_fits p q h k e =
      let w = where_num (has_class ds s IsStrictOrderedRing) (compared_ranged p q (if is_at_most p q then q else p)) z e in
      let f = two_fit ds ss s s p q (sorts_are ds Max s ss (mark Max h)) k in
      compared_fits_turned ds s p q z f.0 f.1 (is_at_most p q) w.1

  in_field : (v : Value) → where_has (has_class ds s Field && has_class ds s CharZero) v ≡ Num z → Fits ds s z
  in_field v e = field_fits ds s (where_num (has_class ds s Field && has_class ds s CharZero) v z e).0 z

  arithmetic_fits : (f : Sym) (ps : List Fraction) → head_mark ds f s ss ≡ Good → AllFit ds ss ps → arithmetic_of (has_class ds) f s ps ≡ Num z → Fits ds s z
  arithmetic_fits Add [] h k e = cc
  arithmetic_fits Add (p ∷ []) h k e = cc
  arithmetic_fits Add (p ∷ q ∷ []) h k e = add_fits p q h k e
  arithmetic_fits Add (p ∷ q ∷ r ∷ ps) h k e = cc
  arithmetic_fits Mul [] h k e = cc
  arithmetic_fits Mul (p ∷ []) h k e = cc
  arithmetic_fits Mul (p ∷ q ∷ []) h k e = mul_fits p q h k e
  arithmetic_fits Mul (p ∷ q ∷ r ∷ ps) h k e = cc
  arithmetic_fits Neg [] h k e = cc
  arithmetic_fits Neg (p ∷ []) h k e = neg_fits p h k e
  arithmetic_fits Neg (p ∷ q ∷ ps) h k e = cc
  arithmetic_fits Sub [] h k e = cc
  arithmetic_fits Sub (p ∷ []) h k e = cc
  arithmetic_fits Sub (p ∷ q ∷ []) h k e = sub_fits p q h k e
  arithmetic_fits Sub (p ∷ q ∷ r ∷ ps) h k e = cc
  arithmetic_fits Inv [] h k e = cc
  arithmetic_fits Inv (p ∷ []) h k e = in_field (Num (inverse_of p)) e
  arithmetic_fits Inv (p ∷ q ∷ ps) h k e = cc
  arithmetic_fits Div [] h k e = cc
  arithmetic_fits Div (p ∷ []) h k e = cc
  arithmetic_fits Div (p ∷ q ∷ []) h k e = in_field (product_value p (inverse_of q)) e
  arithmetic_fits Div (p ∷ q ∷ r ∷ ps) h k e = cc
  arithmetic_fits Npow [] h k e = cc
  arithmetic_fits Npow (p ∷ []) h k e = cc
  arithmetic_fits Npow (p ∷ q ∷ []) h k e = npow_fits p q h k e
  arithmetic_fits Npow (p ∷ q ∷ r ∷ ps) h k e = cc
  arithmetic_fits Zpow [] h k e = cc
  arithmetic_fits Zpow (p ∷ []) h k e = cc
  arithmetic_fits Zpow (p ∷ q ∷ []) h k e = in_field (integer_power_value p q.numerator) e
  arithmetic_fits Zpow (p ∷ q ∷ r ∷ ps) h k e = cc
  arithmetic_fits Nsmul [] h k e = cc
  arithmetic_fits Nsmul (p ∷ []) h k e = cc
  arithmetic_fits Nsmul (p ∷ q ∷ []) h k e = nsmul_fits p q h k e
  arithmetic_fits Nsmul (p ∷ q ∷ r ∷ ps) h k e = cc
  arithmetic_fits Zsmul [] h k e = cc
  arithmetic_fits Zsmul (p ∷ []) h k e = cc
  arithmetic_fits Zsmul (p ∷ q ∷ []) h k e = zsmul_fits p q h k e
  arithmetic_fits Zsmul (p ∷ q ∷ r ∷ ps) h k e = cc
  arithmetic_fits Abs ps h k e = cc
  arithmetic_fits Min ps h k e = cc
  arithmetic_fits Max ps h k e = cc
  arithmetic_fits NatSub ps h k e = cc
  arithmetic_fits IDiv ps h k e = cc
  arithmetic_fits Mod ps h k e = cc
  arithmetic_fits Gcd ps h k e = cc
  arithmetic_fits Lcm ps h k e = cc
  arithmetic_fits Fact ps h k e = cc
  arithmetic_fits Choose ps h k e = cc
  arithmetic_fits Fib ps h k e = cc
  arithmetic_fits (Apply i) ps h k e = cc

  named_fits : (f : Sym) (ps : List Fraction) → head_mark ds f s ss ≡ Good → AllFit ds ss ps → named_of (has_class ds) f s ps ≡ Num z → Fits ds s z
  named_fits Abs [] h k e = whole_function_fits ds s Abs [] z e
  named_fits Abs (p ∷ []) h k e = abs_fits p h k e
  named_fits Abs (p ∷ q ∷ ps) h k e = whole_function_fits ds s Abs (p ∷ q ∷ ps) z e
  named_fits Min [] h k e = whole_function_fits ds s Min [] z e
  named_fits Min (p ∷ []) h k e = whole_function_fits ds s Min (p ∷ []) z e
  named_fits Min (p ∷ q ∷ []) h k e = min_fits p q h k e
  named_fits Min (p ∷ q ∷ r ∷ ps) h k e = whole_function_fits ds s Min (p ∷ q ∷ r ∷ ps) z e
  named_fits Max [] h k e = whole_function_fits ds s Max [] z e
  named_fits Max (p ∷ []) h k e = whole_function_fits ds s Max (p ∷ []) z e
  named_fits Max (p ∷ q ∷ []) h k e = max_fits p q h k e
  named_fits Max (p ∷ q ∷ r ∷ ps) h k e = whole_function_fits ds s Max (p ∷ q ∷ r ∷ ps) z e
  named_fits Add ps h k e = whole_function_fits ds s Add ps z e
  named_fits Mul ps h k e = whole_function_fits ds s Mul ps z e
  named_fits Neg ps h k e = whole_function_fits ds s Neg ps z e
  named_fits Sub ps h k e = whole_function_fits ds s Sub ps z e
  named_fits Inv ps h k e = whole_function_fits ds s Inv ps z e
  named_fits Div ps h k e = whole_function_fits ds s Div ps z e
  named_fits Npow ps h k e = whole_function_fits ds s Npow ps z e
  named_fits Zpow ps h k e = whole_function_fits ds s Zpow ps z e
  named_fits Nsmul ps h k e = whole_function_fits ds s Nsmul ps z e
  named_fits Zsmul ps h k e = whole_function_fits ds s Zsmul ps z e
  named_fits NatSub ps h k e = whole_function_fits ds s NatSub ps z e
  named_fits IDiv ps h k e = whole_function_fits ds s IDiv ps z e
  named_fits Mod ps h k e = whole_function_fits ds s Mod ps z e
  named_fits Gcd ps h k e = whole_function_fits ds s Gcd ps z e
  named_fits Lcm ps h k e = whole_function_fits ds s Lcm ps z e
  named_fits Fact ps h k e = whole_function_fits ds s Fact ps z e
  named_fits Choose ps h k e = whole_function_fits ds s Choose ps z e
  named_fits Fib ps h k e = whole_function_fits ds s Fib ps z e
  named_fits (Apply i) ps h k e = whole_function_fits ds s (Apply i) ps z e

one_of : (b c : Bool) (v w : Value) (z : Fraction) → (if b then (if c then v else Without) else w) ≡ Num z → (v ≡ Num z) ⊎ (w ≡ Num z)
one_of true true v w z e = inl e
one_of true false v w z e = cc
one_of false c v w z e = inr e

pub operated_fits : (ds : List Declaration) (covers : Sym → Bool) (f : Sym) (s : Sort) (ss : List Sort) (ps : List Fraction) (z : Fraction) → head_mark ds f s ss ≡ Good → AllFit ds ss ps → operated (setting ds covers) f s ps ≡ Num z → Fits ds s z
operated_fits ds covers f s ss ps z h k e = elim (one_of (is_named f) (covers f) (named_of (has_class ds) f s ps) (arithmetic_of (has_class ds) f s ps) z e) [ inl n ↦ named_fits ds s ss z f ps h k n | inr a ↦ arithmetic_fits ds s ss z f ps h k a ]

-- trees

abbrev FitsIn : List Declaration → Sort → Value → Type 0
FitsIn ds s (Num p) = Fits ds s p
FitsIn ds s Past = ⊤
FitsIn ds s Without = ⊤

abbrev FitIf : List Declaration → List Sort → Option (List Fraction) → Type 0
FitIf ds ss None = ⊤
FitIf ds ss (Some ps) = AllFit ds ss ps

fits_in : (ds : List Declaration) (s : Sort) (v : Value) → ((z : Fraction) → v ≡ Num z → Fits ds s z) → FitsIn ds s v
fits_in ds s (Num z) h = h z refl
fits_in ds s Past h = tt
fits_in ds s Without h = tt

over_fits : (ds : List Declaration) (covers : Sym → Bool) (f : Sym) (s : Sort) (ss : List Sort) (o : Option (List Fraction)) → head_mark ds f s ss ≡ Good → FitIf ds ss o → FitsIn ds s (over (setting ds covers) f s o)
over_fits ds covers f s ss None h k = tt
over_fits ds covers f s ss (Some ps) h k = fits_in ds s (operated (setting ds covers) f s ps) (λ z e. operated_fits ds covers f s ss ps z h k e)

with_fits : (ds : List Declaration) (s : Sort) (ss : List Sort) (v : Value) (o : Option (List Fraction)) → FitsIn ds s v → FitIf ds ss o → FitIf ds (s ∷ ss) (with_value v o)
with_fits ds s ss (Num p) None h k = tt
with_fits ds s ss (Num p) (Some ps) h k = (h, k)
with_fits ds s ss Past o h k = tt
with_fits ds s ss Without o h k = tt

mutual
  fits_tree : (ds : List Declaration) (covers : Sym → Bool) (t : Tree) → IsWellSorted ds t → FitsIn ds (sort_of_tree t) (value (setting ds covers) t)
  fits_tree ds covers (Lit s n) w = fits_in ds s (value (setting ds covers) (Lit s n)) (λ z e.
      let h = where_num (has_class ds s Semiring) (Num (whole_number (pos n))) z e in
      subst (Fits ds s) (num_is (whole_number (pos n)) z h.1) (whole_fits ds s h.0 n))
  fits_tree ds covers (Var d s) w = tt
  fits_tree ds covers (App f s ts) w =
      let both = worse-parts (head_mark ds f s (sorts_of ts)) (marks_of ds ts) w in
      over_fits ds covers f s (sorts_of ts) (values (setting ds covers) ts) both.0 (fit_trees ds covers ts both.1)

  fit_trees : (ds : List Declaration) (covers : Sym → Bool) (ts : Trees) → AreWellSorted ds ts → FitIf ds (sorts_of ts) (values (setting ds covers) ts)
  fit_trees ds covers Nil w = tt
  fit_trees ds covers (Cons t ts) w =
      let both = worse-parts (mark_of ds t) (marks_of ds ts) w in
      with_fits ds (sort_of_tree t) (sorts_of ts) (value (setting ds covers) t) (values (setting ds covers) ts) (fits_tree ds covers t both.0) (fit_trees ds covers ts both.1)

pub value_fits : (ds : List Declaration) (covers : Sym → Bool) (t : Tree) (p : Fraction) → IsWellSorted ds t → value (setting ds covers) t ≡ Num p → Fits ds (sort_of_tree t) p
value_fits ds covers t p w e = subst (FitsIn ds (sort_of_tree t)) e (fits_tree ds covers t w)

pub values_fit : (ds : List Declaration) (covers : Sym → Bool) (ts : Trees) (ps : List Fraction) → AreWellSorted ds ts → values (setting ds covers) ts ≡ Some ps → AllFit ds (sorts_of ts) ps
values_fit ds covers ts ps w e = subst (FitIf ds (sorts_of ts)) e (fit_trees ds covers ts w)

-- an operation that has a value stands over the sorts of its places
built_in : (ds : List Declaration) (has : Classes) (f : Sym) (s : Sort) (ts : List Sort) (ps : List Fraction) (z : Fraction) → arithmetic_of has f s ps ≡ Num z → symbol_mark ds f s ts ≡ built_in_mark ds f s ts
built_in ds has Add s ts ps z e = refl
built_in ds has Mul s ts ps z e = refl
built_in ds has Neg s ts ps z e = refl
built_in ds has Sub s ts ps z e = refl
built_in ds has Inv s ts ps z e = refl
built_in ds has Div s ts ps z e = refl
built_in ds has Npow s ts ps z e = refl
built_in ds has Zpow s ts ps z e = refl
built_in ds has Nsmul s ts ps z e = refl
built_in ds has Zsmul s ts ps z e = refl
built_in ds has Abs s ts ps z e = refl
built_in ds has Min s ts ps z e = refl
built_in ds has Max s ts ps z e = refl
built_in ds has NatSub s ts ps z e = refl
built_in ds has IDiv s ts ps z e = refl
built_in ds has Mod s ts ps z e = refl
built_in ds has Gcd s ts ps z e = refl
built_in ds has Lcm s ts ps z e = refl
built_in ds has Fact s ts ps z e = refl
built_in ds has Choose s ts ps z e = refl
built_in ds has Fib s ts ps z e = refl
built_in ds has (Apply i) s ts ps z e = cc

pub arithmetic_sorts : (ds : List Declaration) (f : Sym) (s : Sort) (ts : List Sort) (ps : List Fraction) (z : Fraction) → head_mark ds f s ts ≡ Good → arithmetic_of (has_class ds) f s ps ≡ Num z → ts ≡ sorts_over f s
arithmetic_sorts ds f s ts ps z h e = sorts_are ds f s ts (sym (built_in ds (has_class ds) f s ts ps z e) ∙ (worse-parts (sort_mark ds s) (symbol_mark ds f s ts) h).1)
