-- Well sorted trees over an integer base: those of another sort than ℚ have none of ℚ inside, and those of ℕ are at least 0.
use Rattle.std.specs.Prelude.{◌≡◌, ◌≢◌, ℕ, zero, suc, Bool, true, false, ◌&&◌, ◌||◌, if◌then◌else◌, nat_eq, List, [], ◌∷◌, map, length, get_or, All, Option, Some, None, slice_get, ⊤, ℤ, pos, negsuc, ◌+ℤ◌, ◌*ℤ◌, ◌≤ℤ◌, unsigned_abs, refl}
use Rattle.std.proofs.Common.{ap, sym, ◌∙◌, subst, arith}
use Rattle.std.proofs.lemmas.Bool.{and_parts}
use Rattle.std.proofs.lemmas.Bool.Decides.{nat_tests}
use Rattle.std.specs.Int.{int_pow, int_min, int_max}
use Rattle.std.proofs.lemmas.Int.{ints, clamps}
use Rattle.std.proofs.lemmas.List.Elements.{All-head, All-tail}
use Rattle.alg_terms.specs.declared.sorts.Sort.{Sort}
use Rattle.alg_terms.specs.declared.sorts.Sort.TheVariants.{Nat, Int, Rat, Decl}
use Rattle.alg_terms.specs.declared.symbols.Sym.{Sym}
use Rattle.alg_terms.specs.declared.symbols.Sym.TheVariants.{Add, Mul, Neg, Sub, Inv, Div, Npow, Zpow, Nsmul, Zsmul, Abs, Min, Max, NatSub, IDiv, Mod, Gcd, Lcm, Fact, Choose, Fib, Apply}
use Rattle.alg_terms.specs.declared.symbols.Place.{Place}
use Rattle.alg_terms.specs.declared.symbols.Place.TheVariants.{Same, OfNat, OfInt}
use Rattle.alg_terms.specs.Order.{sort_same}
use Rattle.alg_terms.proofs.OrderLaws.{sort_same-equal}
use Rattle.alg_terms.specs.Symbols.{places, place_fits, places_fit, arguments_fit, serves}
use Rattle.alg_terms.specs.Tree.{Tree, Lit, Var, App, Trees, Nil, Cons, of_list, sort_of_tree}
use Rattle.alg_law.specs.declared.classes.Class.{Class}
use Rattle.alg_law.specs.declared.classes.Class.TheVariants.{AddGroup, Group, Field}
use Rattle.alg_law.specs.declared.marks.Mark.TheVariants.{Good, BadSort}
use Rattle.alg_law.specs.Declarations.{Declaration, Carrier, Instance, Variable, Function, Hypothesis}
use Rattle.alg_law.specs.Having.{has_class, instances_give}
use Rattle.alg_law.specs.IntegerBases.{IsIntegerBase}
use Rattle.alg_law.proofs.IntegerOrder.{product_not_below, power_not_below, natural_not_below}
use Rattle.alg_law.specs.Computing.{integer_quotient, integer_remainder}
use Rattle.alg_law.specs.IntegerValues.{natural, at_one, at_two, applied, value_of, values_of}
use Rattle.alg_law.specs.Valuations.{Valuation, Listed, is_listed_at, same_integers, result_at, IsResult, IsValuation}
use Rattle.alg_law.specs.WellSorted.{variable_of, function_of, sort_mark, of_sort, same_mark, class_mark, sorts_agree, sorts_same, of_function, has_classes, built_in_mark, symbol_mark, head_mark, sorts_of, mark_of, marks_of, IsWellSorted, AreWellSorted}
use Rattle.alg_law.proofs.WellSortedLaws.{worse-parts}

-- the declarations give no class to a built-in sort
nothing_for_naturals : (ds : List Declaration) (c : Class) → instances_give ds Nat c ≡ false
nothing_for_naturals [] c = refl
nothing_for_naturals (Carrier n ∷ ds) c = nothing_for_naturals ds c
nothing_for_naturals (Instance k b ∷ ds) c = nothing_for_naturals ds c
nothing_for_naturals (Variable n s ∷ ds) c = nothing_for_naturals ds c
nothing_for_naturals (Function n ss s ∷ ds) c = nothing_for_naturals ds c
nothing_for_naturals (Hypothesis n h ∷ ds) c = nothing_for_naturals ds c

nothing_for_integers : (ds : List Declaration) (c : Class) → instances_give ds Int c ≡ false
nothing_for_integers [] c = refl
nothing_for_integers (Carrier n ∷ ds) c = nothing_for_integers ds c
nothing_for_integers (Instance k b ∷ ds) c = nothing_for_integers ds c
nothing_for_integers (Variable n s ∷ ds) c = nothing_for_integers ds c
nothing_for_integers (Function n ss s ∷ ds) c = nothing_for_integers ds c
nothing_for_integers (Hypothesis n h ∷ ds) c = nothing_for_integers ds c

naturals_no_group : (ds : List Declaration) → has_class ds Nat AddGroup ≡ false
naturals_no_group ds = nothing_for_naturals ds AddGroup

-- no sort but ℚ has Group or Field
pub no_group : (ds : List Declaration) (s : Sort) → IsIntegerBase ds → s ≢ Rat → has_class ds s Group ≡ true → ⊥
no_group ds Nat base beside e = let f : has_class ds Nat Group ≡ false = nothing_for_naturals ds Group in cc
no_group ds Int base beside e = let f : has_class ds Int Group ≡ false = nothing_for_integers ds Group in cc
no_group ds Rat base beside e = beside refl
no_group ds (Decl k) base beside e = let f : has_class ds (Decl k) Group ≡ false = base.no_group k in cc

pub no_field : (ds : List Declaration) (s : Sort) → IsIntegerBase ds → s ≢ Rat → has_class ds s Field ≡ true → ⊥
no_field ds Nat base beside e = let f : has_class ds Nat Field ≡ false = nothing_for_naturals ds Field in cc
no_field ds Int base beside e = let f : has_class ds Int Field ≡ false = nothing_for_integers ds Field in cc
no_field ds Rat base beside e = beside refl
no_field ds (Decl k) base beside e = let f : has_class ds (Decl k) Field ≡ false = base.no_field k in cc

pub no_group_or_field : (ds : List Declaration) (s : Sort) → IsIntegerBase ds → s ≢ Rat → (has_class ds s Group || has_class ds s Field) ≡ true → ⊥
no_group_or_field ds s base beside e = by (has_class ds s Group) refl e
  where
    by : (t : Bool) → has_class ds s Group ≡ t → (t || has_class ds s Field) ≡ true → ⊥
    by true p q = no_group ds s base beside p
    by false p q = no_field ds s base beside q

-- the tests that a good built-in symbol passed
symbol_parts : (b c : Bool) → (if b then class_mark c else BadSort) ≡ Good → (b ≡ true) × (c ≡ true)
symbol_parts true true e = (refl, refl)
symbol_parts true false e = cc
symbol_parts false c e = cc

same_mark-good : (b : Bool) → same_mark b ≡ Good → b ≡ true
same_mark-good true e = refl
same_mark-good false e = cc

same_length : (m n : ℕ) → nat_eq m n ≡ true → m ≡ n
same_length m n e = grind (arith, nat_tests)

-- none of these is of ℚ
abbrev pub AllBesideRationals : Trees → Type 0
AllBesideRationals Nil = ⊤
AllBesideRationals (Cons x xs) = (sort_of_tree x ≢ Rat) × AllBesideRationals xs

place-beside : (p : Place) (s t : Sort) → place_fits p s t ≡ true → s ≢ Rat → t ≢ Rat
place-beside Same s t h b = λ q. b (sym (sort_same-equal t s h) ∙ q)
place-beside OfNat s t h b = λ q. let e : t ≡ Nat = sort_same-equal t Nat h in cc
place-beside OfInt s t h b = λ q. let e : t ≡ Int = sort_same-equal t Int h in cc

places-beside : (xs : Trees) (ps : List Place) (s : Sort) → length ps ≡ length (sorts_of xs) → places_fit ps s (sorts_of xs) ≡ true → s ≢ Rat → AllBesideRationals xs
places-beside Nil ps s e h b = tt
places-beside (Cons x xs) [] s e h b = absurd (omega (arith, e))
places-beside (Cons x xs) (p ∷ ps) s e h b =
    let k = and_parts (place_fits p s (sort_of_tree x)) (places_fit ps s (sorts_of xs)) h in
    (place-beside p s (sort_of_tree x) k.0 b, places-beside xs ps s (omega (arith, e)) k.1 b)

declared-beside : (xs : Trees) (ss : List Sort) → All (λ t. t ≢ Rat) ss → length ss ≡ length (sorts_of xs) → sorts_agree ss (sorts_of xs) ≡ true → AllBesideRationals xs
declared-beside Nil ss a e h = tt
declared-beside (Cons x xs) [] a e h = absurd (omega (arith, e))
declared-beside (Cons x xs) (t ∷ ts) a e h =
    let k = and_parts (sort_same t (sort_of_tree x)) (sorts_agree ts (sorts_of xs)) h in
    let here : t ≢ Rat = All-head (λ t. t ≢ Rat) t ts a in
    (λ q. here (sort_same-equal t (sort_of_tree x) k.0 ∙ q), declared-beside xs ts (All-tail (λ t. t ≢ Rat) t ts a) (omega (arith, e)) k.1)

built_in-fits : (ds : List Declaration) (f : Sym) (s : Sort) (ts : List Sort) → built_in_mark ds f s ts ≡ Good → (length (places f) ≡ length ts) × (places_fit (places f) s ts ≡ true) × (has_classes ds f s ≡ true)
built_in-fits ds f s ts e =
    let p = symbol_parts (nat_eq (length (places f)) (length ts) && arguments_fit f s ts) (has_classes ds f s) e in
    let a = and_parts (nat_eq (length (places f)) (length ts)) (arguments_fit f s ts) p.0 in
    let b = and_parts (places_fit (places f) s ts) (serves f s) a.1 in
    (same_length (length (places f)) (length ts) a.0, b.0, p.1)

built_in-beside : (ds : List Declaration) (f : Sym) (s : Sort) (xs : Trees) → built_in_mark ds f s (sorts_of xs) ≡ Good → s ≢ Rat → AllBesideRationals xs
built_in-beside ds f s xs e b = let h = built_in-fits ds f s (sorts_of xs) e in places-beside xs (places f) s h.0 h.1 b

-- no argument of a symbol is of ℚ where its value isn't
symbol-beside : (ds : List Declaration) → IsIntegerBase ds → (f : Sym) (s : Sort) (xs : Trees) → symbol_mark ds f s (sorts_of xs) ≡ Good → s ≢ Rat → AllBesideRationals xs
symbol-beside ds base (Apply k) s xs e b = by (function_of (slice_get ds k)) refl e
  where
    by : (o : Option (List Sort × Sort)) → function_of (slice_get ds k) ≡ o → of_function o s (sorts_of xs) ≡ Good → AllBesideRationals xs
    by None f h = cc
    by (Some p) f h =
        let i = and_parts (sorts_same p.0 (sorts_of xs)) (sort_same p.1 s) (same_mark-good _ h) in
        let j = and_parts (nat_eq (length p.0) (length (sorts_of xs))) (sorts_agree p.0 (sorts_of xs)) i.0 in
        declared-beside xs p.0 (base.no_rational_argument k p.0 p.1 f) (same_length (length p.0) (length (sorts_of xs)) j.0) j.1
symbol-beside ds base f s xs e b = built_in-beside ds f s xs e b

pub arguments-beside : (ds : List Declaration) → IsIntegerBase ds → (f : Sym) (s : Sort) (xs : Trees) → IsWellSorted ds (App f s xs) → s ≢ Rat → AllBesideRationals xs
arguments-beside ds base f s xs g b =
    let h = worse-parts (head_mark ds f s (sorts_of xs)) (marks_of ds xs) g in
    let k = worse-parts (sort_mark ds s) (symbol_mark ds f s (sorts_of xs)) h.0 in
    symbol-beside ds base f s xs k.1 b

of_sort-good : (o : Option Sort) (s : Sort) → of_sort o s ≡ Good → o ≡ Some s
of_sort-good None s e = cc
of_sort-good (Some t) s e = ap Some (sort_same-equal t s (same_mark-good (sort_same t s) e))

result-natural : (ds : List Declaration) (es : List Listed) (k : ℕ) (xs : List ℤ) (ss : List Sort) → All (IsResult ds) es → function_of (slice_get ds k) ≡ Some (ss, Nat) → pos 0 ≤ℤ result_at es k xs
result-natural ds [] k xs ss a e = natural_not_below 0
result-natural ds (r ∷ rs) k xs ss a e = by (result-natural ds rs k xs ss (All-tail (IsResult ds) r rs a) e) (is_listed_at r k xs) refl
  where
    by : pos 0 ≤ℤ result_at rs k xs → (t : Bool) → is_listed_at r k xs ≡ t → pos 0 ≤ℤ (if t then r.result else result_at rs k xs)
    by later true h =
        let i = and_parts (nat_eq r.function k) (same_integers r.arguments xs) h in
        let same : r.function ≡ k = same_length r.function k i.0 in
        All-head (IsResult ds) r rs a ss (ap (λ n. function_of (slice_get ds n)) same ∙ e)
    by later false h = later

quotient-natural : (x y : ℤ) → pos 0 ≤ℤ x → pos 0 ≤ℤ y → pos 0 ≤ℤ integer_quotient x y
quotient-natural (pos a) (pos zero) h k = natural_not_below 0
quotient-natural (pos a) (pos (suc b)) h k = natural_not_below _
quotient-natural (pos a) (negsuc b) h k = absurd (omega (arith, ints, k))
quotient-natural (negsuc a) y h k = absurd (omega (arith, ints, h))

remainder-natural : (x y : ℤ) → pos 0 ≤ℤ x → pos 0 ≤ℤ y → pos 0 ≤ℤ integer_remainder x y
remainder-natural (pos a) (pos zero) h k = natural_not_below a
remainder-natural (pos a) (pos (suc b)) h k = natural_not_below _
remainder-natural (pos a) (negsuc b) h k = absurd (omega (arith, ints, k))
remainder-natural (negsuc a) y h k = absurd (omega (arith, ints, h))

one_natural : (g : ℤ → ℤ) → ((x : ℤ) → pos 0 ≤ℤ g x) → (xs : List ℤ) → pos 0 ≤ℤ at_one g xs
one_natural g h [] = natural_not_below 0
one_natural g h (x ∷ []) = h x
one_natural g h (x ∷ y ∷ zs) = natural_not_below 0

two_natural : (g : ℤ → ℤ → ℤ) → ((x y : ℤ) → pos 0 ≤ℤ g x y) → (xs : List ℤ) → pos 0 ≤ℤ at_two g xs
two_natural g h [] = natural_not_below 0
two_natural g h (x ∷ []) = natural_not_below 0
two_natural g h (x ∷ y ∷ []) = h x y
two_natural g h (x ∷ y ∷ z ∷ zs) = natural_not_below 0

module _ (ds : List Declaration) (v : Valuation) (val : IsValuation ds v) where
  -- each of these that is of ℕ is at least 0
  abbrev NaturalsAmong : Trees → Type 0
  NaturalsAmong Nil = ⊤
  NaturalsAmong (Cons x xs) = (sort_of_tree x ≡ Nat → pos 0 ≤ℤ value_of v x) × NaturalsAmong xs

  of_naturals : (g : ℤ → ℤ → ℤ) → ((x y : ℤ) → pos 0 ≤ℤ x → pos 0 ≤ℤ y → pos 0 ≤ℤ g x y) → (xs : Trees) → places_fit (Same ∷ Same ∷ []) Nat (sorts_of xs) ≡ true → NaturalsAmong xs → pos 0 ≤ℤ at_two g (values_of v xs)
  of_naturals g h Nil e n = natural_not_below 0
  of_naturals g h (Cons x Nil) e n = natural_not_below 0
  of_naturals g h (Cons x (Cons y Nil)) e n =
      let p = and_parts (sort_same (sort_of_tree x) Nat) (sort_same (sort_of_tree y) Nat && true) e in
      let q = and_parts (sort_same (sort_of_tree y) Nat) true p.1 in
      h (value_of v x) (value_of v y) (n.0 (sort_same-equal (sort_of_tree x) Nat p.0)) (n.1.0 (sort_same-equal (sort_of_tree y) Nat q.0))
  of_naturals g h (Cons x (Cons y (Cons z zs))) e n = natural_not_below 0

  no_negation : {P : Type 0} → has_class ds Nat AddGroup ≡ true → P
  no_negation h = let f : has_class ds Nat AddGroup ≡ false = naturals_no_group ds in absurd cc

  symbol-natural : (f : Sym) (xs : Trees) → symbol_mark ds f Nat (sorts_of xs) ≡ Good → NaturalsAmong xs → pos 0 ≤ℤ applied v f (values_of v xs)
  symbol-natural Add xs e n = of_naturals (λ x y. x +ℤ y) (λ x y h k. omega (arith, ints)) xs (built_in-fits ds Add Nat (sorts_of xs) e).1 n
  symbol-natural Mul xs e n = of_naturals (λ x y. x *ℤ y) product_not_below xs (built_in-fits ds Mul Nat (sorts_of xs) e).1 n
  symbol-natural Neg xs e n = no_negation (built_in-fits ds Neg Nat (sorts_of xs) e).2
  symbol-natural Sub xs e n = no_negation (built_in-fits ds Sub Nat (sorts_of xs) e).2
  symbol-natural Inv xs e n = natural_not_below 0
  symbol-natural Div xs e n = natural_not_below 0
  symbol-natural Npow xs e n = of_naturals (λ x y. int_pow x (natural y)) (λ x y h k. power_not_below x (natural y) h) xs (built_in-fits ds Npow Nat (sorts_of xs) e).1 n
  symbol-natural Zpow xs e n = natural_not_below 0
  symbol-natural Nsmul xs e n = of_naturals (λ x y. x *ℤ y) product_not_below xs (built_in-fits ds Nsmul Nat (sorts_of xs) e).1 n
  symbol-natural Zsmul xs e n = no_negation (built_in-fits ds Zsmul Nat (sorts_of xs) e).2
  symbol-natural Abs xs e n = one_natural (λ x. pos (unsigned_abs x)) (λ x. natural_not_below (unsigned_abs x)) (values_of v xs)
  symbol-natural Min xs e n = of_naturals (λ x y. int_min x y) (λ x y h k. omega (arith, ints, clamps)) xs (built_in-fits ds Min Nat (sorts_of xs) e).1 n
  symbol-natural Max xs e n = of_naturals (λ x y. int_max x y) (λ x y h k. omega (arith, ints, clamps)) xs (built_in-fits ds Max Nat (sorts_of xs) e).1 n
  symbol-natural NatSub xs e n = two_natural _ (λ x y. natural_not_below _) (values_of v xs)
  symbol-natural IDiv xs e n = of_naturals (λ x y. integer_quotient x y) quotient-natural xs (built_in-fits ds IDiv Nat (sorts_of xs) e).1 n
  symbol-natural Mod xs e n = of_naturals (λ x y. integer_remainder x y) remainder-natural xs (built_in-fits ds Mod Nat (sorts_of xs) e).1 n
  symbol-natural Gcd xs e n = two_natural _ (λ x y. natural_not_below _) (values_of v xs)
  symbol-natural Lcm xs e n = two_natural _ (λ x y. natural_not_below _) (values_of v xs)
  symbol-natural Fact xs e n = one_natural _ (λ x. natural_not_below _) (values_of v xs)
  symbol-natural Choose xs e n = two_natural _ (λ x y. natural_not_below _) (values_of v xs)
  symbol-natural Fib xs e n = one_natural _ (λ x. natural_not_below _) (values_of v xs)
  symbol-natural (Apply k) xs e n = by (function_of (slice_get ds k)) refl e
    where
      by : (o : Option (List Sort × Sort)) → function_of (slice_get ds k) ≡ o → of_function o Nat (sorts_of xs) ≡ Good → pos 0 ≤ℤ result_at v.results k (values_of v xs)
      by None f h = cc
      by (Some p) f h =
          let i = and_parts (sorts_same p.0 (sorts_of xs)) (sort_same p.1 Nat) (same_mark-good _ h) in
          let q : p.1 ≡ Nat = sort_same-equal p.1 Nat i.1 in
          result-natural ds v.results k (values_of v xs) p.0 val.results (f ∙ ap (λ t. Some (p.0, t)) q)

  mutual
    -- a well sorted tree of ℕ is at least 0
    pub natural_tree : (t : Tree) → IsWellSorted ds t → sort_of_tree t ≡ Nat → pos 0 ≤ℤ value_of v t
    natural_tree (Lit s n) g e = natural_not_below n
    natural_tree (Var d s) g e =
        let h = worse-parts (sort_mark ds s) (of_sort (variable_of (slice_get ds d)) s) g in
        val.naturals d (of_sort-good (variable_of (slice_get ds d)) s h.1 ∙ ap Some e)
    natural_tree (App f s xs) g e =
        let h = worse-parts (head_mark ds f s (sorts_of xs)) (marks_of ds xs) g in
        let k = worse-parts (sort_mark ds s) (symbol_mark ds f s (sorts_of xs)) h.0 in
        symbol-natural f xs (subst (λ t. symbol_mark ds f t (sorts_of xs) ≡ Good) e k.1) (natural_trees xs h.1)

    natural_trees : (xs : Trees) → AreWellSorted ds xs → NaturalsAmong xs
    natural_trees Nil g = tt
    natural_trees (Cons x xs) g = let h = worse-parts (mark_of ds x) (marks_of ds xs) g in (natural_tree x h.0, natural_trees xs h.1)

  -- the tree that a letter of ℕ stands for is at least 0
  pub natural_letter : (with : List Tree) (k : ℕ) → AreWellSorted ds (of_list with) → get_or (map sort_of_tree with) k Nat ≡ Nat → pos 0 ≤ℤ value_of v (get_or with k (Lit Nat 0))
  natural_letter [] k g e = natural_not_below 0
  natural_letter (t ∷ ts) zero g e = natural_tree t (worse-parts (mark_of ds t) (marks_of ds (of_list ts)) g).0 e
  natural_letter (t ∷ ts) (suc k) g e = natural_letter ts k (worse-parts (mark_of ds t) (marks_of ds (of_list ts)) g).1 e
