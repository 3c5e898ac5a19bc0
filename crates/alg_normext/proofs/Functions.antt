-- The functions of whole numbers: their parts, and their values.
use Rattle.std.proofs.Common.{◌≡◌, ℕ, ◌^◌, ℤ, pos, Bool, true, false, List, [], ◌∷◌, map, length, refl, ap, Some, None, Option, ◌⊎◌, inl, inr}
use Rattle.std.specs.Prelude.{nat_lt, unsigned_abs, option_map, if◌then◌else◌}
use Rattle.alg_terms.specs.declared.sorts.Sort.{Sort}
use Rattle.alg_terms.specs.declared.sorts.Sort.TheVariants.{Nat, Int, Rat, Decl}
use Rattle.alg_terms.specs.declared.symbols.Sym.{Sym}
use Rattle.alg_terms.specs.declared.symbols.Sym.TheVariants.{Abs, Min, Max, NatSub, IDiv, Mod, Gcd, Lcm, Fact, Choose, Fib, Apply}
use Rattle.alg_terms.specs.Symbols.{is_integral}
use Rattle.alg_num.specs.Fraction.{Fraction}
use Rattle.alg_law.specs.declared.marks.Mark.TheVariants.{Good}
use Rattle.alg_law.specs.Declarations.{Declaration}
use Rattle.alg_law.specs.Computing.{natural_value, integer_value, literal_value}
use Rattle.alg_law.specs.WellSorted.{head_mark, sort_mark, symbol_mark}
use Rattle.alg_law.proofs.WellSortedLaws.{worse-parts}
use Rattle.alg_proof.specs.Steps.{name_mark}
use Rattle.alg_values.specs.Setting.{Classes}
use Rattle.alg_values.specs.Arithmetic.{whole_number, size_of}
use Rattle.alg_values.specs.Ranges.{in_range}
use Rattle.alg_values.specs.Functions.{named_of, whole_function, natural_ranged, integer_ranged}
use Rattle.alg_values.specs.declared.value.Value.TheVariants.{Num, Past}
use Rattle.alg_value_laws.proofs.Places.{sorts_are}
use Rattle.alg_normext.specs.Functions.{is_whole_function}
use Rattle.alg_normext.specs.Wholes.{HasWholeValue}
use Rattle.alg_normext.specs.declared.heads.Head.{Head}

pub named-whole : (has : Classes) (f : Sym) (s : Sort) (ps : List Fraction) → is_whole_function f ≡ true → named_of has f s ps ≡ whole_function s f ps
named-whole has Abs s ps w = cc
named-whole has Min s ps w = cc
named-whole has Max s ps w = cc
named-whole has _ s ps w = refl

pub name-whole : (ds : List Declaration) (f : Sym) → is_whole_function f ≡ true → name_mark ds f ≡ Good
name-whole ds (Apply k) w = cc
name-whole ds _ w = refl

-- the parts have the sort of the whole

module _ (ds : List Declaration) (s : Sort) where
  marked : (f : Sym) (ts : List Sort) → head_mark ds f s ts ≡ Good → symbol_mark ds f s ts ≡ Good
  marked f ts h = (worse-parts (sort_mark ds s) (symbol_mark ds f s ts) h).1

  pub one-sort : (f : Sym) (t : Sort) → is_whole_function f ≡ true → head_mark ds f s (t ∷ []) ≡ Good → t ≡ s
  one-sort NatSub t w h = let e = sorts_are ds NatSub s (t ∷ []) (marked NatSub (t ∷ []) h) in cc
  one-sort IDiv t w h = let e = sorts_are ds IDiv s (t ∷ []) (marked IDiv (t ∷ []) h) in cc
  one-sort Mod t w h = let e = sorts_are ds Mod s (t ∷ []) (marked Mod (t ∷ []) h) in cc
  one-sort Gcd t w h = let e = sorts_are ds Gcd s (t ∷ []) (marked Gcd (t ∷ []) h) in cc
  one-sort Lcm t w h = let e = sorts_are ds Lcm s (t ∷ []) (marked Lcm (t ∷ []) h) in cc
  one-sort Fact t w h = let e = sorts_are ds Fact s (t ∷ []) (marked Fact (t ∷ []) h) in cc
  one-sort Choose t w h = let e = sorts_are ds Choose s (t ∷ []) (marked Choose (t ∷ []) h) in cc
  one-sort Fib t w h = let e = sorts_are ds Fib s (t ∷ []) (marked Fib (t ∷ []) h) in cc
  one-sort _ t w h = cc

  both : (t u : Sort) → t ∷ u ∷ [] ≡ s ∷ s ∷ [] → (t ≡ s) × (u ≡ s)
  both t u e = (cc, cc)

  pub two-sorts : (f : Sym) (t u : Sort) → is_whole_function f ≡ true → head_mark ds f s (t ∷ u ∷ []) ≡ Good → (t ≡ s) × (u ≡ s)
  two-sorts NatSub t u w h = both t u (sorts_are ds NatSub s (t ∷ u ∷ []) (marked NatSub (t ∷ u ∷ []) h))
  two-sorts IDiv t u w h = both t u (sorts_are ds IDiv s (t ∷ u ∷ []) (marked IDiv (t ∷ u ∷ []) h))
  two-sorts Mod t u w h = both t u (sorts_are ds Mod s (t ∷ u ∷ []) (marked Mod (t ∷ u ∷ []) h))
  two-sorts Gcd t u w h = both t u (sorts_are ds Gcd s (t ∷ u ∷ []) (marked Gcd (t ∷ u ∷ []) h))
  two-sorts Lcm t u w h = both t u (sorts_are ds Lcm s (t ∷ u ∷ []) (marked Lcm (t ∷ u ∷ []) h))
  two-sorts Fact t u w h = let e = sorts_are ds Fact s (t ∷ u ∷ []) (marked Fact (t ∷ u ∷ []) h) in (cc, cc)
  two-sorts Choose t u w h = both t u (sorts_are ds Choose s (t ∷ u ∷ []) (marked Choose (t ∷ u ∷ []) h))
  two-sorts Fib t u w h = let e = sorts_are ds Fib s (t ∷ u ∷ []) (marked Fib (t ∷ u ∷ []) h) in (cc, cc)
  two-sorts _ t u w h = (cc, cc)

-- what a value says

record RangedNatural (o : Option ℕ) (v : Fraction) : Type 0 where
  number : ℕ
  is : o ≡ Some number
  small : nat_lt number (2 ^ 127) ≡ true
  same : v ≡ whole_number (pos number)

natural-num : (o : Option ℕ) (v : Fraction) → natural_ranged o ≡ Num v → RangedNatural o v
natural-num None v e = cc
natural-num (Some n) v e = at (nat_lt n (2 ^ 127)) refl e
  where
    at : (t : Bool) → nat_lt n (2 ^ 127) ≡ t → (if t then Num (whole_number (pos n)) else Past) ≡ Num v → RangedNatural (Some n) v
    at true k e = record { number = n; is = refl; small = k; same = cc }
    at false k e = cc

record RangedInteger (o : Option ℤ) (v : Fraction) : Type 0 where
  number : ℤ
  is : o ≡ Some number
  small : in_range number ≡ true
  same : v ≡ whole_number number

integer-num : (o : Option ℤ) (v : Fraction) → integer_ranged o ≡ Num v → RangedInteger o v
integer-num None v e = cc
integer-num (Some z) v e = at (in_range z) refl e
  where
    at : (t : Bool) → in_range z ≡ t → (if t then Num (whole_number z) else Past) ≡ Num v → RangedInteger (Some z) v
    at true k e = record { number = z; is = refl; small = k; same = cc }
    at false k e = cc

sizes-same : (ps : List Fraction) → map unsigned_abs (map (λ p. p.numerator) ps) ≡ map size_of ps
sizes-same [] = refl
sizes-same (p ∷ ps) = ap (λ ns. size_of p ∷ ns) (sizes-same ps)

pub whole-integral : (s : Sort) (f : Sym) (ps : List Fraction) (v : Fraction) → whole_function s f ps ≡ Num v → is_integral s ≡ true
whole-integral Nat f ps v e = refl
whole-integral Int f ps v e = refl
whole-integral Rat f ps v e = cc
whole-integral (Decl k) f ps v e = cc

literal-is : (o : Option ℕ) (n : ℕ) → o ≡ Some n → nat_lt n (2 ^ 127) ≡ true → option_map pos (literal_value o) ≡ Some (pos n)
literal-is o n e k = rw (e, k) refl

pub has-whole-value : (h : Head) (ps : List Fraction) (v : Fraction) → whole_function h.sort h.sym ps ≡ Num v → HasWholeValue h (map (λ p. p.numerator) ps) v
has-whole-value h ps v e = at h.sort e
  where
    at : (s : Sort) → whole_function s h.sym ps ≡ Num v → HasWholeValue (record { sym = h.sym; sort = s }) (map (λ p. p.numerator) ps) v
    at Nat e =
        let r = natural-num (natural_value h.sym (map size_of ps)) v e in
        rw r.same (record { value = rw (sizes-same ps) (literal-is (natural_value h.sym (map size_of ps)) r.number r.is r.small); small = r.small; whole = refl })
    at Int e =
        let r = integer-num (integer_value h.sym (map (λ p. p.numerator) ps)) v e in
        rw r.same (record { value = r.is; small = r.small; whole = refl })
    at Rat e = cc
    at (Decl k) e = cc

-- it is a function of one number or of two

no_natural : (f : Sym) (n : ℕ) → natural_value f [] ≡ Some n → ⊥
no_natural Gcd n e = cc
no_natural _ n e = cc

no_integer : (f : Sym) (z : ℤ) → integer_value f [] ≡ Some z → ⊥
no_integer IDiv z e = cc
no_integer _ z e = cc

no_more_natural : (f : Sym) (k l m : ℕ) (ns : List ℕ) (n : ℕ) → natural_value f (k ∷ l ∷ m ∷ ns) ≡ Some n → ⊥
no_more_natural Gcd k l m ns n e = cc
no_more_natural _ k l m ns n e = cc

no_more_integer : (f : Sym) (k l m : ℤ) (ns : List ℤ) (z : ℤ) → integer_value f (k ∷ l ∷ m ∷ ns) ≡ Some z → ⊥
no_more_integer IDiv k l m ns z e = cc
no_more_integer _ k l m ns z e = cc

pub one_or_two : (s : Sort) (f : Sym) (ps : List Fraction) (v : Fraction) → whole_function s f ps ≡ Num v → (length ps ≡ 1) ⊎ (length ps ≡ 2)
one_or_two s f (p ∷ []) v e = inl refl
one_or_two s f (p ∷ q ∷ []) v e = inr refl
one_or_two Nat f [] v e = let r = natural-num (natural_value f []) v e in absurd (no_natural f r.number r.is)
one_or_two Int f [] v e = let r = integer-num (integer_value f []) v e in absurd (no_integer f r.number r.is)
one_or_two Rat f [] v e = cc
one_or_two (Decl k) f [] v e = cc
one_or_two Nat f (p ∷ q ∷ o ∷ ps) v e = let r = natural-num (natural_value f (map size_of (p ∷ q ∷ o ∷ ps))) v e in absurd (no_more_natural f _ _ _ _ r.number r.is)
one_or_two Int f (p ∷ q ∷ o ∷ ps) v e = let r = integer-num (integer_value f (map (λ p. p.numerator) (p ∷ q ∷ o ∷ ps))) v e in absurd (no_more_integer f _ _ _ _ r.number r.is)
one_or_two Rat f (p ∷ q ∷ o ∷ ps) v e = cc
one_or_two (Decl k) f (p ∷ q ∷ o ∷ ps) v e = cc
