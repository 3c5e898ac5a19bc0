-- The table of first instances.
use Rattle.std.proofs.Common.{◌≡◌, ℕ, ◌+◌, ◌*◌, ◌<◌, ◌≤◌, Bool, true, false, ◌&&◌, ◌||◌, nat_eq, nat_lt, List, [], ◌∷◌, ◌++◌, length, take, set, get_or, refl, ap, sym, ◌∙◌, inl, inr, arith, rules}
use Rattle.std.specs.Prelude.{if◌then◌else◌}
use Rattle.std.proofs.lemmas.Grind.{get_or-set_at}
use Rattle.std.proofs.lemmas.Bool.{cases_eq, lt-ltb}
use Rattle.std.proofs.lemmas.Bool.Decides.{nat_tests, leb_tells}
use Rattle.std.proofs.lemmas.List.{get_or-set_other, take-append-le, take_all, length-append}
use Rattle.alg_terms.specs.declared.sorts.Sort.{Sort}
use Rattle.alg_terms.specs.declared.sorts.Sort.TheVariants.{Decl}
use Rattle.alg_law.specs.declared.classes.Class.{Class}
use Rattle.alg_law.specs.Classes.{class_key, all_of, class_same, is_among}
use Rattle.alg_law.specs.Declarations.{Declaration, Instance}
use Rattle.alg_law.specs.Having.{instances_give, instance_gives}
use Rattle.alg_law.specs.Firsts.{cell, first_at, AreFirst, lowered, noted, IsPadded}
use Rattle.alg_law.proofs.PrefixLemmas.{instances_give-append}

pub number_small : (c : Class) → class_key c < 20
number_small c = search rules

pair_same : (j k x y : ℕ) → x < 20 → y < 20 → nat_eq (20 * j + x) (20 * k + y) ≡ (nat_eq j k && nat_eq y x)
pair_same j k x y p q = grind (arith, nat_tests)

chosen : (t : List ℕ) (i j at n : ℕ) (b : Bool) → b ≡ nat_lt at (get_or t i 4294967295) → i < length t → nat_lt (get_or (if b then set t i at else t) j 4294967295) n ≡ (nat_lt (get_or t j 4294967295) n || (nat_lt at n && nat_eq j i))
chosen t i j at n true e l = grind (arith, nat_tests, cases_eq j i, get_or-set_at, get_or-set_other)
chosen t i j at n false e l = grind (arith, nat_tests, cases_eq j i)

lowered-at : (t : List ℕ) (i j at n : ℕ) → i < length t → nat_lt (get_or (lowered t i at) j 4294967295) n ≡ (nat_lt (get_or t j 4294967295) n || (nat_lt at n && nat_eq j i))
lowered-at t i j at n l = chosen t i j at n (nat_lt at (get_or t i 4294967295)) refl l

no_other : (x y : Bool) → x ≡ (x || (y && false))
no_other x y = search rules

length-chosen : (t : List ℕ) (i at : ℕ) (b : Bool) → length (if b then set t i at else t) ≡ length t
length-chosen t i at b = search rules

together : (x a e s m : Bool) → ((x || (a && (e && s))) || (a && (e && m))) ≡ (x || (a && (e && (s || m))))
together x a e s m = search rules

none_at_all : (x a e : Bool) → x ≡ (x || (a && (e && false)))
none_at_all x a e = search rules

-- a class is there before n if it was, or if declaration `at` before n gave it
pub noted-at : (t : List ℕ) (k : ℕ) (cs : List Class) (at j : ℕ) (c : Class) (n : ℕ) → 20 * k + 20 ≤ length t
    → nat_lt (first_at (noted t k cs at) j c) n ≡ (nat_lt (first_at t j c) n || (nat_lt at n && (nat_eq j k && is_among cs c)))
noted-at t k [] at j c n l = none_at_all (nat_lt (first_at t j c) n) (nat_lt at n) (nat_eq j k)
noted-at t k (b ∷ bs) at j c n l =
    let i : cell k b < length t = omega (arith, number_small b) in
    let m : 20 * k + 20 ≤ length (lowered t (cell k b) at) = rw (length-chosen t (cell k b) at (nat_lt at (get_or t (cell k b) 4294967295))) l in
    noted-at (lowered t (cell k b) at) k bs at j c n m
    ∙ ap (λ x. x || (nat_lt at n && (nat_eq j k && is_among bs c))) (lowered-at t (cell k b) (cell j c) at n i ∙ ap (λ x. nat_lt (first_at t j c) n || (nat_lt at n && x)) (pair_same j k (class_key c) (class_key b) (number_small c) (number_small b)))
    ∙ together (nat_lt (first_at t j c) n) (nat_lt at n) (nat_eq j k) (class_same b c) (is_among bs c)

or_false : (x : Bool) → (x || false) ≡ x
or_false x = search rules

-- what the first n of one more declaration give
before : (ds : List Declaration) (d : Declaration) (s : Sort) (c : Class) (n : ℕ) → instances_give (take n (ds ++ d ∷ [])) s c ≡ (instances_give (take n ds) s c || (nat_lt (length ds) n && instance_gives d s c))
before ds d s c n = elim (leb_tells n (length ds)) [
  | inl h ↦
      let e : nat_lt (length ds) n ≡ false = let l : n ≤ length ds = h.1 in grind (arith, nat_tests) in
      rw (take-append-le n ds (d ∷ []) h.1, e) (sym (or_false (instances_give (take n ds) s c)))
  | inr h ↦
      let e : nat_lt (length ds) n ≡ true = lt-ltb (length ds) n h.1 in
      let l : length (ds ++ d ∷ []) ≤ n = let k : length ds < n = h.1 in omega (arith, length-append ds (d ∷ [])) in
      let m : length ds ≤ n = let k : length ds < n = h.1 in omega arith in
      rw (take_all n (ds ++ d ∷ []) l, take_all n ds m, e) (instances_give-append ds (d ∷ []) s c ∙ ap (λ b. instances_give ds s c || b) (or_false (instance_gives d s c)))
]

module _ (t : List ℕ) (ds : List Declaration) where
  -- one more declaration that gives nothing
  pub AreFirst-pass : (d : Declaration) → ((s : Sort) (c : Class) → instance_gives d s c ≡ false) → AreFirst t ds → AreFirst t (ds ++ d ∷ [])
  AreFirst-pass d h f j c n l =
      f j c n l
      ∙ no_other (instances_give (take n ds) (Decl j) c) (nat_lt (length ds) n)
      ∙ ap (λ b. instances_give (take n ds) (Decl j) c || (nat_lt (length ds) n && b)) (sym (h (Decl j) c))
      ∙ sym (before ds d (Decl j) c n)

  -- and one that gives a class
  pub AreFirst-note : (k : ℕ) (b : Class) → 20 * k + 20 ≤ length t → AreFirst t ds → AreFirst (noted t k (all_of b) (length ds)) (ds ++ Instance k b ∷ [])
  AreFirst-note k b m f j c n l =
      noted-at t k (all_of b) (length ds) j c n m
      ∙ ap (λ x. x || (nat_lt (length ds) n && (nat_eq j k && is_among (all_of b) c))) (f j c n l)
      ∙ sym (before ds (Instance k b) (Decl j) c n)

-- a longer table that says no more
pub AreFirst-padded : (t u : List ℕ) (ds : List Declaration) → IsPadded t u → AreFirst t ds → AreFirst u ds
AreFirst-padded t u ds p f k c n l = rw (p (cell k c)) (f k c n l)
