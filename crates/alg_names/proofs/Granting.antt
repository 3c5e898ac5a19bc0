-- The table of what was given, as it is taken back.
use Rattle.std.proofs.Common.{◌≡◌, ℕ, zero, suc, ◌+◌, ◌*◌, ◌<◌, ◌≤◌, Bool, true, false, not, ◌&&◌, ◌||◌, nat_eq, nat_lt, List, [], ◌∷◌, ◌++◌, length, take, set, get_or, refl, ap, sym, ◌∙◌, subst, inl, inr, arith, rules}
use Rattle.std.specs.Prelude.{if◌then◌else◌}
use Rattle.std.proofs.lemmas.Grind.{get_or-set_at}
use Rattle.std.proofs.lemmas.Bool.{cases_eq}
use Rattle.std.proofs.lemmas.Bool.Decides.{nat_tests, leb_tells}
use Rattle.std.proofs.lemmas.List.{get_or-set_other, take-append-le, take_all, get_or_past, length-append, map-append, length-map}
use Rattle.alg_terms.specs.declared.sorts.Sort.TheVariants.{Decl}
use Rattle.alg_law.specs.declared.classes.Class.{Class}
use Rattle.alg_law.specs.Classes.{class_key, all_of, class_same, is_among}
use Rattle.alg_law.specs.Declarations.{Declaration, Instance}
use Rattle.alg_law.specs.Having.{instances_give, instance_gives}
use Rattle.alg_law.specs.Firsts.{cell, first_at, AreFirst, noted, IsPadded}
use Rattle.alg_law.proofs.FirstLemmas.{number_small, AreFirst-note, AreFirst-padded}
use Rattle.alg_law.proofs.PrefixLemmas.{instances_give-append}
use Rattle.alg_names.specs.declared.grants.Granted.{Granted}
use Rattle.alg_names.specs.Granting.{instances_of, IsTabled, raised, forgotten}

pair_same : (j k x y : ℕ) → x < 20 → y < 20 → nat_eq (20 * j + x) (20 * k + y) ≡ (nat_eq j k && nat_eq y x)
pair_same j k x y p q = grind (arith, nat_tests)

chosen : (t : List ℕ) (i j at n : ℕ) (b : Bool) → b ≡ (nat_lt i (length t) && not (nat_lt (get_or t i 4294967295) at)) → n ≤ 4294967295 → at ≤ 4294967295
    → nat_lt (get_or (if b then set t i 4294967295 else t) j 4294967295) n ≡ (nat_lt (get_or t j 4294967295) n && (not (nat_eq j i) || nat_lt (get_or t j 4294967295) at))
chosen t i j at n true e l m = grind (arith, nat_tests, cases_eq j i, get_or-set_at, get_or-set_other)
chosen t i j at n false e l m = unchanged (nat_eq j i) (nat_lt (get_or t j 4294967295) n) (nat_lt (get_or t j 4294967295) at) (λ q. elim (leb_tells (length t) i) [
  | inl p ↦
      let past : length t ≤ j = let r : length t ≤ i = p.1 in grind (arith, nat_tests) in
      let x : get_or t j 4294967295 ≡ 4294967295 = get_or_past t j 4294967295 past in
      grind (arith, nat_tests)
  | inr p ↦
      let same : j ≡ i = grind (arith, nat_tests) in
      let x : get_or t j 4294967295 ≡ get_or t i 4294967295 = ap (λ k. get_or t k 4294967295) same in
      let r : i < length t = p.1 in
      grind (arith, nat_tests)
])
  where
    unchanged : (s x y : Bool) → (s ≡ true → x ≡ (x && y)) → x ≡ (x && (not s || y))
    unchanged true x y h = h refl
    unchanged false x y h = sym (and-true x)
      where
        and-true : (x : Bool) → (x && true) ≡ x
        and-true x = search rules

raised-at : (t : List ℕ) (i j at n : ℕ) → n ≤ 4294967295 → at ≤ 4294967295 → nat_lt (get_or (raised t i at) j 4294967295) n ≡ (nat_lt (get_or t j 4294967295) n && (not (nat_eq j i) || nat_lt (get_or t j 4294967295) at))
raised-at t i j at n l m = chosen t i j at n (nat_lt i (length t) && not (nat_lt (get_or t i 4294967295) at)) refl l m

all_kept : (x e y : Bool) → x ≡ (x && (not (e && false) || y))
all_kept x e y = search rules

together : (x y e s m : Bool) → ((x && (not (e && s) || y)) && (not (e && m) || (y && (not (e && s) || y)))) ≡ (x && (not (e && (s || m)) || y))
together x y e s m = search rules

-- what is forgotten is gone before n, if it wasn't there before `at`
forgotten-at : (t : List ℕ) (k : ℕ) (cs : List Class) (at j : ℕ) (c : Class) (n : ℕ) → n ≤ 4294967295 → at ≤ 4294967295
    → nat_lt (first_at (forgotten t k cs at) j c) n ≡ (nat_lt (first_at t j c) n && (not (nat_eq j k && is_among cs c) || nat_lt (first_at t j c) at))
forgotten-at t k [] at j c n l m = all_kept (nat_lt (first_at t j c) n) (nat_eq j k) (nat_lt (first_at t j c) at)
forgotten-at t k (b ∷ bs) at j c n l m =
    let e = pair_same j k (class_key c) (class_key b) (number_small c) (number_small b) in
    let one : (z : ℕ) → z ≤ 4294967295 → nat_lt (first_at (raised t (cell k b) at) j c) z ≡ (nat_lt (first_at t j c) z && (not (nat_eq j k && class_same b c) || nat_lt (first_at t j c) at)) =
    λ z q. raised-at t (cell k b) (cell j c) at z q m ∙ ap (λ x. nat_lt (first_at t j c) z && (not x || nat_lt (first_at t j c) at)) e in
    forgotten-at (raised t (cell k b) at) k bs at j c n l m
    ∙ (λ i. one n l i && (not (nat_eq j k && is_among bs c) || one at m i))
    ∙ together (nat_lt (first_at t j c) n) (nat_lt (first_at t j c) at) (nat_eq j k) (class_same b c) (is_among bs c)

stays-before : (f n at : ℕ) (m : Bool) → n ≤ at → (nat_lt f n && (not m || nat_lt f at)) ≡ nat_lt f n
stays-before f n at true l = grind (arith, nat_tests)
stays-before f n at false l = grind (arith, nat_tests)

goes-behind : (g m x y : Bool) → x ≡ (g || (m || false)) → y ≡ g → (x && (not m || y)) ≡ g
goes-behind g m x y p q = rw (p, q) (both g m)
  where
    both : (g m : Bool) → ((g || (m || false)) && (not m || g)) ≡ g
    both g m = search rules

module _ (t : List ℕ) (ds : List Declaration) (k : ℕ) (b : Class) (room : length ds < 4294967296) (h : AreFirst t (ds ++ Instance k b ∷ [])) where
  within : length ds ≤ 4294967295
  within = omega arith

  -- whether the first of the others gave a class
  before : (j : ℕ) (c : Class) (n : ℕ) → n < 4294967296 → n ≤ length ds → nat_lt (first_at t j c) n ≡ instances_give (take n ds) (Decl j) c
  before j c n l m = h j c n l ∙ ap (λ x. instances_give x (Decl j) c) (take-append-le n ds (Instance k b ∷ []) m)

  -- the last is forgotten
  pub AreFirst-forget : AreFirst (forgotten t k (all_of b) (length ds)) ds
  AreFirst-forget j c n l =
      let z : n ≤ 4294967295 = omega arith in
      forgotten-at t k (all_of b) (length ds) j c n z within
      ∙ elim (leb_tells n (length ds)) [
        | inl p ↦ stays-before (first_at t j c) n (length ds) (nat_eq j k && is_among (all_of b) c) p.1 ∙ before j c n l p.1
        | inr p ↦
            let m : length ds ≤ n = let q : length ds < n = p.1 in omega arith in
            let whole : length (ds ++ Instance k b ∷ []) ≤ n = let q : length ds < n = p.1 in omega (arith, length-append ds (Instance k b ∷ [])) in
            let x : nat_lt (first_at t j c) n ≡ (instances_give ds (Decl j) c || (instance_gives (Instance k b) (Decl j) c || false)) =
            h j c n l ∙ ap (λ w. instances_give w (Decl j) c) (take_all n (ds ++ Instance k b ∷ []) whole) ∙ instances_give-append ds (Instance k b ∷ []) (Decl j) c in
            let self : length ds ≤ length ds = omega arith in
            let y : nat_lt (first_at t j c) (length ds) ≡ instances_give ds (Decl j) c = before j c (length ds) room self ∙ ap (λ w. instances_give w (Decl j) c) (take_all (length ds) ds self) in
            goes-behind (instances_give ds (Decl j) c) (nat_eq j k && is_among (all_of b) c) (nat_lt (first_at t j c) n) (nat_lt (first_at t j c) (length ds)) x y
            ∙ ap (λ w. instances_give w (Decl j) c) (sym (take_all n ds m))
      ]

instances_of-push : (gs : List Granted) (g : Granted) → instances_of (gs ++ g ∷ []) ≡ instances_of gs ++ Instance g.sort g.class ∷ []
instances_of-push gs g = map-append (λ (x : Granted). Instance x.sort x.class) gs (g ∷ [])

instances_of-length : (gs : List Granted) → length (instances_of gs) ≡ length gs
instances_of-length gs = length-map gs (λ (x : Granted). Instance x.sort x.class)

pub IsTabled-padded : (gs : List Granted) (t u : List ℕ) → IsPadded t u → IsTabled gs t → IsTabled gs u
IsTabled-padded gs t u p h = record { room = h.room; first = AreFirst-padded t u (instances_of gs) p h.first }

-- one more
pub IsTabled-push : (gs : List Granted) (t : List ℕ) (g : Granted) (at : ℕ) → at ≡ length gs → at < 4294967295 → 20 * g.sort + 20 ≤ length t → IsTabled gs t → IsTabled (gs ++ g ∷ []) (noted t g.sort (all_of g.class) at)
IsTabled-push gs t g at e l r h =
    record {
      room = omega (arith, length-append gs (g ∷ []), e);
      first = subst (λ x. AreFirst (noted t g.sort (all_of g.class) at) x) (sym (instances_of-push gs g))
          (subst (λ n. AreFirst (noted t g.sort (all_of g.class) n) (instances_of gs ++ Instance g.sort g.class ∷ [])) (instances_of-length gs ∙ sym e)
          (AreFirst-note t (instances_of gs) g.sort g.class r h.first));
    }

-- one fewer
pub IsTabled-back : (gs : List Granted) (t : List ℕ) (g : Granted) (at : ℕ) → at ≡ length gs → IsTabled (gs ++ g ∷ []) t → IsTabled gs (forgotten t g.sort (all_of g.class) at)
IsTabled-back gs t g at e h =
    let room : length gs < 4294967296 = omega (arith, length-append gs (g ∷ []), h.room) in
    record {
      room = room;
      first = subst (λ n. AreFirst (forgotten t g.sort (all_of g.class) n) (instances_of gs)) (instances_of-length gs ∙ sym e)
          (AreFirst-forget t (instances_of gs) g.sort g.class (subst (λ n. n < 4294967296) (sym (instances_of-length gs)) room)
          (subst (λ x. AreFirst t x) (instances_of-push gs g) h.first));
    }

pub IsTabled-empty : IsTabled [] []
IsTabled-empty = record { room = omega arith; first = λ k c n l. past n l ∙ sym (nothing k c n) }
  where
    past : (n : ℕ) → n < 4294967296 → nat_lt 4294967295 n ≡ false
    past n l = grind (arith, nat_tests)

    nothing : (k : ℕ) (c : Class) (n : ℕ) → instances_give (take n []) (Decl k) c ≡ false
    nothing k c zero = refl
    nothing k c (suc n) = refl

-- one look
pub tells : (gs : List Granted) (t : List ℕ) (k : ℕ) (c : Class) (at n : ℕ) → IsTabled gs t → at ≡ first_at t k c → n ≡ length gs → nat_lt at n ≡ instances_give (instances_of gs) (Decl k) c
tells gs t k c at n h e f =
    let all : length (instances_of gs) ≤ length gs = omega (arith, instances_of-length gs) in
    (λ i. nat_lt (e i) (f i)) ∙ h.first k c (length gs) h.room ∙ ap (λ ds. instances_give ds (Decl k) c) (take_all (length gs) (instances_of gs) all)
