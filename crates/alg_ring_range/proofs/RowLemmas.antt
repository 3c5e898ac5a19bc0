-- What is found of a node, from what is found of its parts.
use Rattle.std.proofs.Common.{◌≡◌, ℕ, zero, suc, ◌+◌, ◌*◌, ◌/◌, ◌^◌, ◌<◌, ◌≤◌, ℤ, pos, neg_ℤ, ◌+ℤ◌, ◌*ℤ◌, to_z, of_z, arith, refl, ap, ap₂, sym, ◌∙◌, subst, Bool, true, false, Option, Some, None, nat_lt, le_refl}
use Rattle.std.specs.Prelude.{SomeIff, ◌||◌, ◌&&◌, is_some, unsigned_abs}
use Rattle.std.specs.Int.{int_pow, w128}
use Rattle.std.proofs.lemmas.Bool.Decides.{nat_tests}
use Rattle.std.proofs.lemmas.Nat.{mul-le}
use Rattle.std.proofs.lemmas.Int.{to_z-of_z, fits_signed_from_abs}
use Rattle.std.proofs.Math.Nat.{pow-zero, pow-le-pow_left}
use Rattle.alg_num.proofs.IntegerLaws.{positive_product}
use Rattle.alg_num.proofs.PowerLaws.{positive_power}
use Rattle.alg_num.specs.Fraction.{Fraction}
use Rattle.alg_num.specs.Range.{InRange}
use Rattle.alg_num.specs.LowestTerms.{Reduces}
use Rattle.alg_num.proofs.LowestTermsLaws.{Reduces-unique}
use Rattle.alg_num.specs.Reduced.{reduced}
use Rattle.alg_num.specs.Sum.{sum_of}
use Rattle.alg_num.specs.Product.{product_of}
use Rattle.alg_num.specs.Power.{power_of}
use Rattle.std.specs.Option.{option_map_or}
use Rattle.alg_ring_range.specs.Capped.{capped, capped_numeral}
use Rattle.alg_num.specs.Negative.{negative_of}
use Rattle.alg_sums.specs.Inverse.{inverse_of}
use Rattle.alg_ring_range.specs.Fractions.{sum_fraction, negated_fraction, product_fraction, power_fraction}
use Rattle.alg_law.specs.Computing.{least_multiple}
use Rattle.alg_ring_range.specs.Sizes.{is_past, sum_sizes, product_sizes, power_sizes, inverse_sizes}
use Rattle.alg_expansions.specs.Numerals.{sum_numeral, product_numeral, power_numeral}
use Rattle.alg_ring_range.specs.Numbers.{Numbers, over_one, over_two, inverse_by, inverse}
use Rattle.alg_ring_range.specs.Found.{AreSizes, IsTop, IsTopOf, IsCovered, IsSound, IsFound, HasInverse, both_of, scaled_sizes}
use Rattle.alg_ring_range.specs.declared.sizes.Sizes.{Sizes}
use Rattle.alg_ring_range.specs.declared.rows.Found.{Found}
use Rattle.alg_ring_range.proofs.Capping.{capped-sum_numeral, capped-product_numeral, capped-power_numeral}
use Rattle.alg_ring_range.proofs.TopLaws.{scale_positive, other_positive, multiple_positive, left_multiple, sum_top, product_top, negated_top, power_top, inverse_top, inverse_positive}

-- tests

or_left : (a b : Bool) → a ≡ true → (a || b) ≡ true
or_left true b e = refl
or_left false b e = cc

pub or_right : (a b : Bool) → b ≡ true → (a || b) ≡ true
or_right true b e = refl
or_right false b e = e

or_neither : (a b : Bool) → a ≡ false → b ≡ false → (a || b) ≡ false
or_neither true b e f = cc
or_neither false b e f = f

neither_left : (a b : Bool) → (a || b) ≡ false → a ≡ false
neither_left true b e = cc
neither_left false b e = refl

neither_right : (a b : Bool) → (a || b) ≡ false → b ≡ false
neither_right true b e = cc
neither_right false b e = e

not_false : (a : Bool) → ¬ (a ≡ false) → a ≡ true
not_false true h = refl
not_false false h = absurd (h refl)

pub not_both : {A : Type 0} (a : Bool) → a ≡ true → a ≡ false → A
not_both a e f = absurd (cc)

-- limits

pub small_denominator : (z : Sizes) → is_past z ≡ false → z.denominator ≤ 2 ^ 126
small_denominator z e = let h = neither_left (nat_lt (2 ^ 126) z.denominator) _ e in grind (arith, nat_tests)

pub small_weight : (z : Sizes) → is_past z ≡ false → z.weight ≤ 2 ^ 126
small_weight z e = let h = neither_left (nat_lt (2 ^ 126) z.weight) _ (neither_right (nat_lt (2 ^ 126) z.denominator) _ e) in grind (arith, nat_tests)

pub small : (f : Found) (x : Numbers) → IsFound f x → x.is_out ≡ false → is_past x.sizes ≡ false
small f x h e = go f.sizes h.sizes
  where
    go : (r : Option Sizes) → AreSizes r x → is_past x.sizes ≡ false
    go (Some z) t = subst (λ d. is_past d ≡ false) t.2 t.1
    go None t = not_both x.is_out t e

-- exponents are covered by their weights

pub covered-sum : (m n : Option ℕ) (v w s t : ℕ) → 0 < s → 0 < t → IsCovered m v → IsCovered n w → IsCovered (sum_numeral m n) (v * s + w * t)
covered-sum (Some m) (Some n) v w s t h i c d =
    let p = mul-le m 1 v s c (omega (arith, h)) in
    let q = mul-le n 1 w t d (omega (arith, i)) in
    omega (arith, p, q)
covered-sum (Some m) None v w s t h i c d = tt
covered-sum None (Some n) v w s t h i c d = tt
covered-sum None None v w s t h i c d = tt

one_known : (m w : ℕ) → IsCovered (product_numeral (Some m) None) w
one_known zero w = omega arith
one_known (suc m) w = let e : product_numeral (Some (suc m)) None ≡ None = grind arith in rw e tt

other_known : (m w : ℕ) → IsCovered (product_numeral None (Some m)) w
other_known zero w = omega arith
other_known (suc m) w = let e : product_numeral None (Some (suc m)) ≡ None = grind arith in rw e tt

pub covered-product : (m n : Option ℕ) (v w : ℕ) → IsCovered m v → IsCovered n w → IsCovered (product_numeral m n) (v * w)
covered-product (Some m) (Some n) v w c d = mul-le m n v w c d
covered-product (Some m) None v w c d = one_known m (v * w)
covered-product None (Some n) v w c d = other_known n (v * w)
covered-product None None v w c d = tt

no_base : (c w : ℕ) → IsCovered (power_numeral None c) (w ^ c)
no_base zero w = rw (pow-zero w) (omega arith)
no_base (suc c) w = let e : power_numeral None (suc c) ≡ None = grind arith in rw e tt

pub covered-power : (m : Option ℕ) (c w : ℕ) → IsCovered m w → IsCovered (power_numeral m c) (w ^ c)
covered-power (Some m) c w h = pow-le-pow_left h c
covered-power None c w h = no_base c w

-- closed nodes

pub closed-sum : (u v : Option Fraction) → is_some (sum_fraction u v) ≡ (is_some u && is_some v)
closed-sum (Some p) (Some q) = refl
closed-sum (Some p) None = refl
closed-sum None (Some q) = refl
closed-sum None None = refl

pub closed-product : (u v : Option Fraction) → is_some (product_fraction u v) ≡ (is_some u && is_some v)
closed-product (Some p) (Some q) = refl
closed-product (Some p) None = refl
closed-product None (Some q) = refl
closed-product None None = refl

pub closed-by : (u : Option Fraction) (q : Fraction) → is_some (product_fraction u (Some q)) ≡ is_some u
closed-by (Some p) q = refl
closed-by None q = refl

pub closed-negated : (u : Option Fraction) → is_some (negated_fraction u) ≡ is_some u
closed-negated (Some p) = refl
closed-negated None = refl

pub closed-power : (u : Option Fraction) (c : ℕ) → is_some (power_fraction u c) ≡ is_some u
closed-power (Some p) c = refl
closed-power None c = refl

-- the denominator times the fraction

pub in_range : (n : ℤ) (z : Sizes) → is_past z ≡ false → unsigned_abs n ≤ z.weight → InRange n
in_range n z e h = let w = small_weight z e in omega (arith, h, w)

-- a number that the code holds is what its bits say
pub cast_small : (n : ℤ) (z : Sizes) → is_past z ≡ false → unsigned_abs n ≤ z.weight → to_z w128 (of_z w128 n) ≡ n
cast_small n z e h = to_z-of_z w128 n (fits_signed_from_abs w128 n (in_range n z e h))

pub sum_top_of : (u v : Option Fraction) (m n m' n' k : ℤ) (x y : Sizes) → 0 < x.denominator → 0 < y.denominator → IsTopOf u m x → IsTopOf v n y → is_past (sum_sizes x y) ≡ false → (unsigned_abs m ≤ x.weight → m' ≡ m) → (unsigned_abs n ≤ y.weight → n' ≡ n) →
    (unsigned_abs m' * (least_multiple x.denominator y.denominator / x.denominator) + unsigned_abs n' * (least_multiple x.denominator y.denominator / y.denominator) ≤ 2 ^ 126 → k ≡ m' *ℤ pos (least_multiple x.denominator y.denominator / x.denominator) +ℤ n' *ℤ pos (least_multiple x.denominator y.denominator / y.denominator)) →
    IsTopOf (sum_fraction u v) k (sum_sizes x y)
sum_top_of (Some p) (Some q) m n m' n' k x y h i s t small a b g =
    let l = least_multiple x.denominator y.denominator in
    let w = small_weight (sum_sizes x y) small in
    let c = mul-le (unsigned_abs m) (l / x.denominator) x.weight (l / x.denominator) s.bound (le_refl (l / x.denominator)) in
    let d = mul-le (unsigned_abs n) (l / y.denominator) y.weight (l / y.denominator) t.bound (le_refl (l / y.denominator)) in
    let e = a s.bound in
    let f = b t.bound in
    let g' = rw (e, f) at g in
    subst (λ (z : ℤ). IsTop (reduced (sum_of p q)) z (sum_sizes x y)) (sym (g' (omega (arith, c, d, w)))) (sum_top p q m n x y h i s t)
sum_top_of (Some p) None m n m' n' k x y h i s t small a b g = tt
sum_top_of None (Some q) m n m' n' k x y h i s t small a b g = tt
sum_top_of None None m n m' n' k x y h i s t small a b g = tt

pub product_top_of : (u v : Option Fraction) (m n m' n' k : ℤ) (x y : Sizes) → 0 < x.denominator → 0 < y.denominator → IsTopOf u m x → IsTopOf v n y → is_past (product_sizes x y) ≡ false → (unsigned_abs m ≤ x.weight → (m' ≡ m) × InRange m) → (unsigned_abs n ≤ y.weight → (n' ≡ n) × InRange n) →
    (unsigned_abs m' * unsigned_abs n' ≤ 2 ^ 126 → InRange m' → InRange n' → k ≡ m' *ℤ n') →
    IsTopOf (product_fraction u v) k (product_sizes x y)
product_top_of (Some p) (Some q) m n m' n' k x y h i s t small a b g =
    let w = small_weight (product_sizes x y) small in
    let c = mul-le (unsigned_abs m) (unsigned_abs n) x.weight y.weight s.bound t.bound in
    let e = a s.bound in
    let f = b t.bound in
    let g' = rw (e.0, f.0) at g in
    subst (λ (z : ℤ). IsTop (reduced (product_of p q)) z (product_sizes x y)) (sym (g' (omega (arith, c, w)) e.1 f.1)) (product_top p q m n x y h i s t)
product_top_of (Some p) None m n m' n' k x y h i s t small a b g = tt
product_top_of None (Some q) m n m' n' k x y h i s t small a b g = tt
product_top_of None None m n m' n' k x y h i s t small a b g = tt

pub negated_top_of : (u : Option Fraction) (m m' k : ℤ) (x : Sizes) → IsTopOf u m x → is_past x ≡ false → (unsigned_abs m ≤ x.weight → m' ≡ m) → (InRange m' → k ≡ neg_ℤ m') → IsTopOf (negated_fraction u) k x
negated_top_of (Some p) m m' k x s small a g =
    let e = a s.bound in
    let g' = rw e at g in
    subst (λ (z : ℤ). IsTop (reduced (negative_of p)) z x) (sym (g' (in_range m x small s.bound))) (negated_top p m x s)
negated_top_of None m m' k x s small a g = tt

pub power_top_of : (u : Option Fraction) (m m' k : ℤ) (x : Sizes) (n c : ℕ) → IsTopOf u m x → is_past x ≡ false → is_past (power_sizes x c) ≡ false → n ≡ c → (unsigned_abs m ≤ x.weight → m' ≡ m) → (unsigned_abs m' ^ n ≤ 2 ^ 126 → InRange m' → k ≡ int_pow m' n) → IsTopOf (power_fraction u c) k (power_sizes x c)
power_top_of (Some p) m m' k x n c s here there same a g =
    let w = small_weight (power_sizes x c) there in
    let d = pow-le-pow_left s.bound c in
    let e = a s.bound in
    let g' = rw (e, same) at g in
    subst (λ (z : ℤ). IsTop (reduced (power_of p c)) z (power_sizes x c)) (sym (g' (omega (arith, d, w)) (in_range m x here s.bound))) (power_top p m x c s)
power_top_of None m m' k x n c s here there same a g = tt

-- nodes over two

-- the sizes of a node whose visited parts are in range, or not
within_sizes : (r : Option Sizes) (z : Sizes) (x : Numbers) (others : Bool) → SomeIff r (is_past z ≡ false) z → x.sizes ≡ z → x.is_out ≡ (is_past z || others) → others ≡ false → AreSizes r x
within_sizes (Some s) z x others h e f g = (f ∙ or_neither (is_past z) others h.0 g, subst (λ d. is_past d ≡ false) (sym h.1) h.0, h.1 ∙ sym e)
within_sizes None z x others h e f g = f ∙ or_left (is_past z) others (not_false (is_past z) h)

module _ (a b : Found) (x y : Numbers) (h : IsFound a x) (i : IsFound b y) where
  same_pair : (p q u v : Sizes) → both_of (Some u) (Some v) ≡ Some (p, q) → (u ≡ p) × (v ≡ q)
  same_pair p q u v e =
      let left : Option (Sizes × Sizes) → Sizes = λ o. option_map_or {T = Sizes × Sizes} (λ w. w.0) o u in
      let right : Option (Sizes × Sizes) → Sizes = λ o. option_map_or {T = Sizes × Sizes} (λ w. w.1) o u in
      (ap left e, ap right e)

  pub both_are : (p q : Sizes) → both_of a.sizes b.sizes ≡ Some (p, q) → (x.is_out ≡ false) × (y.is_out ≡ false) × (p ≡ x.sizes) × (q ≡ y.sizes)
  both_are p q e = go a.sizes b.sizes h.sizes i.sizes e
    where
      go : (u v : Option Sizes) → AreSizes u x → AreSizes v y → both_of u v ≡ Some (p, q) → (x.is_out ≡ false) × (y.is_out ≡ false) × (p ≡ x.sizes) × (q ≡ y.sizes)
      go (Some u) (Some v) t w f = let s = same_pair p q u v f in (t.0, w.0, sym s.0 ∙ t.2, sym s.1 ∙ w.2)
      go (Some u) None t w f = absurd (cc)
      go None v t w f = absurd (cc)

  pub one_is_out : both_of a.sizes b.sizes ≡ None → (x.is_out || y.is_out) ≡ true
  one_is_out e = go a.sizes b.sizes h.sizes i.sizes e
    where
      go : (u v : Option Sizes) → AreSizes u x → AreSizes v y → both_of u v ≡ None → (x.is_out || y.is_out) ≡ true
      go (Some u) (Some v) t w f = absurd (cc)
      go (Some u) None t w f = or_right x.is_out y.is_out w
      go None v t w f = or_left x.is_out y.is_out t

  pub two_found : (p q z : Sizes) (r : Option Sizes) (m n : Option ℕ) (t : Bool) (w : Option Fraction) (k : ℤ) → both_of a.sizes b.sizes ≡ Some (p, q) → SomeIff r (is_past z ≡ false) z → IsSound (over_two n w z x y) → m ≡ capped_numeral n → t ≡ is_some w
      → (is_past z ≡ false → IsTopOf w k z) → IsFound (record { numeral = m; closed = t; top = k; sizes = r }) (over_two n w z x y)
  two_found p q z r m n t w k e s sound numeral closed top =
      let in_both = both_are p q e in
      record {
        sound = sound;
        numeral = numeral;
        closed = closed;
        sizes = within_sizes r z (over_two n w z x y) (x.is_out || y.is_out) s refl refl (or_neither x.is_out y.is_out in_both.0 in_both.1);
        top = λ o. top (neither_left (is_past z) (x.is_out || y.is_out) o);
      }

  pub two_lost : (z : Sizes) (m n : Option ℕ) (t : Bool) (w : Option Fraction) → both_of a.sizes b.sizes ≡ None → IsSound (over_two n w z x y) → m ≡ capped_numeral n → t ≡ is_some w → IsFound (record { numeral = m; closed = t; top = pos 0; sizes = None }) (over_two n w z x y)
  two_lost z m n t w e sound numeral closed =
      let o = one_is_out e in
      record {
        sound = sound;
        numeral = numeral;
        closed = closed;
        sizes = or_right (is_past z) (x.is_out || y.is_out) o;
        top = λ f. not_both (x.is_out || y.is_out) o (neither_right (is_past z) (x.is_out || y.is_out) f);
      }

  pub sum_sound : (n : Option ℕ) (w : Option Fraction) → IsCovered n (sum_sizes x.sizes y.sizes).weight → IsSound (over_two n w (sum_sizes x.sizes y.sizes) x y)
  sum_sound n w c = record { positive = multiple_positive x.sizes.denominator y.sizes.denominator h.sound.positive i.sound.positive; covered = c }

  pub sum_covered : IsCovered (sum_numeral x.numeral y.numeral) (sum_sizes x.sizes y.sizes).weight
  sum_covered =
      covered-sum x.numeral y.numeral x.sizes.weight y.sizes.weight (least_multiple x.sizes.denominator y.sizes.denominator / x.sizes.denominator) (least_multiple x.sizes.denominator y.sizes.denominator / y.sizes.denominator)
      (scale_positive x.sizes.denominator y.sizes.denominator h.sound.positive i.sound.positive)
      (other_positive x.sizes.denominator y.sizes.denominator h.sound.positive i.sound.positive)
      h.sound.covered i.sound.covered

  pub product_sound : (w : Option Fraction) → IsSound (over_two (product_numeral x.numeral y.numeral) w (product_sizes x.sizes y.sizes) x y)
  product_sound w = record { positive = positive_product x.sizes.denominator y.sizes.denominator h.sound.positive i.sound.positive; covered = covered-product x.numeral y.numeral x.sizes.weight y.sizes.weight h.sound.covered i.sound.covered }

  pub power_sound : (c : ℕ) (w : Option Fraction) → IsSound (over_two (power_numeral x.numeral c) w (power_sizes x.sizes c) x y)
  power_sound c w = record { positive = positive_power x.sizes.denominator c h.sound.positive; covered = covered-power x.numeral c x.sizes.weight h.sound.covered }

  -- both are closed
  pub both_closed : (t : Bool) (v : Option Fraction) → t ≡ (a.closed && b.closed) → is_some v ≡ is_some y.fraction → t ≡ is_some (sum_fraction x.fraction v)
  both_closed t v e f = e ∙ ap₂ (λ c d. c && d) h.closed (i.closed ∙ sym f) ∙ sym (closed-sum x.fraction v)

  pub both_closed-product : (t : Bool) → t ≡ (a.closed && b.closed) → t ≡ is_some (product_fraction x.fraction y.fraction)
  both_closed-product t e = e ∙ ap₂ (λ c d. c && d) h.closed i.closed ∙ sym (closed-product x.fraction y.fraction)

  pub sum_number : (m : Option ℕ) → m ≡ capped_numeral (sum_numeral a.numeral b.numeral) → m ≡ capped_numeral (sum_numeral x.numeral y.numeral)
  sum_number m e = e ∙ ap₂ (λ u v. capped_numeral (sum_numeral u v)) h.numeral i.numeral ∙ capped-sum_numeral x.numeral y.numeral

  pub product_number : (m : Option ℕ) → m ≡ capped_numeral (product_numeral a.numeral b.numeral) → m ≡ capped_numeral (product_numeral x.numeral y.numeral)
  product_number m e = e ∙ ap₂ (λ u v. capped_numeral (product_numeral u v)) h.numeral i.numeral ∙ capped-product_numeral x.numeral y.numeral

  pub power_number : (m : Option ℕ) (n c : ℕ) → m ≡ capped_numeral (power_numeral a.numeral n) → n ≡ capped c → m ≡ capped_numeral (power_numeral x.numeral c)
  power_number m n c e f = e ∙ ap₂ (λ u v. capped_numeral (power_numeral u v)) h.numeral f ∙ capped-power_numeral x.numeral c

  -- the sizes of a sum, from both scales
  pub sum_within : (p q : Sizes) (s t : ℕ) (r : Option Sizes) → both_of a.sizes b.sizes ≡ Some (p, q) → (0 < p.denominator → 0 < q.denominator → s ≡ least_multiple p.denominator q.denominator / p.denominator) → (0 < p.denominator → 0 < q.denominator → t ≡ least_multiple p.denominator q.denominator / q.denominator)
      → SomeIff r (is_past (scaled_sizes p s q t) ≡ false) (scaled_sizes p s q t) → (SomeIff r (is_past (sum_sizes x.sizes y.sizes) ≡ false) (sum_sizes x.sizes y.sizes)) × (s ≡ least_multiple x.sizes.denominator y.sizes.denominator / x.sizes.denominator) × (t ≡ least_multiple x.sizes.denominator y.sizes.denominator / y.sizes.denominator)
  sum_within p q s t r e f g w =
      let in_both = both_are p q e in
      let P : Sizes → Sizes → Type 0 = λ u v. 0 < u.denominator → 0 < v.denominator → s ≡ least_multiple u.denominator v.denominator / u.denominator in
      let Q : Sizes → Sizes → Type 0 = λ u v. 0 < u.denominator → 0 < v.denominator → t ≡ least_multiple u.denominator v.denominator / v.denominator in
      let first : s ≡ least_multiple x.sizes.denominator y.sizes.denominator / x.sizes.denominator = subst (λ u. P u y.sizes) in_both.2 (subst (λ v. P p v) in_both.3 f) h.sound.positive i.sound.positive in
      let second : t ≡ least_multiple x.sizes.denominator y.sizes.denominator / y.sizes.denominator = subst (λ u. Q u y.sizes) in_both.2 (subst (λ v. Q p v) in_both.3 g) h.sound.positive i.sound.positive in
      let D : Sizes → Type 0 = λ d. SomeIff r (is_past d ≡ false) d in
      let same : scaled_sizes p s q t ≡ sum_sizes x.sizes y.sizes =
      ap₂ (λ u v. scaled_sizes u s v t) in_both.2 in_both.3
      ∙ ap₂ (λ u v. scaled_sizes x.sizes u y.sizes v) first second
      ∙ ap (λ d. record { denominator = d; weight = (sum_sizes x.sizes y.sizes).weight; degree = (sum_sizes x.sizes y.sizes).degree }) (left_multiple x.sizes.denominator y.sizes.denominator h.sound.positive i.sound.positive) in
      (subst D same w, first, second)

  pub added_found : (p q : Sizes) (s t : ℕ) (r : Option Sizes) (m n : Option ℕ) (closed : Bool) (v : Option Fraction) (top top' k : ℤ) → both_of a.sizes b.sizes ≡ Some (p, q)
      → (0 < p.denominator → 0 < q.denominator → s ≡ least_multiple p.denominator q.denominator / p.denominator) → (0 < p.denominator → 0 < q.denominator → t ≡ least_multiple p.denominator q.denominator / q.denominator)
      → SomeIff r (is_past (scaled_sizes p s q t) ≡ false) (scaled_sizes p s q t) → m ≡ capped_numeral n → IsCovered n (sum_sizes x.sizes y.sizes).weight → closed ≡ (a.closed && b.closed) → is_some v ≡ is_some y.fraction
      → (y.is_out ≡ false → IsTopOf v top y.sizes) → top' ≡ top → (unsigned_abs (to_z w128 (of_z w128 a.top)) * s + unsigned_abs top' * t ≤ 2 ^ 126 → 0 < s → 0 < t → k ≡ to_z w128 (of_z w128 a.top) *ℤ pos s +ℤ top' *ℤ pos t)
      → IsFound (record { numeral = m; closed = closed; top = k; sizes = r }) (over_two n (sum_fraction x.fraction v) (sum_sizes x.sizes y.sizes) x y)
  added_found p q s t r m n closed v top top' k e left right sizes number covered both some value same exact =
      let w = sum_within p q s t r e left right sizes in
      let out = both_are p q e in
      let exact' = rw (w.1, w.2) at exact in
      two_found p q (sum_sizes x.sizes y.sizes) r m n closed (sum_fraction x.fraction v) k e w.0 (sum_sound n (sum_fraction x.fraction v) covered) number (both_closed closed v both some)
      (λ within.
      sum_top_of x.fraction v a.top top (to_z w128 (of_z w128 a.top)) top' k x.sizes y.sizes h.sound.positive i.sound.positive (h.top out.0) (value out.1) within
      (cast_small a.top x.sizes (small a x h out.0)) (λ _. same)
      (λ bound. exact' bound (scale_positive x.sizes.denominator y.sizes.denominator h.sound.positive i.sound.positive) (other_positive x.sizes.denominator y.sizes.denominator h.sound.positive i.sound.positive)))

  pub added_lost : (m n : Option ℕ) (closed : Bool) (v : Option Fraction) → both_of a.sizes b.sizes ≡ None → m ≡ capped_numeral n → IsCovered n (sum_sizes x.sizes y.sizes).weight → closed ≡ (a.closed && b.closed) → is_some v ≡ is_some y.fraction
      → IsFound (record { numeral = m; closed = closed; top = pos 0; sizes = None }) (over_two n (sum_fraction x.fraction v) (sum_sizes x.sizes y.sizes) x y)
  added_lost m n closed v e number covered both some =
      two_lost (sum_sizes x.sizes y.sizes) m n closed (sum_fraction x.fraction v) e (sum_sound n (sum_fraction x.fraction v) covered) number (both_closed closed v both some)

  pub product_found : (p q : Sizes) (r : Option Sizes) (m : Option ℕ) (closed : Bool) (k : ℤ) → both_of a.sizes b.sizes ≡ Some (p, q) → SomeIff r (is_past (product_sizes p q) ≡ false) (product_sizes p q) → m ≡ capped_numeral (product_numeral a.numeral b.numeral) → closed ≡ (a.closed && b.closed)
      → (unsigned_abs (to_z w128 (of_z w128 a.top)) * unsigned_abs (to_z w128 (of_z w128 b.top)) ≤ 2 ^ 126 → InRange (to_z w128 (of_z w128 a.top)) → InRange (to_z w128 (of_z w128 b.top)) → k ≡ to_z w128 (of_z w128 a.top) *ℤ to_z w128 (of_z w128 b.top))
      → IsFound (record { numeral = m; closed = closed; top = k; sizes = r }) (over_two (product_numeral x.numeral y.numeral) (product_fraction x.fraction y.fraction) (product_sizes x.sizes y.sizes) x y)
  product_found p q r m closed k e sizes number both exact =
      let out = both_are p q e in
      let D : Sizes → Type 0 = λ d. SomeIff r (is_past d ≡ false) d in
      let same : product_sizes p q ≡ product_sizes x.sizes y.sizes = ap₂ product_sizes out.2 out.3 in
      two_found p q (product_sizes x.sizes y.sizes) r m (product_numeral x.numeral y.numeral) closed (product_fraction x.fraction y.fraction) k e (subst D same sizes) (product_sound (product_fraction x.fraction y.fraction)) (product_number m number) (both_closed-product closed both)
      (λ within.
      product_top_of x.fraction y.fraction a.top b.top (to_z w128 (of_z w128 a.top)) (to_z w128 (of_z w128 b.top)) k x.sizes y.sizes h.sound.positive i.sound.positive (h.top out.0) (i.top out.1) within
      (λ l. (cast_small a.top x.sizes (small a x h out.0) l, in_range a.top x.sizes (small a x h out.0) l))
      (λ l. (cast_small b.top y.sizes (small b y i out.1) l, in_range b.top y.sizes (small b y i out.1) l))
      exact)

  pub product_lost : (m : Option ℕ) (closed : Bool) → both_of a.sizes b.sizes ≡ None → m ≡ capped_numeral (product_numeral a.numeral b.numeral) → closed ≡ (a.closed && b.closed)
      → IsFound (record { numeral = m; closed = closed; top = pos 0; sizes = None }) (over_two (product_numeral x.numeral y.numeral) (product_fraction x.fraction y.fraction) (product_sizes x.sizes y.sizes) x y)
  product_lost m closed e number both =
      two_lost (product_sizes x.sizes y.sizes) m (product_numeral x.numeral y.numeral) closed (product_fraction x.fraction y.fraction) e (product_sound (product_fraction x.fraction y.fraction)) (product_number m number) (both_closed-product closed both)

  -- an exponent in range isn't capped
  pub exponent : (n c : ℕ) → y.is_out ≡ false → y.numeral ≡ Some c → n ≡ capped c → n ≡ c
  exponent n c o e f =
      let P : Option ℕ → Type 0 = λ m. IsCovered m y.sizes.weight in
      let l : c ≤ y.sizes.weight = subst P e i.sound.covered in
      let w = small_weight y.sizes (small b y i o) in
      omega (arith, f, l, w)

  pub power_found : (p q : Sizes) (r : Option Sizes) (m : Option ℕ) (n c : ℕ) (k : ℤ) → both_of a.sizes b.sizes ≡ Some (p, q) → y.numeral ≡ Some c → n ≡ capped c → ((d : ℕ) → n ≡ capped d → SomeIff r (is_past (power_sizes p d) ≡ false) (power_sizes p d)) → m ≡ capped_numeral (power_numeral a.numeral n)
      → (unsigned_abs (to_z w128 (of_z w128 a.top)) ^ n ≤ 2 ^ 126 → InRange (to_z w128 (of_z w128 a.top)) → k ≡ int_pow (to_z w128 (of_z w128 a.top)) n)
      → IsFound (record { numeral = m; closed = a.closed; top = k; sizes = r }) (over_two (power_numeral x.numeral c) (power_fraction x.fraction c) (power_sizes x.sizes c) x y)
  power_found p q r m n c k e is_c f sizes number exact =
      let out = both_are p q e in
      let D : Sizes → Type 0 = λ d. SomeIff r (is_past d ≡ false) d in
      let same : power_sizes p c ≡ power_sizes x.sizes c = ap (λ d. power_sizes d c) out.2 in
      two_found p q (power_sizes x.sizes c) r m (power_numeral x.numeral c) a.closed (power_fraction x.fraction c) k e (subst D same (sizes c f)) (power_sound c (power_fraction x.fraction c)) (power_number m n c number f) (h.closed ∙ sym (closed-power x.fraction c))
      (λ within. power_top_of x.fraction a.top (to_z w128 (of_z w128 a.top)) k x.sizes n c (h.top out.0) (small a x h out.0) within (exponent n c out.1 is_c f) (cast_small a.top x.sizes (small a x h out.0)) exact)

  pub power_lost : (m : Option ℕ) (n c : ℕ) → both_of a.sizes b.sizes ≡ None → n ≡ capped c → m ≡ capped_numeral (power_numeral a.numeral n)
      → IsFound (record { numeral = m; closed = a.closed; top = pos 0; sizes = None }) (over_two (power_numeral x.numeral c) (power_fraction x.fraction c) (power_sizes x.sizes c) x y)
  power_lost m n c e f number =
      two_lost (power_sizes x.sizes c) m (power_numeral x.numeral c) a.closed (power_fraction x.fraction c) e (power_sound c (power_fraction x.fraction c)) (power_number m n c number f) (h.closed ∙ sym (closed-power x.fraction c))

  -- by a closed tree
  pub over_closed_found : (p z : Sizes) (r : Option Sizes) (q : Fraction) (top top' k : ℤ) → a.sizes ≡ Some p → y.fraction ≡ Some q → HasInverse (Some (z, top)) y q → top' ≡ top → SomeIff r (is_past (product_sizes p z) ≡ false) (product_sizes p z)
      → (unsigned_abs (to_z w128 (of_z w128 a.top)) * unsigned_abs top' ≤ 2 ^ 126 → InRange (to_z w128 (of_z w128 a.top)) → InRange top' → k ≡ to_z w128 (of_z w128 a.top) *ℤ top')
      → IsFound (record { numeral = None; closed = a.closed; top = k; sizes = r }) (over_two None (product_fraction x.fraction (Some (reduced (inverse_of q)))) (product_sizes x.sizes (inverse_sizes q)) x y)
  over_closed_found p z r q top top' k e f inverse same sizes exact =
      let t : AreSizes (Some p) x = rw e at h.sizes in
      let D : Sizes → Type 0 = λ d. SomeIff r (is_past d ≡ false) d in
      let both : product_sizes p z ≡ product_sizes x.sizes (inverse_sizes q) = ap₂ product_sizes t.2 inverse.1 in
      let node = over_two None (product_fraction x.fraction (Some (reduced (inverse_of q)))) (product_sizes x.sizes (inverse_sizes q)) x y in
      let positive : 0 < (inverse_sizes q).denominator = inverse_positive q.numerator q.denominator in
      record {
        sound = record { positive = positive_product x.sizes.denominator (inverse_sizes q).denominator h.sound.positive positive; covered = tt };
        numeral = refl;
        closed = h.closed ∙ sym (closed-by x.fraction (reduced (inverse_of q)));
        sizes = within_sizes r (product_sizes x.sizes (inverse_sizes q)) node (x.is_out || y.is_out) (subst D both sizes) refl refl (or_neither x.is_out y.is_out t.0 inverse.0);
        top = λ o.
            product_top_of x.fraction (Some (reduced (inverse_of q))) a.top (inverse_of q).numerator (to_z w128 (of_z w128 a.top)) top' k x.sizes (inverse_sizes q) h.sound.positive positive (h.top t.0) (inverse_top q)
            (neither_left (is_past (product_sizes x.sizes (inverse_sizes q))) (x.is_out || y.is_out) o)
            (λ l. (cast_small a.top x.sizes (small a x h t.0) l, in_range a.top x.sizes (small a x h t.0) l))
            (λ l. (same ∙ inverse.2, subst InRange inverse.2 inverse.3))
            exact;
      }

  pub over_closed_lost : (q : Fraction) → (x.is_out || y.is_out) ≡ true → IsFound (record { numeral = None; closed = a.closed; top = pos 0; sizes = None }) (over_two None (product_fraction x.fraction (Some (reduced (inverse_of q)))) (product_sizes x.sizes (inverse_sizes q)) x y)
  over_closed_lost q o = record {
    sound = record { positive = positive_product x.sizes.denominator (inverse_sizes q).denominator h.sound.positive (inverse_positive q.numerator q.denominator); covered = tt };
    numeral = refl;
    closed = h.closed ∙ sym (closed-by x.fraction (reduced (inverse_of q)));
    sizes = or_right (is_past (product_sizes x.sizes (inverse_sizes q))) (x.is_out || y.is_out) o;
    top = λ f. not_both (x.is_out || y.is_out) o (neither_right (is_past (product_sizes x.sizes (inverse_sizes q))) (x.is_out || y.is_out) f);
  }

-- nodes over one

module _ (a : Found) (x : Numbers) (h : IsFound a x) where
  pub negation_found : (p : Sizes) (r : Option Sizes) (k : ℤ) → a.sizes ≡ Some p → SomeIff r (is_past p ≡ false) p → (InRange (to_z w128 (of_z w128 a.top)) → k ≡ neg_ℤ (to_z w128 (of_z w128 a.top))) → IsFound (record { numeral = None; closed = a.closed; top = k; sizes = r }) (over_one (negated_fraction x.fraction) x.sizes x)
  negation_found p r k e sizes exact =
      let t : AreSizes (Some p) x = rw e at h.sizes in
      let D : Sizes → Type 0 = λ d. SomeIff r (is_past d ≡ false) d in
      record {
        sound = record { positive = h.sound.positive; covered = tt };
        numeral = refl;
        closed = h.closed ∙ sym (closed-negated x.fraction);
        sizes = within_sizes r x.sizes (over_one (negated_fraction x.fraction) x.sizes x) x.is_out (subst D t.2 sizes) refl refl t.0;
        top = λ o. negated_top_of x.fraction a.top (to_z w128 (of_z w128 a.top)) k x.sizes (h.top t.0) (small a x h t.0) (cast_small a.top x.sizes (small a x h t.0)) exact;
      }

  -- a fraction that is found again is the same
  pub inverse_is : (z : Sizes) (p f : Fraction) (v : Sizes × ℤ) → a.sizes ≡ Some z → x.fraction ≡ Some p → Reduces (record { numerator = to_z w128 (of_z w128 a.top); denominator = z.denominator }) f → v.0 ≡ inverse_sizes f → v.1 ≡ (inverse_of f).numerator → InRange v.1 → HasInverse (Some v) x p
  inverse_is z p f v e g reduces sizes top range =
      let t : AreSizes (Some z) x = rw e at h.sizes in
      let d : IsTop p a.top x.sizes = subst (λ u. IsTopOf u a.top x.sizes) g (h.top t.0) in
      let c = cast_small a.top x.sizes (small a x h t.0) d.bound in
      let P : ℤ → Sizes → Type 0 = λ m u. Reduces (record { numerator = m; denominator = u.denominator }) f in
      let again : Reduces (record { numerator = a.top; denominator = x.sizes.denominator }) f = subst (λ u. P a.top u) t.2 (subst (λ m. P m z) c reduces) in
      let same : f ≡ p = Reduces-unique (record { numerator = a.top; denominator = x.sizes.denominator }) f p h.sound.positive again d.reduces in
      (t.0, sizes ∙ ap inverse_sizes same, top ∙ ap (λ q. (inverse_of q).numerator) same, range)

  pub inverse_found : (p : Fraction) (z : Sizes) (top : ℤ) (r : Option Sizes) → HasInverse (Some (z, top)) x p → SomeIff r (is_past z ≡ false) z → IsFound (record { numeral = None; closed = true; top = top; sizes = r }) (over_one (Some (reduced (inverse_of p))) (inverse_sizes p) x)
  inverse_found p z top r inverse sizes =
      let D : Sizes → Type 0 = λ d. SomeIff r (is_past d ≡ false) d in
      let node = over_one (Some (reduced (inverse_of p))) (inverse_sizes p) x in
      record {
        sound = record { positive = inverse_positive p.numerator p.denominator; covered = tt };
        numeral = refl;
        closed = refl;
        sizes = within_sizes r (inverse_sizes p) node x.is_out (subst D inverse.1 sizes) refl refl inverse.0;
        top = λ o. subst (λ (n : ℤ). IsTop (reduced (inverse_of p)) n (inverse_sizes p)) (sym inverse.2) (inverse_top p);
      }

  -- it is closed, or it isn't
  pub by_fraction : (r : Found) → a.closed ≡ true → ((p : Fraction) → x.fraction ≡ Some p → IsFound r (over_one (Some (reduced (inverse_of p))) (inverse_sizes p) x)) → IsFound r (inverse x)
  by_fraction r e g = go x.fraction refl
    where
      go : (u : Option Fraction) → x.fraction ≡ u → IsFound r (inverse_by u x)
      go (Some p) s = g p s
      go None s = absurd (let w : a.closed ≡ is_some x.fraction = h.closed in cc)

pub cast_top : (u : Option Fraction) (m : ℤ) (z : Sizes) → is_past z ≡ false → IsTopOf u m z → IsTopOf u (to_z w128 (of_z w128 m)) z
cast_top (Some p) m z e t = subst (λ (n : ℤ). IsTop p n z) (sym (cast_small m z e t.bound)) t
cast_top None m z e t = tt
