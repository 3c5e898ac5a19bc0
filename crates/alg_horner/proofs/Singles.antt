-- Powers of constants, of forms over later atoms and of multiples.
use Rattle.std.proofs.Common.{◌≡◌, ℕ, suc, zero, Bool, true, false, cond, ◌+◌, ◌-◌, ◌*◌, ◌<◌, ◌≤◌, ◌^◌, List, ◌∷◌, take, drop, refl, sym, ap, subst, ◌∙◌, arith}
use Rattle.std.specs.Prelude.{nat_le, max}
use Rattle.std.proofs.Math.Nat.{pow-le-pow_left, pow-zero, pow-suc, mul-le-mul_left}
use Rattle.alg_sums.specs.Coefficients.{Coefficients}
use Rattle.alg_sums.specs.Size.{is_whole, size_of, IsScaled}
use Rattle.alg_sums.proofs.RingLaws.{nil_times}
use Rattle.alg_sums.proofs.Sizes.{size_nil, is_scaled, scaled_size, times_scaled, number_scaled}
use Rattle.alg_horner.specs.Form.{Form, constant, skip, sum, first, others, is_one, coefficient, degree, shifted, only, exponent, size, IsWhole}
use Rattle.alg_horner.specs.Facts.{IsNormalOf}
use Rattle.alg_horner.specs.Adding.{at_power}
use Rattle.alg_horner.specs.Powers.{powered, power_of, CanPower, IsPowerOf, HasSmallPower}
use Rattle.alg_horner.proofs.Maps.{in_skip, powers, zero_rest}
use Rattle.alg_horner.proofs.Convolving.{convolved-same, convolved-power, power-convolved, convolved-constant}
use Rattle.alg_horner.proofs.Multiplying.{convolved-skip, whole_by}
use Rattle.alg_horner.proofs.Exponents.{exponent_after}

module _ {C : Type 0} (r : Coefficients C) where
  -- ---- maps
  powered-same : (f g : List ℕ → C) → ((m : List ℕ) → f m ≡ g m) → (n : ℕ) (m : List ℕ) → powered r f n m ≡ powered r g n m
  powered-same f g h zero m = refl
  powered-same f g h (suc n) m = convolved-same r (powered r f n) (powered r g n) f g m (powered-same f g h n) h

  times_cond : (b : Bool) (x c : C) → r.times (cond b x r.nil) c ≡ cond b (r.times x c) r.nil
  times_cond true x c = refl
  times_cond false x c = nil_times r c

  powered-constant : (c : C) (n : ℕ) (m : List ℕ) → powered r (coefficient r (constant c)) n m ≡ coefficient r (constant (power_of r c n)) m
  powered-constant c zero m = refl
  powered-constant c (suc n) m =
      convolved-same r (powered r (coefficient r (constant c)) n) (coefficient r (constant (power_of r c n))) (coefficient r (constant c)) (coefficient r (constant c)) m (powered-constant c n) (λ v. refl)
      ∙ convolved-constant r (coefficient r (constant (power_of r c n))) c m
      ∙ times_cond (is_one m) (power_of r c n) c

  abbrev under : ℕ → (List ℕ → C) → List ℕ → C
  under k f m = cond (is_one (take k m)) (f (drop k m)) r.nil

  powered-under : (k : ℕ) (f : List ℕ → C) (n : ℕ) (m : List ℕ) → powered r (under k f) n m ≡ under k (powered r f n) m
  powered-under k f zero m = in_skip r k r.one m
  powered-under k f (suc n) m =
      convolved-same r (powered r (under k f) n) (under k (powered r f n)) (under k f) (under k f) m (powered-under k f n) (λ v. refl)
      ∙ convolved-skip r k (powered r f n) f m

  two_powers : (g : List ℕ → C) (i j : ℕ) (m : List ℕ) → at_power r i (at_power r j g) m ≡ at_power r (j + i) g m
  two_powers g i j m = sym (powers r (λ n. g (n ∷ others m)) i j (first m))

  powered-power : (f : List ℕ → C) (j n e : ℕ) (m : List ℕ) → 0 < j → e ≡ suc n * j → powered r (at_power r j f) (suc n) m ≡ at_power r e (powered r f (suc n)) m
  powered-power f j zero e m h i =
      convolved-power r (coefficient r (constant r.one)) f j m h
      ∙ ap (λ x. at_power r x (powered r f 1) m) (let q : j ≡ e = omega (arith, i) in q)
  powered-power f j (suc n) e m h i =
      let d = suc n * j in
      let o : 0 < d = omega (arith, h) in
      let q : j + d ≡ e = omega (arith, i) in
      convolved-same r (powered r (at_power r j f) (suc n)) (at_power r d (powered r f (suc n))) (at_power r j f) (at_power r j f) m (λ u. powered-power f j n d u h refl) (λ v. refl)
      ∙ power-convolved r (powered r f (suc n)) (at_power r j f) d m o
      ∙ ap (λ x. cond (nat_le d (first m)) x r.nil) (convolved-power r (powered r f (suc n)) f j ((first m - d) ∷ others m) h)
      ∙ two_powers (powered r f (suc (suc n))) d j m
      ∙ ap (λ x. at_power r x (powered r f (suc (suc n))) m) q

  -- ---- constants
  pub power_scaled : (d : ℕ) (c : C) (s n : ℕ) → IsScaled r d c s → IsScaled r (d ^ n) (power_of r c n) (s ^ n)
  power_scaled d c s zero h = rw (pow-zero d, pow-zero s) (subst (λ (x : C). IsScaled r 1 x 1) r.number_one (number_scaled r 1 1))
  power_scaled d c s (suc n) h = rw (pow-suc d n, pow-suc s n) (times_scaled r (d ^ n) d (power_of r c n) c (s ^ n) s (power_scaled d c s n h) h)

  pub power_constant : (c : C) (n : ℕ) → IsPowerOf r (constant c) n (constant (power_of r c n))
  power_constant c n = record {
    map = λ m. sym (powered-constant c n m);
    atoms = omega arith;
    degree = λ v. omega arith;
    size = λ d w l.
        let e = scaled_size r (d ^ n) (power_of r c n) (size_of r d c ^ n) (power_scaled d c (size_of r d c) n (is_scaled r d c (whole_by r (is_whole r d c) w))) in
        omega (arith, e);
  }

  -- ---- later atoms
  pub power_skip : (k : ℕ) (f : Form C) (n : ℕ) (u h : Form C) → IsPowerOf r f n u → IsNormalOf r (skip k u) h → IsPowerOf r (skip k f) n h
  power_skip k f n u h p o = record {
    map = λ m. o.map m ∙ ap (λ x. cond (is_one (take k m)) x r.nil) (p.map (drop k m)) ∙ sym (powered-under k (coefficient r f) n m);
    atoms = omega (arith, o.atoms, p.atoms);
    degree = λ v. omega (arith, o.degree v, p.degree (shifted k v));
    size = λ d w l. let s = p.size d w l in omega (arith, s, o.weight (size_of r (d ^ n)) (size_nil r (d ^ n)));
  }

  pub skip_can : (k : ℕ) (f : Form C) (n : ℕ) → CanPower r (skip k f) n → CanPower r f n
  skip_can k f n c = record { denominator = c.denominator; positive = c.positive; bounded = c.bounded; whole = c.whole; small = c.small }

  pub skip_small : (k : ℕ) (f : Form C) (n : ℕ) → HasSmallPower (skip k f) n → HasSmallPower f n
  skip_small k f n s = record {
    exponents = λ m.
        let e = ap (λ x. n * x) (exponent_after k m f) in
        omega (arith, s.exponents (k + m), e);
  }

  -- ---- multiples of the first atom
  multiple_map : (p : Form C) (i : ℕ) (n : ℕ) (m : List ℕ) → 0 < i → powered r (coefficient r (sum p i (constant r.nil))) (suc n) m ≡ at_power r (suc n * i) (powered r (coefficient r p) (suc n)) m
  multiple_map p i n m h =
      powered-same (coefficient r (sum p i (constant r.nil))) (at_power r i (coefficient r p)) (zero_rest r p i) (suc n) m
      ∙ powered-power (coefficient r p) i n (suc n * i) m h refl

  same_power : (x y n : ℕ) → x ≡ y → x ^ n ≡ y ^ n
  same_power x y n e = ap (λ z. z ^ n) e

  factor_out : (n a i w : ℕ) → n * a + (n * i) * w ≡ n * (a + i * w)
  factor_out n a i w = omega arith

  pub power_multiple : (p : Form C) (i n : ℕ) (u h : Form C) → 0 < i → IsPowerOf r p (suc n) u → IsNormalOf r (sum u (suc n * i) (constant r.nil)) h → IsPowerOf r (sum p i (constant r.nil)) (suc n) h
  power_multiple p i n u h l a o = record {
    map = λ m.
        o.map m ∙ zero_rest r u (suc n * i) m
        ∙ ap (λ x. cond (nat_le (suc n * i) (first m)) x r.nil) (a.map ((first m - suc n * i) ∷ others m))
        ∙ sym (multiple_map p i n m l);
    atoms = omega (arith, o.atoms, a.atoms);
    degree = λ v.
        let x = factor_out (suc n) (degree v p) i (v 0) in
        let y : suc n * (degree v p + i * v 0) ≤ suc n * (max (degree v p + i * v 0) 0) = mul-le-mul_left (suc n) (let z : degree v p + i * v 0 ≤ max (degree v p + i * v 0) 0 = omega arith in z) in
        omega (arith, o.degree v, a.degree v, x, y);
    size = λ d w k.
        let e : size r d (sum p i (constant r.nil)) ≡ size r d p = omega (arith, size_nil r d) in
        let f = same_power (size r d (sum p i (constant r.nil))) (size r d p) (suc n) e in
        let g : IsWhole r d p = omega (arith, w) in
        let s = a.size d g (omega (arith, f, k)) in
        omega (arith, f, s, o.weight (size_of r (d ^ suc n)) (size_nil r (d ^ suc n)), size_nil r (d ^ suc n));
  }

  at_power_of : (p : Form C) (i n : ℕ) (u h : Form C) → 0 < n → 0 < i → IsPowerOf r p n u → IsNormalOf r (sum u (n * i) (constant r.nil)) h → IsPowerOf r (sum p i (constant r.nil)) n h
  at_power_of p i zero u h o l a m = absurd (omega arith)
  at_power_of p i (suc n) u h o l a m = power_multiple p i n u h l a m

  pub power_multiple_of : (p : Form C) (i n : ℕ) (z u h : Form C) → z ≡ constant r.nil → 0 < n → 0 < i → IsPowerOf r p n u → IsNormalOf r (sum u (n * i) z) h → IsPowerOf r (sum p i z) n h
  power_multiple_of p i n z u h e o l a m = rw e (at_power_of p i n u h o l a (rw e at m))

  pub multiple_can : (p : Form C) (i n : ℕ) (z : Form C) → CanPower r (sum p i z) n → CanPower r p n
  multiple_can p i n z c =
      let l : size r c.denominator p ≤ size r c.denominator (sum p i z) = omega arith in
      record {
        denominator = c.denominator;
        positive = c.positive;
        bounded = c.bounded;
        whole = omega (arith, c.whole);
        small = omega (arith, pow-le-pow_left l n, c.small);
      }

  pub multiple_small : (p : Form C) (i n : ℕ) (z : Form C) → HasSmallPower (sum p i z) n → HasSmallPower p n
  multiple_small p i n z s = record {
    exponents = λ k.
        let x : n * exponent k p ≤ n * exponent k (sum p i z) = mul-le-mul_left n (let y : exponent k p ≤ exponent k (sum p i z) = omega arith in y) in
        omega (arith, s.exponents k, x);
  }

  pub multiple_join : (p : Form C) (i n : ℕ) (z u : Form C) → IsPowerOf r p n u → HasSmallPower (sum p i z) n → exponent 0 u + n * i < 2 ^ 32
  multiple_join p i n z u a s =
      let x : n * (exponent 0 p + i) ≤ n * exponent 0 (sum p i z) = mul-le-mul_left n (let y : exponent 0 p + i ≤ exponent 0 (sum p i z) = omega arith in y) in
      let d : n * (exponent 0 p + i) ≡ n * exponent 0 p + n * i = omega arith in
      omega (arith, a.degree (only 0), s.exponents 0, x, d)
