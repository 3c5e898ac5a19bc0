-- How a product gives the next power.
use Rattle.std.proofs.Common.{◌≡◌, ℕ, suc, zero, ◌*◌, ◌<◌, ◌≤◌, ◌^◌, refl, sym, ap, ◌∙◌, subst, arith, lit≤, mul-le-mul_right}
use Rattle.std.specs.Prelude.{true, cond}
use Rattle.std.proofs.Math.Nat.{pow-le-pow_right, pow-zero, pow-suc, mul-le-mul_left}
use Rattle.alg_sums.specs.Coefficients.{Coefficients}
use Rattle.alg_sums.specs.Size.{is_whole, size_of}
use Rattle.alg_sums.proofs.Sizes.{size_one, size_times, small_whole, whole_more}
use Rattle.alg_horner.specs.Form.{Form, constant, skip, sum, coefficient, exponent, only, size, weigh, cost, IsWhole}
use Rattle.alg_horner.specs.Multiplying.{CanConvolve, IsProductOf, HasSmallProduct}
use Rattle.alg_horner.specs.Powers.{powered, CanPower, IsPowerOf, HasSmallPower}
use Rattle.alg_horner.proofs.Weights.{sizes_add}
use Rattle.alg_horner.proofs.Convolving.{convolved-same}
use Rattle.alg_horner.proofs.Multiplying.{whole_by}

power_zero : (i : ℕ) → 0 ^ suc i ≡ 0
power_zero i = pow-suc 0 i ∙ omega arith

-- a smaller power is below the same bound
pub power_below : (x i n b : ℕ) → i ≤ n → 1 ≤ b → x ^ n ≤ b → x ^ i ≤ b
power_below zero zero n b l o h = rw (pow-zero 0) o
power_below zero (suc i) n b l o h = rw (power_zero i) (omega arith)
power_below (suc x) i n b l o h =
    let z : 0 < suc x = omega arith in
    let p : suc x ^ i ≤ suc x ^ n = pow-le-pow_right z l in
    omega (arith, p, h)

pub power_positive : (x n : ℕ) → 0 < x → 0 < x ^ n
power_positive x zero h = rw (pow-zero x) (omega arith)
power_positive (suc x) (suc n) h = let p = power_positive (suc x) n h in let e = pow-suc (suc x) n in rw e (omega (arith, p))
power_positive zero (suc n) h = absurd (omega (arith, h))

module _ {C : Type 0} (r : Coefficients C) where
  whole_one : (d : ℕ) (c : C) → is_whole r d c ≡ true → ◌≡◌ {A = ℕ} (cond (is_whole r d c) 0 1) 0
  whole_one d c e = ap (λ b. cond {A = ℕ} b 0 1) e

  against : (d e : ℕ) (c : C) (g : Form C) → is_whole r d c ≡ true → IsWhole r e g → weigh (λ b. size_of r (d * e) (r.times c b)) g ≡ size_of r d c * size r e g
  against d e c (constant b) h k = size_times r d e c b h (whole_by r (is_whole r e b) k)
  against d e c (skip n g) h k = against d e c g h k
  against d e c (sum p i q) h k =
      let x = against d e c p h (omega (arith, k)) in
      let y = against d e c q h (omega (arith, k)) in
      omega (arith, x, y)

  pub cost-times : (d e : ℕ) (f g : Form C) → IsWhole r d f → IsWhole r e g → cost r (size_of r (d * e)) f g ≡ size r d f * size r e g
  cost-times d e (constant c) g h k = against d e c g (whole_by r (is_whole r d c) h) k
  cost-times d e (skip n f) g h k = cost-times d e f g h k
  cost-times d e (sum p i q) g h k =
      let x = cost-times d e p g (omega (arith, h)) k in
      let y = cost-times d e q g (omega (arith, h)) k in
      omega (arith, x, y)

  pub small-whole : (d : ℕ) (f : Form C) → size r d f ≤ 2 ^ 126 → IsWhole r d f
  small-whole d (constant c) h = whole_one d c (small_whole r d c h)
  small-whole d (skip k f) h = small-whole d f h
  small-whole d (sum p i q) h =
      let x = small-whole d p (omega (arith, h)) in
      let y = small-whole d q (omega (arith, h)) in
      omega (arith, x, y)

  pub whole-more : (d e : ℕ) (f : Form C) → IsWhole r d f → IsWhole r (d * e) f
  whole-more d e (constant c) h = whole_one (d * e) c (whole_more r d e c (whole_by r (is_whole r d c) h))
  whole-more d e (skip k f) h = whole-more d e f h
  whole-more d e (sum p i q) h =
      let x = whole-more d e p (omega (arith, h)) in
      let y = whole-more d e q (omega (arith, h)) in
      omega (arith, x, y)

  pub power_start : (f : Form C) (h : Form C) → h ≡ constant r.one → IsPowerOf r f 0 h
  power_start f h e = rw e (record {
    map = λ m. refl;
    atoms = omega arith;
    degree = λ v. omega arith;
    size = λ d w l. let z = pow-zero d in let y = pow-zero (size r d f) in rw (z, y) (let o = size_one r in omega (arith, o));
  })

  -- the sizes at the next power
  step_cost : (f a : Form C) (i d : ℕ) → IsPowerOf r f i a → IsWhole r d f → size r d f ^ suc i ≤ 2 ^ 126 → cost r (size_of r (d ^ suc i)) a f ≤ size r d f ^ suc i
  step_cost f a i d p w l =
      let b : size r d f ^ i ≤ 2 ^ 126 = power_below (size r d f) i (suc i) (2 ^ 126) (omega arith) (lit≤ tt) l in
      let s = p.size d w b in
      let k : size r (d ^ i) a ≤ 2 ^ 126 = omega (arith, s, b) in
      let c = cost-times (d ^ i) d a f (small-whole (d ^ i) a k) w in
      let x = pow-suc d i in
      let y = pow-suc (size r d f) i in
      let t : size r d f * size r (d ^ i) a ≤ size r d f * (size r d f ^ i) = mul-le-mul_left (size r d f) s in
      rw (x, y) (omega (arith, c, t))

  pub power_step : (f a h : Form C) (i : ℕ) → IsPowerOf r f i a → IsProductOf r a f h → IsPowerOf r f (suc i) h
  power_step f a h i p q = record {
    map = λ m. q.map m ∙ convolved-same r (coefficient r a) (powered r (coefficient r f) i) (coefficient r f) (coefficient r f) m p.map (λ v. refl);
    atoms = omega (arith, p.atoms, q.atoms);
    degree = λ v. omega (arith, p.degree v, q.degree v);
    size = λ d w l.
        let c = step_cost f a i d p w l in
        let s = q.weight (size_of r (d ^ suc i)) (sizes_add r (d ^ suc i)) (omega (arith, c, l)) in
        omega (arith, c, s);
  }

  pub power_can : (f a : Form C) (i n : ℕ) → i < n → CanPower r f n → IsPowerOf r f i a → CanConvolve r a f
  power_can f a i n l c p =
      let d = c.denominator in
      let e : d ^ suc i ≤ 2 ^ 126 = power_below d (suc i) n (2 ^ 126) (omega (arith, l)) (lit≤ tt) c.bounded in
      let u : size r d f ^ suc i ≤ 2 ^ 126 = power_below (size r d f) (suc i) n (2 ^ 126) (omega (arith, l)) (lit≤ tt) c.small in
      let b : size r d f ^ i ≤ 2 ^ 126 = power_below (size r d f) i n (2 ^ 126) (omega (arith, l)) (lit≤ tt) c.small in
      let s = p.size d c.whole b in
      let x : IsWhole r (d ^ i * d) a = whole-more (d ^ i) d a (small-whole (d ^ i) a (omega (arith, s, b))) in
      let y : IsWhole r (d * d ^ i) f = whole-more d (d ^ i) f c.whole in
      let z = step_cost f a i d p c.whole u in
      record {
        denominator = d ^ suc i;
        positive = power_positive d (suc i) c.positive;
        bounded = e;
        first = subst (λ k. IsWhole r k a) (sym (pow-suc d i)) x;
        second = subst (λ k. IsWhole r k f) (let q : d * d ^ i ≡ d ^ i * d = omega arith in q ∙ sym (pow-suc d i)) y;
        small = omega (arith, z, u);
      }

  pub power_degree : (f a : Form C) (i n : ℕ) → i < n → HasSmallPower f n → IsPowerOf r f i a → HasSmallProduct a f
  power_degree f a i n l h p = record {
    exponents = λ k.
        let t : suc i * exponent k f ≤ n * exponent k f = mul-le-mul_right (exponent k f) (let o : suc i ≤ n = omega (arith, l) in o) in
        omega (arith, t, h.exponents k, p.degree (only k));
  }
