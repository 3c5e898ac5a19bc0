-- Degrees under other weights of the atoms.
use Rattle.std.proofs.Common.{◌≡◌, ℕ, ◌+◌, ◌-◌, ◌*◌, ◌<◌, ◌≤◌, Bool, true, false, cond, refl, ap, ◌∙◌, arith}
use Rattle.std.specs.Prelude.{max, ◌==◌}
use Rattle.alg_horner.specs.Form.{Form, constant, skip, sum, degree, shifted, only}

same_max : (a b c d x y : ℕ) → a ≡ c → x ≡ y → b ≡ d → max (a + x) b ≡ max (c + y) d
same_max a b c d x y e f g = omega (arith, e, f, g)

pub degree-same : {C : Type 0} (v w : ℕ → ℕ) (f : Form C) → ((n : ℕ) → v n ≡ w n) → degree v f ≡ degree w f
degree-same v w (constant c) e = refl
degree-same v w (skip k h) e = degree-same (shifted k v) (shifted k w) h (λ n. e (k + n))
degree-same v w (sum p i q) e = same_max (degree v p) (degree (shifted 1 v) q) (degree w p) (degree (shifted 1 w) q) (i * v 0) (i * w 0) (degree-same v w p e) (ap (λ x. i * x) (e 0)) (degree-same (shifted 1 v) (shifted 1 w) q (λ n. e (1 + n)))

-- to skip no atom
pub degree-none : {C : Type 0} (v : ℕ → ℕ) (h : Form C) → degree (shifted 0 v) h ≡ degree v h
degree-none v h = degree-same (shifted 0 v) v h (λ n. ap v (let e : 0 + n ≡ n = omega arith in e))

-- to skip atoms in two steps
pub degree-twice : {C : Type 0} (v : ℕ → ℕ) (k j i : ℕ) (h : Form C) → i ≡ k + j → degree (shifted j (shifted k v)) h ≡ degree (shifted i v) h
degree-twice v k j i h e = degree-same (shifted j (shifted k v)) (shifted i v) h (λ n. ap v (let f : k + (j + n) ≡ i + n = omega (arith, e) in f))

distribute : (a b w : ℕ) → (a + b) * w ≡ a * w + b * w
distribute a b w = omega arith

-- a power in two steps
pub split_power : (i j w : ℕ) → j < i → i * w ≡ (i - j) * w + j * w
split_power i j w l = ap (λ x. x * w) (let e : i ≡ (i - j) + j = omega (arith, l) in e) ∙ distribute (i - j) j w

at_most_one : (b : Bool) → cond {A = ℕ} b 1 0 ≤ 1
at_most_one true = omega arith
at_most_one false = omega arith

pub only-small : (n m : ℕ) → only n m ≤ 1
only-small n m = at_most_one (m == n)

-- atoms that weigh nothing
none_max : (a b i x : ℕ) → a ≡ 0 → x ≡ 0 → b ≡ 0 → max (a + i * x) b ≡ 0
none_max a b i x e f g = let h : i * x ≡ 0 = ap (λ y. i * y) f ∙ (let z : i * 0 ≡ 0 = omega arith in z) in omega (arith, e, h, g)

pub degree-nothing : {C : Type 0} (v : ℕ → ℕ) (f : Form C) → ((n : ℕ) → v n ≡ 0) → degree v f ≡ 0
degree-nothing v (constant c) e = refl
degree-nothing v (skip k h) e = degree-nothing (shifted k v) h (λ n. e (k + n))
degree-nothing v (sum p i q) e = none_max (degree v p) (degree (shifted 1 v) q) i (v 0) (degree-nothing v p e) (e 0) (degree-nothing (shifted 1 v) q (λ n. e (1 + n)))
