-- Laws of the numbers of choices.
use Rattle.std.proofs.Common.{◌≡◌, ℕ, zero, suc, ◌+◌, ◌*◌, ◌-◌, ◌/◌, ◌<◌, ◌≤◌, inl, inr, arith, refl, ap, sym, ◌∙◌, subst}
use Rattle.std.specs.Int.{IsGcd, ◌∣◌}
use Rattle.std.proofs.lemmas.Bool.{cases_lt}
use Rattle.std.proofs.Math.Nat.{mul-le-mul_left, le_of_mul-le-mul_right, div-mul_cancel, dvd-mul_left}
use Rattle.alg_num.proofs.IntegerLaws.{cancel_ℕ, positive_factor}
use Rattle.alg_num.proofs.CoprimeLaws.{gcd_positive, coprime_quotients, divides_other}
use Rattle.alg_law.specs.LeanFunctions.{choose}

pub choose-zero : (n : ℕ) → choose n 0 ≡ 1
unfolding choose
choose-zero zero = refl
choose-zero (suc n) = refl

-- there is no choice of more things than there are
pub choose-past : (n k : ℕ) → n < k → choose n k ≡ 0
unfolding choose
choose-past n zero h = absurd (omega arith)
choose-past zero (suc k) h = refl
choose-past (suc n) (suc k) h = omega (arith, choose-past n k (omega arith), choose-past n (suc k) (omega arith))

choose-all : (n : ℕ) → choose n n ≡ 1
unfolding choose
choose-all zero = refl
choose-all (suc n) = omega (arith, choose-all n, choose-past n (suc n) (omega arith))

-- k things are chosen as the others are left
same_by_steps : (n a b : ℕ) → a + b ≡ n → choose n a ≡ choose n b
unfolding choose
same_by_steps zero zero zero e = refl
same_by_steps zero zero (suc b) e = absurd (omega arith)
same_by_steps zero (suc a) b e = absurd (omega arith)
same_by_steps (suc n) zero zero e = absurd (omega arith)
same_by_steps (suc n) zero (suc b) e =
    let s : suc b ≡ suc n = omega (arith, e) in
    sym (choose-all (suc n)) ∙ ap (choose (suc n)) (sym s)
same_by_steps (suc n) (suc a) zero e =
    let s : suc a ≡ suc n = omega (arith, e) in
    ap (choose (suc n)) s ∙ choose-all (suc n)
same_by_steps (suc n) (suc a) (suc b) e =
    let f : choose n a ≡ choose n (suc b) = same_by_steps n a (suc b) (omega (arith, e)) in
    let g : choose n (suc a) ≡ choose n b = same_by_steps n (suc a) b (omega (arith, e)) in
    omega (arith, f, g)

pub choose-rest : (n k : ℕ) → k ≤ n → choose n (n - k) ≡ choose n k
choose-rest n k h = same_by_steps n (n - k) k (omega arith)

few_left : (n k a b c : ℕ) → n < suc k → b ≡ 0 → b * suc k ≡ a * (n - k) → c * suc (suc k) ≡ b * (n - suc k) → (b + c) * suc (suc k) ≡ (a + b) * (n - k)
few_left n k a b c h e f g =
    let u : n - k ≡ 0 = omega arith in
    let v : a * (n - k) ≡ 0 = ap (λ m. a * m) u ∙ omega arith in
    let w : b * (n - k) ≡ 0 = ap (λ m. b * m) u ∙ omega arith in
    let x : b * (n - suc k) ≡ 0 = ap (λ m. m * (n - suc k)) e ∙ omega arith in
    let y : b * suc (suc k) ≡ 0 = ap (λ m. m * suc (suc k)) e ∙ omega arith in
    omega (arith, v, w, x, y, f, g)

more_left : (d k a b c : ℕ) → b * suc k ≡ a * suc d → c * suc (suc k) ≡ b * d → (b + c) * suc (suc k) ≡ (a + b) * suc d
more_left d k a b c f g = omega (arith, f, g)

next_step : (n k a b c : ℕ) → (n < suc k → b ≡ 0) → b * suc k ≡ a * (n - k) → c * suc (suc k) ≡ b * (n - suc k) → (b + c) * suc (suc k) ≡ (a + b) * (n - k)
next_step n k a b c h f g =
    elim (cases_lt n (suc k)) [
      | inl l ↦ few_left n k a b c l (h l) f g
      | inr l ↦ let e : n - k ≡ suc (n - suc k) = omega arith in
          rw e (more_left (n - suc k) k a b c (f ∙ ap (λ m. a * m) e) g)
    ]

-- the next number of choices out of n things
pub choose-next : (n k : ℕ) → choose n (suc k) * suc k ≡ choose n k * (n - k)
unfolding choose
choose-next zero zero = refl
choose-next zero (suc k) = omega arith
choose-next (suc n) zero = omega (arith, choose-next n zero, choose-zero n)
choose-next (suc n) (suc k) =
    let e : suc n - suc k ≡ n - k = omega arith in
    rw e (next_step n k (choose n k) (choose n (suc k)) (choose n (suc (suc k))) (choose-past n (suc k)) (choose-next n k) (choose-next n (suc k)))

grows_once : (n k : ℕ) → suc k + suc k ≤ n → choose n k ≤ choose n (suc k)
grows_once n k h =
    let l : suc k ≤ n - k = omega arith in
    le_of_mul-le-mul_right {k = suc k} (omega (arith, choose-next n k, mul-le-mul_left (choose n k) l)) (omega arith)

grows_by : (n k d : ℕ) → (k + d) + (k + d) ≤ n → choose n k ≤ choose n (k + d)
grows_by n k zero h = let e : k + 0 ≡ k = omega arith in rw e (omega arith)
grows_by n k (suc d) h =
    let e : k + suc d ≡ suc (k + d) = omega arith in
    rw e (omega (arith, grows_by n k d (omega arith), grows_once n (k + d) (omega arith)))

-- the numbers grow up to the half
pub choose-grows : (n j k : ℕ) → j ≤ k → k + k ≤ n → choose n j ≤ choose n k
choose-grows n j k h l = let e : j + (k - j) ≡ k = omega arith in subst (λ m. choose n j ≤ choose n m) e (grows_by n j (k - j) (omega arith))

-- the product of the parts that are left without common divisors
reduced_product : (c v m s g : ℕ) → 0 < s → IsGcd v s g → c * s ≡ v * m → v / g * (m / (s / g)) ≡ c
reduced_product c v m s g h d e =
    let g_positive : 0 < g = gcd_positive v s g h d in
    let x : v / g * g ≡ v = div-mul_cancel g d.0 in
    let y : s / g * g ≡ s = div-mul_cancel g d.1 in
    let p : 0 < s / g = positive_factor (s / g) g s h y in
    let f : c * (s / g) ≡ v / g * m =
    cancel_ℕ (c * (s / g)) (v / g * m) g g_positive (omega (arith, e, ap (λ n. c * n) y, ap (λ n. n * m) x)) in
    let k : s / g ∣ m = divides_other (v / g) (s / g) m (coprime_quotients v s g g_positive d) (subst (λ n. s / g ∣ n) f (dvd-mul_left (s / g) c)) in
    let z : m / (s / g) * (s / g) ≡ m = div-mul_cancel (s / g) k in
    sym (cancel_ℕ c (v / g * (m / (s / g))) (s / g) p (omega (arith, f, ap (λ n. v / g * n) z)))

pub choose-step : (n k v g : ℕ) → v ≡ choose n k → IsGcd v (suc k) g → v / g * ((n - k) / (suc k / g)) ≡ choose n (suc k)
choose-step n k v g e d = reduced_product (choose n (suc k)) v (n - k) (suc k) g (omega arith) d (choose-next n k ∙ ap (λ m. m * (n - k)) (sym e))

pub divisor_positive : (v k g : ℕ) → IsGcd v (suc k) g → 0 < g
divisor_positive v k g d = gcd_positive v (suc k) g (omega arith) d

pub quotient_positive : (v k g : ℕ) → IsGcd v (suc k) g → 0 < suc k / g
quotient_positive v k g d = positive_factor (suc k / g) g (suc k) (omega arith) (div-mul_cancel g d.1)

-- no number after one past the limit, up to the half, is within it
pub choose-past_limit : (limit n i k : ℕ) → i < k → k + k ≤ n → (choose n (suc i) < limit → ⊥) → choose n k < limit → ⊥
choose-past_limit limit n i k h l p q = p (omega (arith, choose-grows n (suc i) k h l, q))
