-- Laws of naturals whose greatest common divisor is 1.
use Rattle.std.proofs.Common.{◌≡◌, ℕ, zero, suc, ◌+◌, ◌*◌, ◌/◌, ◌%◌, ◌<◌, ◌≤◌, arith, refl, ap, sym, ◌∙◌, subst, mod-lt}
use Rattle.std.specs.Int.{IsGcd, ◌∣◌}
use Rattle.std.proofs.lemmas.Nat.{mod-mul-add}
use Rattle.std.proofs.lemmas.Nat.Gcd.{IsGcd-from_mod, IsGcd-from_zero, same_from_IsGcd, dvd_antisymm, dvd_trans, dvd-zero, dvd_refl}
use Rattle.std.proofs.Math.Nat.{div-add-mod', dvd-mod_iff, dvd-mul_left, dvd-mul_right, div-mul_cancel, one-dvd, mul-dvd-mul_right, dvd_of_mul-dvd-mul_right, pos_of_dvd_of_pos}
use Rattle.alg_num.proofs.IntegerLaws.{cancel_ℕ, scaled_below}

scaled-mod : (a b k : ℕ) → 0 < b → 0 < k → (a * k) % (b * k) ≡ (a % b) * k
scaled-mod a b k h i =
    let e : a * k ≡ (a / b) * (b * k) + (a % b) * k = omega (arith, ap (λ x. x * k) (div-add-mod' a b)) in
    let l : (a % b) * k < b * k = scaled_below (a % b) b k (mod-lt a h) i in
    rw e (mod-mul-add (a / b) (b * k) ((a % b) * k) l)

to_mod : (a b g : ℕ) → IsGcd a b g → IsGcd b (a % b) g
to_mod a b g h = (h.1, (dvd-mod_iff g h.1).1 h.0, λ d i j. h.2 d ((dvd-mod_iff d i).0 j) i)

scaled_by_steps : (n a b k g : ℕ) → b ≤ n → 0 < k → IsGcd a b g → IsGcd (a * k) (b * k) (g * k)
scaled_by_steps n a zero k g l i h =
    let e : g ≡ a = same_from_IsGcd a 0 g a h (IsGcd-from_zero a 0 refl) in
    rw e (IsGcd-from_zero (a * k) (0 * k) (omega arith))
scaled_by_steps zero a (suc b) k g l i h = absurd (omega arith)
scaled_by_steps (suc n) a (suc b) k g l i h =
    let m : a % suc b < suc b = mod-lt a (omega arith) in
    IsGcd-from_mod (a * k) (suc b * k) (g * k) (rw (scaled-mod a (suc b) k (omega arith) i) (scaled_by_steps n (suc b) (a % suc b) k g (omega arith) i (to_mod a (suc b) g h)))

-- a factor of both numbers is a factor of their greatest common divisor
pub IsGcd-scaled : (a b k g : ℕ) → 0 < k → IsGcd a b g → IsGcd (a * k) (b * k) (g * k)
IsGcd-scaled a b k g i h = scaled_by_steps b a b k g (omega arith) i h

-- Euclid's lemma: a divisor of a product that has no common divisor with one factor divides the other
pub divides_other : (a b d : ℕ) → IsGcd a b 1 → b ∣ a * d → b ∣ d
divides_other a b zero h j = dvd-zero b
divides_other a b (suc d) h j =
    let s = IsGcd-scaled a b (suc d) 1 (omega arith) h in
    let P : ℕ → Type 0 = λ x. b ∣ x in
    subst P (omega arith) (s.2 b j (dvd-mul_right b (suc d)))

-- divisors of coprime numbers are coprime
pub coprime_divisors : (a b c d : ℕ) → IsGcd a b 1 → c ∣ a → d ∣ b → IsGcd c d 1
coprime_divisors a b c d h i j = (one-dvd c, one-dvd d, λ e p q. h.2 e (dvd_trans e p i) (dvd_trans e q j))

-- a product is coprime to a number to which both factors are
pub coprime_product : (a b c : ℕ) → IsGcd a c 1 → IsGcd b c 1 → IsGcd (a * b) c 1
coprime_product a b c h i = (
  one-dvd (a * b),
  one-dvd c,
  λ e p q.
      i.2 e (divides_other a e b (coprime_divisors a c a e h (dvd_refl a) q) p) q,
)

-- two pairs of coprime numbers with equal cross products are equal
pub coprime_unique : (a b c d : ℕ) → 0 < b → 0 < d → IsGcd a b 1 → IsGcd c d 1 → a * d ≡ c * b → (a ≡ c) × (b ≡ d)
coprime_unique a b c d h i g k e =
    let P : ℕ → Type 0 = λ x. b ∣ x in
    let Q : ℕ → Type 0 = λ x. d ∣ x in
    let p : b ∣ d = divides_other a b d g (subst P (sym e) (dvd-mul_left b c)) in
    let q : d ∣ b = divides_other c d b k (subst Q e (dvd-mul_left d a)) in
    let r : b ≡ d = dvd_antisymm p q in
    (cancel_ℕ a c d i (e ∙ ap (λ x. c * x) r), r)

-- two numbers divided by their greatest common divisor are coprime
pub coprime_quotients : (a b g : ℕ) → 0 < g → IsGcd a b g → IsGcd (a / g) (b / g) 1
coprime_quotients a b g h i =
    let ea : a / g * g ≡ a = div-mul_cancel g i.0 in
    let eb : b / g * g ≡ b = div-mul_cancel g i.1 in (
      one-dvd (a / g),
      one-dvd (b / g),
      λ d j k.
          let P : ℕ → Type 0 = λ x. d * g ∣ x in
          let p : d * g ∣ a = subst P ea (mul-dvd-mul_right d j g) in
          let q : d * g ∣ b = subst P eb (mul-dvd-mul_right d k g) in
          dvd_of_mul-dvd-mul_right d h (let Q : ℕ → Type 0 = λ x. d * g ∣ x in subst Q (omega arith) (i.2 (d * g) p q)),
    )

pub gcd_positive : (a b g : ℕ) → 0 < b → IsGcd a b g → 0 < g
gcd_positive a b g h i = pos_of_dvd_of_pos i.1 h
