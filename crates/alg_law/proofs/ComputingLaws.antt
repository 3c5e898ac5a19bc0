-- What the functions compute are the values.
use Rattle.std.proofs.Common.{◌≡◌, ℕ, zero, suc, ◌+◌, ◌*◌, ◌-◌, ◌/◌, ◌%◌, ◌<◌, true, ℤ, pos, negsuc, ◌+ℤ◌, ◌*ℤ◌, neg_ℤ, List, [], ◌∷◌, Some, arith, refl, ap, sym, ◌∙◌, subst, mod-lt, eqb-true, eq-eqb}
use Rattle.std.specs.Int.{IsGcd, ◌∣◌}
use Rattle.std.proofs.lemmas.Int.{ints}
use Rattle.std.proofs.lemmas.Nat.Gcd.{dvd_of_mod-eq-zero, dvd-zero}
use Rattle.std.proofs.Math.IntN.{*ℤ_comm, pos-*ℤ-negsuc}
use Rattle.std.proofs.Math.Nat.{div-add-mod, div-mul_cancel, mul-div_cancel', dvd-mul_left, dvd-mul_right, mul-dvd-mul_left, dvd_of_mul-dvd-mul_right, eq-zero_of_zero-dvd, mod-eq-zero_of_dvd}
use Rattle.alg_num.proofs.CoprimeLaws.{gcd_positive, coprime_quotients, divides_other}
use Rattle.alg_num.specs.Reduced.{greatest_divisor}
use Rattle.alg_num.proofs.ReducedLaws.{IsGcd-greatest_divisor}
use Rattle.alg_terms.specs.declared.symbols.Sym.{Sym}
use Rattle.alg_terms.specs.declared.symbols.Sym.TheVariants.{NatSub, IDiv, Mod, Gcd, Lcm, Fact, Choose, Fib}
use Rattle.alg_law.specs.LeanFunctions.{IsLcm, IsDivision, IsIntegerQuotient, IsIntegerRemainder, IsNaturalValue, IsIntegerValue}
use Rattle.alg_law.specs.Computing.{least_multiple, integer_quotient, integer_remainder, natural_value, integer_value, divides}

both_ways : (a b g : ℕ) → IsGcd a b g → a / g * b ≡ a * (b / g)
both_ways a b g h =
    let x : a / g * g ≡ a = div-mul_cancel g h.0 in
    let y : b / g * g ≡ b = div-mul_cancel g h.1 in
    omega (arith, ap (λ n. n * (b / g)) x, ap (λ n. a / g * n) y)

-- a multiple of both is one of their product over their greatest common divisor
least_of : (a b g k : ℕ) → 0 < a → 0 < b → IsGcd a b g → a ∣ k → b ∣ k → a / g * b ∣ k
least_of a b g k h i d s t =
    let g_positive : 0 < g = gcd_positive a b g i d in
    let x : a / g * g ≡ a = div-mul_cancel g d.0 in
    let y : b / g * g ≡ b = div-mul_cancel g d.1 in
    let e : a * (k / a) ≡ k = mul-div_cancel' a s in
    let f : k ≡ (a / g * (k / a)) * g = omega (arith, e, ap (λ m. m * (k / a)) x) in
    let Q : ℕ → Type 0 = λ m. b / g * g ∣ m in
    let R : ℕ → Type 0 = λ m. m ∣ k in
    let S : ℕ → Type 0 = λ m. a * (b / g) ∣ m in
    let u : b / g ∣ a / g * (k / a) = dvd_of_mul-dvd-mul_right (b / g) g_positive (subst Q f (subst R (sym y) t)) in
    let v : b / g ∣ k / a = divides_other (a / g) (b / g) (k / a) (coprime_quotients a b g g_positive d) u in
    subst R (sym (both_ways a b g d)) (subst S e (mul-dvd-mul_left (b / g) {c = k / a} a v))

of_zero : (k l : ℕ) → 0 ∣ k → l ∣ k
of_zero k l h = let P : ℕ → Type 0 = λ m. l ∣ m in subst P (sym (eq-zero_of_zero-dvd h)) (dvd-zero l)

least_for : (a b g k : ℕ) → IsGcd a b g → a ∣ k → b ∣ k → a / g * b ∣ k
least_for zero b g k d s t = of_zero k _ s
least_for (suc a) zero g k d s t = of_zero k _ t
least_for (suc a) (suc b) g k d s t = least_of (suc a) (suc b) g k (omega arith) (omega arith) d s t

pub IsLcm-least_multiple : (a b : ℕ) → IsLcm a b (least_multiple a b)
IsLcm-least_multiple a b =
    let g = greatest_divisor a b in
    let d : IsGcd a b g = IsGcd-greatest_divisor a b in
    let P : ℕ → Type 0 = λ m. a ∣ m in
    (subst P (sym (both_ways a b g d)) (dvd-mul_right a (b / g)), dvd-mul_left b (a / g), λ k s t. least_for a b g k d s t)

-- Euclid's division
division : (a b : ℕ) → IsDivision (pos a) (pos (suc b)) (pos (a / suc b)) (a % suc b)
division a b = (ap pos (sym (div-add-mod a (suc b))), mod-lt a (omega arith))

negative_times : (b q : ℕ) → negsuc b *ℤ pos q ≡ neg_ℤ (pos (suc b * q))
negative_times b q = *ℤ_comm (negsuc b) (pos q) ∙ pos-*ℤ-negsuc q b ∙ ap (λ n. neg_ℤ (pos n)) (omega arith)

negative_times_negated : (b q : ℕ) → negsuc b *ℤ neg_ℤ (pos q) ≡ pos (suc b * q)
negative_times_negated b zero = omega (arith, ints)
negative_times_negated b (suc q) = ap pos (omega arith)

division_by_negative : (a b : ℕ) → IsDivision (pos a) (negsuc b) (neg_ℤ (pos (a / suc b))) (a % suc b)
division_by_negative a b =
    (rw (negative_times_negated b (a / suc b)) (ap pos (sym (div-add-mod a (suc b)))), mod-lt a (omega arith))

-- a negative number, by what is left of the number before it
below_zero : (a b q r : ℕ) → suc b * q + r ≡ a → r < suc b → negsuc a ≡ neg_ℤ (pos (suc b * suc q)) +ℤ pos (suc b - 1 - r)
below_zero a b q r e h = omega (arith, ints, e, h)

division_of_negative : (a b : ℕ) → IsDivision (negsuc a) (pos (suc b)) (negsuc (a / suc b)) (suc b - 1 - a % suc b)
division_of_negative a b =
    let h : a % suc b < suc b = mod-lt a (omega arith) in
    (rw (pos-*ℤ-negsuc (suc b) (a / suc b)) (below_zero a b (a / suc b) (a % suc b) (div-add-mod a (suc b)) h), omega (arith, h))

division_of_both : (a b : ℕ) → IsDivision (negsuc a) (negsuc b) (pos (suc (a / suc b))) (suc b - 1 - a % suc b)
division_of_both a b =
    let h : a % suc b < suc b = mod-lt a (omega arith) in
    (rw (negative_times b (suc (a / suc b))) (below_zero a b (a / suc b) (a % suc b) (div-add-mod a (suc b)) h), omega (arith, h))

quotient-is : (a b : ℤ) → IsIntegerQuotient a b (integer_quotient a b)
quotient-is a (pos zero) = refl
quotient-is (pos a) (pos (suc b)) = (a % suc b, division a b)
quotient-is (negsuc a) (pos (suc b)) = (suc b - 1 - a % suc b, division_of_negative a b)
quotient-is (pos a) (negsuc b) = (a % suc b, division_by_negative a b)
quotient-is (negsuc a) (negsuc b) = (suc b - 1 - a % suc b, division_of_both a b)

remainder-is : (a b : ℤ) → IsIntegerRemainder a b (integer_remainder a b)
remainder-is a (pos zero) = refl
remainder-is (pos a) (pos (suc b)) = (pos (a / suc b), a % suc b, division a b, refl)
remainder-is (negsuc a) (pos (suc b)) = (negsuc (a / suc b), suc b - 1 - a % suc b, division_of_negative a b, refl)
remainder-is (pos a) (negsuc b) = (neg_ℤ (pos (a / suc b)), a % suc b, division_by_negative a b, refl)
remainder-is (negsuc a) (negsuc b) = (pos (suc (a / suc b)), suc b - 1 - a % suc b, division_of_both a b, refl)

pub natural_value-is : (f : Sym) (xs : List ℕ) (v : ℕ) → natural_value f xs ≡ Some v → IsNaturalValue f xs v
natural_value-is NatSub (a ∷ b ∷ []) v e = cc
natural_value-is IDiv (a ∷ b ∷ []) v e = cc
natural_value-is Mod (a ∷ b ∷ []) v e = cc
natural_value-is Gcd (a ∷ b ∷ []) v e = let q : greatest_divisor a b ≡ v = cc in subst (λ g. IsGcd a b g) q (IsGcd-greatest_divisor a b)
natural_value-is Lcm (a ∷ b ∷ []) v e = let q : least_multiple a b ≡ v = cc in subst (λ l. IsLcm a b l) q (IsLcm-least_multiple a b)
natural_value-is Fact (a ∷ []) v e = cc
natural_value-is Choose (a ∷ b ∷ []) v e = cc
natural_value-is Fib (a ∷ []) v e = cc
natural_value-is _ _ v e = cc

pub integer_value-is : (f : Sym) (xs : List ℤ) (v : ℤ) → integer_value f xs ≡ Some v → IsIntegerValue f xs v
integer_value-is IDiv (a ∷ b ∷ []) v e = let q : integer_quotient a b ≡ v = cc in subst (λ z. IsIntegerQuotient a b z) q (quotient-is a b)
integer_value-is Mod (a ∷ b ∷ []) v e = let q : integer_remainder a b ≡ v = cc in subst (λ z. IsIntegerRemainder a b z) q (remainder-is a b)
integer_value-is _ _ v e = cc

pub divides-is : (a b : ℕ) → divides a b ≡ true → a ∣ b
divides-is a b e = dvd_of_mod-eq-zero a (eqb-true (b % a) 0 e)

pub divides-complete : (a b : ℕ) → a ∣ b → divides a b ≡ true
divides-complete a b h = eq-eqb (b % a) 0 (mod-eq-zero_of_dvd a h)
