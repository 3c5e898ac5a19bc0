-- The meanings of symbols at integers are Lean's functions.
use Rattle.std.proofs.Common.{◌≡◌, ℕ, zero, suc, ◌+◌, ◌-◌, ◌*◌, ◌/◌, ◌%◌, ◌<◌, List, [], ◌∷◌, map, ℤ, pos, negsuc, ◌+ℤ◌, ◌*ℤ◌, neg_ℤ, arith, refl, ap, ap₂, sym, ◌∙◌}
use Rattle.std.specs.Prelude.{unsigned_abs}
use Rattle.std.specs.Int.{IsGcd, ◌∣◌, int_div_euclid, int_rem_euclid}
use Rattle.std.proofs.lemmas.Int.{ints}
use Rattle.std.proofs.lemmas.Nat.{div-mul-add, mod-mul-add}
use Rattle.std.proofs.lemmas.Nat.Gcd.{dvd_antisymm, same_from_IsGcd}
use Rattle.std.proofs.Math.IntN.{neg_ℤ-neg_ℤ}
use Rattle.alg_terms.specs.declared.sorts.Sort.TheVariants.{Nat}
use Rattle.alg_terms.specs.declared.symbols.Sym.{Sym}
use Rattle.alg_terms.specs.declared.symbols.Sym.TheVariants.{NatSub, IDiv, Mod, Gcd, Lcm, Fact, Choose, Fib}
use Rattle.alg_terms.specs.Tree.{Lit, of_list}
use Rattle.alg_law.specs.Derivations.{numeral}
use Rattle.alg_law.proofs.IntegerLaws.{neg_ℤ-*ℤ-neg_ℤ}
use Rattle.alg_num.specs.Reduced.{greatest_divisor}
use Rattle.alg_num.proofs.ReducedLaws.{IsGcd-greatest_divisor}
use Rattle.alg_law.specs.Computing.{least_multiple, integer_quotient, integer_remainder}
use Rattle.alg_law.proofs.ComputingLaws.{IsLcm-least_multiple}
use Rattle.alg_law.specs.IntegerValues.{applied, value_of, values_of}
use Rattle.alg_law.specs.LeanFunctions.{natural_quotient, natural_remainder, IsLcm, IsIntegerQuotient, IsIntegerRemainder, IsNaturalValue, IsIntegerValue}
use Rattle.alg_law.specs.Valuations.{Valuation}

-- there is one least common multiple
lcm-is : (a b l : ℕ) → IsLcm a b l → least_multiple a b ≡ l
lcm-is a b l h = let m = IsLcm-least_multiple a b in dvd_antisymm (m.2 l h.0 h.1) (h.2 (least_multiple a b) m.0 m.1)

division : (a : ℤ) (b : ℕ) (q : ℤ) (r : ℕ) → a ≡ pos (suc b) *ℤ q +ℤ pos r → r < suc b → (int_div_euclid a (pos (suc b)) ≡ q) × (int_rem_euclid a (pos (suc b)) ≡ pos r)
division (pos a) b (pos q) r e l =
    let f : a ≡ q * suc b + r = omega (arith, ints, e) in
    (ap pos (ap (λ x. x / suc b) f ∙ div-mul-add q (suc b) r l), ap pos (ap (λ x. x % suc b) f ∙ mod-mul-add q (suc b) r l))
division (pos a) b (negsuc q) r e l = absurd (omega (arith, ints, e, l))
division (negsuc a) b (pos q) r e l = absurd (omega (arith, ints, e))
division (negsuc a) b (negsuc q) r e l =
    let f : a ≡ q * suc b + (b - r) = omega (arith, ints, e, l) in
    let s : b - r < suc b = omega arith in
    let m : a % suc b ≡ b - r = ap (λ x. x % suc b) f ∙ mod-mul-add q (suc b) (b - r) s in
    (ap negsuc (ap (λ x. x / suc b) f ∙ div-mul-add q (suc b) (b - r) s), ap pos (omega (arith, m, l)))

quotient-negative : (a : ℤ) (b : ℕ) → int_div_euclid a (negsuc b) ≡ neg_ℤ (int_div_euclid a (pos (suc b)))
quotient-negative (pos a) b = refl
quotient-negative (negsuc a) b = refl

remainder-negative : (a : ℤ) (b : ℕ) → int_rem_euclid a (negsuc b) ≡ int_rem_euclid a (pos (suc b))
remainder-negative (pos a) b = refl
remainder-negative (negsuc a) b = refl

division_by_negative : (a : ℤ) (b : ℕ) (q : ℤ) (r : ℕ) → a ≡ negsuc b *ℤ q +ℤ pos r → r < suc b → (int_div_euclid a (negsuc b) ≡ q) × (int_rem_euclid a (negsuc b) ≡ pos r)
division_by_negative a b q r e l =
    let turned : negsuc b *ℤ q ≡ pos (suc b) *ℤ neg_ℤ q = ap (λ z. negsuc b *ℤ z) (sym (neg_ℤ-neg_ℤ q)) ∙ neg_ℤ-*ℤ-neg_ℤ (pos (suc b)) (neg_ℤ q) in
    let h = division a b (neg_ℤ q) r (e ∙ ap (λ z. z +ℤ pos r) turned) l in
    (quotient-negative a b ∙ ap neg_ℤ h.0 ∙ neg_ℤ-neg_ℤ q, remainder-negative a b ∙ h.1)

pub integer_quotient-is : (a b q : ℤ) → IsIntegerQuotient a b q → integer_quotient a b ≡ q
integer_quotient-is a (pos zero) q h = sym h
integer_quotient-is a (pos (suc b)) q h = (division a b q h.0 h.1.0 h.1.1).0
integer_quotient-is a (negsuc b) q h = (division_by_negative a b q h.0 h.1.0 h.1.1).0

pub integer_remainder-is : (a b m : ℤ) → IsIntegerRemainder a b m → integer_remainder a b ≡ m
integer_remainder-is a (pos zero) m h = sym h
integer_remainder-is a (pos (suc b)) m h = (division a b h.0 h.1 h.2.0 h.2.1).1 ∙ sym h.3
integer_remainder-is a (negsuc b) m h = (division_by_negative a b h.0 h.1 h.2.0 h.2.1).1 ∙ sym h.3

quotient-pos : (a b : ℕ) → integer_quotient (pos a) (pos b) ≡ pos (natural_quotient a b)
quotient-pos a zero = refl
quotient-pos a (suc b) = refl

remainder-pos : (a b : ℕ) → integer_remainder (pos a) (pos b) ≡ pos (natural_remainder a b)
remainder-pos a zero = refl
remainder-pos a (suc b) = refl

-- the value of a function of ℕ at literals
pub natural_value-holds : (v : Valuation) (f : Sym) (xs : List ℕ) (r : ℕ) → IsNaturalValue f xs r → applied v f (values_of v (of_list (map (Lit Nat) xs))) ≡ pos r
natural_value-holds v NatSub (a ∷ b ∷ []) r e = ap pos (sym e)
natural_value-holds v IDiv (a ∷ b ∷ []) r e = quotient-pos a b ∙ ap pos (sym e)
natural_value-holds v Mod (a ∷ b ∷ []) r e = remainder-pos a b ∙ ap pos (sym e)
natural_value-holds v Gcd (a ∷ b ∷ []) r e = ap pos (same_from_IsGcd a b (greatest_divisor a b) r (IsGcd-greatest_divisor a b) e)
natural_value-holds v Lcm (a ∷ b ∷ []) r e = ap pos (lcm-is a b r e)
natural_value-holds v Fact (a ∷ []) r e = ap pos (sym e)
natural_value-holds v Choose (a ∷ b ∷ []) r e = ap pos (sym e)
natural_value-holds v Fib (a ∷ []) r e = ap pos (sym e)
natural_value-holds v _ _ r e = absurd e

pub numeral-value : (v : Valuation) (z : ℤ) → value_of v (numeral z) ≡ z
numeral-value v (pos n) = refl
numeral-value v (negsuc n) = refl

-- the value of a division of integers at numerals
pub integer_value-holds : (v : Valuation) (f : Sym) (xs : List ℤ) (r : ℤ) → IsIntegerValue f xs r → applied v f (values_of v (of_list (map numeral xs))) ≡ value_of v (numeral r)
integer_value-holds v IDiv (a ∷ b ∷ []) r h = ap₂ (λ x y. integer_quotient x y) (numeral-value v a) (numeral-value v b) ∙ integer_quotient-is a b r h ∙ sym (numeral-value v r)
integer_value-holds v Mod (a ∷ b ∷ []) r h = ap₂ (λ x y. integer_remainder x y) (numeral-value v a) (numeral-value v b) ∙ integer_remainder-is a b r h ∙ sym (numeral-value v r)
integer_value-holds v _ _ r h = absurd h

pub integer_divides-holds : (v : Valuation) (x y : ℤ) → unsigned_abs x ∣ unsigned_abs y → unsigned_abs (value_of v (numeral x)) ∣ unsigned_abs (value_of v (numeral y))
integer_divides-holds v (pos x) (pos y) h = h
integer_divides-holds v (pos x) (negsuc y) h = h
integer_divides-holds v (negsuc x) (pos y) h = h
integer_divides-holds v (negsuc x) (negsuc y) h = h
