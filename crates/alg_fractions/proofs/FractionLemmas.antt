-- Fractions of both signs, and the sorts that have them, as the book grows.
use Rattle.std.proofs.Common.{◌≡◌, ℕ, zero, suc, ◌*◌, ◌<◌, ◌^◌, ℤ, pos, negsuc, ◌*ℤ◌, ◌≤ℤ◌, ◌<ℤ◌, neg_ℤ, refl, ap, sym, ◌∙◌, subst, arith, to_z, of_z}
use Rattle.std.specs.Prelude.{unsigned_abs}
use Rattle.std.specs.Int.{w128}
use Rattle.std.proofs.lemmas.Int.{ints, to_z-of_z, fits_signed_from_abs, unsigned_abs-mul}
use Rattle.std.proofs.lemmas.Nat.Gcd.{dvd_antisymm, dvd-zero, dvd_refl}
use Rattle.std.proofs.Math.Nat.{one-dvd}
use Rattle.alg_terms.specs.declared.sorts.Sort.{Sort}
use Rattle.alg_terms.specs.Tree.{Lit}
use Rattle.alg_num.specs.Fraction.{Fraction}
use Rattle.alg_num.specs.LowestTerms.{IsInLowestTerms}
use Rattle.alg_num.specs.Range.{InRange}
use Rattle.alg_num.proofs.IntegerLaws.{neg_ℤ-*ℤ, positive_product}
use Rattle.alg_build.specs.Book.{Book, Grows}
use Rattle.alg_rows.specs.Operations.{negation_tree}
use Rattle.alg_numerals.specs.WholeTree.{whole_tree}
use Rattle.alg_numerals.proofs.WholeLemmas.{signs-whole, grows-whole}
use Rattle.alg_fractions.specs.Fractions.{HasFraction, HasQuotients, QuotientsOf}
use Rattle.alg_fractions.specs.NumeralTree.{over_denominator, signed_over, size_tree}
use Rattle.alg_fractions.proofs.SizeLemmas.{sizes, grows-quotients, over-one}

quotients-of : (b : Book) (s : Sort) (d : ℕ) → HasQuotients b s → QuotientsOf b s d
quotients-of b s zero h = h
quotients-of b s (suc zero) h = tt
quotients-of b s (suc (suc d)) h = h

pub quotients-fraction : (b : Book) (s : Sort) (q : Fraction) → HasQuotients b s → HasFraction b s q
quotients-fraction b s q h = record { whole = signs-whole b s q.numerator h.signs; quotients = quotients-of b s q.denominator h }

grows-of : (a b : Book) (s : Sort) (d : ℕ) → Grows a b → QuotientsOf a s d → QuotientsOf b s d
grows-of a b s zero g h = grows-quotients a b g s h
grows-of a b s (suc zero) g h = tt
grows-of a b s (suc (suc d)) g h = grows-quotients a b g s h

pub grows-fraction : (a b : Book) (g : Grows a b) (s : Sort) (q : Fraction) → HasFraction a s q → HasFraction b s q
grows-fraction a b g s q h = record { whole = grows-whole a b s q.numerator g h.whole; quotients = grows-of a b s q.denominator g h.quotients }

-- a fraction that isn't whole asks for quotients
quotients-from : (b : Book) (s : Sort) (d : ℕ) → (d ≡ 1 → ⊥) → QuotientsOf b s d → HasQuotients b s
quotients-from b s zero n h = h
quotients-from b s (suc zero) n h = absurd (n refl)
quotients-from b s (suc (suc d)) n h = h

pub fraction-quotients : (b : Book) (s : Sort) (q : Fraction) → (q.denominator ≡ 1 → ⊥) → HasFraction b s q → HasQuotients b s
fraction-quotients b s q n h = quotients-from b s q.denominator n h.quotients

-- a fraction that isn't whole isn't 0
zero-whole : (z : ℤ) (d : ℕ) → IsInLowestTerms (record { numerator = z; denominator = d }) → unsigned_abs z ≡ 0 → d ≡ 1
zero-whole (pos zero) d h e = dvd_antisymm (h.coprime.2 d (dvd-zero d) (dvd_refl d)) (one-dvd d)
zero-whole (pos (suc a)) d h e = absurd (omega (arith, e))
zero-whole (negsuc a) d h e = absurd (omega (arith, e))

above : (n : ℕ) → (n ≡ 0 → ⊥) → 0 < n
above zero h = absurd (h refl)
above (suc n) h = omega arith

pub fraction-above : (z : ℤ) (d : ℕ) → IsInLowestTerms (record { numerator = z; denominator = d }) → (d ≡ 1 → ⊥) → 0 < unsigned_abs z
fraction-above z d h n = above (unsigned_abs z) (λ e. n (zero-whole z d h e))

-- a number in range is what its machine word stands for
pub back : (z : ℤ) → InRange z → to_z w128 (of_z w128 z) ≡ z
back z h = to_z-of_z w128 z (fits_signed_from_abs w128 z h)

-- the trees of whole numbers
pub signed-whole : (s : Sort) (z : ℤ) (d : ℕ) → d ≡ 1 → signed_over s z d ≡ whole_tree s z
unfolding signed_over whole_tree
signed-whole s (pos n) d e = over-one s (Lit s n) d e
signed-whole s (negsuc n) d e = ap (negation_tree s) (over-one s (Lit s (suc n)) d e)

-- the trees by the sign, where m is the size of the numerator z

pub signed-plus : (s : Sort) (z : ℤ) (m d : ℕ) → m ≡ unsigned_abs z → pos 0 ≤ℤ z → signed_over s z d ≡ size_tree s m d
unfolding signed_over
signed-plus s (pos a) m d e h = rw e refl
signed-plus s (negsuc a) m d e h = absurd (omega (arith, ints, h))

pub signed-minus : (s : Sort) (z : ℤ) (m d : ℕ) → m ≡ unsigned_abs z → z <ℤ pos 0 → signed_over s z d ≡ negation_tree s (size_tree s m d)
unfolding signed_over
signed-minus s (pos a) m d e h = absurd (omega (arith, ints, h))
signed-minus s (negsuc a) m d e h = rw e refl

pub negated-plus : (s : Sort) (z : ℤ) (m d : ℕ) → m ≡ unsigned_abs z → pos 0 ≤ℤ z → 0 < unsigned_abs z → signed_over s (neg_ℤ z) d ≡ negation_tree s (size_tree s m d)
unfolding signed_over
negated-plus s (pos zero) m d e h k = absurd (omega (arith, k))
negated-plus s (pos (suc a)) m d e h k = rw e refl
negated-plus s (negsuc a) m d e h k = absurd (omega (arith, ints, h))

pub negated-minus : (s : Sort) (z : ℤ) (m d : ℕ) → m ≡ unsigned_abs z → z <ℤ pos 0 → signed_over s (neg_ℤ z) d ≡ size_tree s m d
unfolding signed_over
negated-minus s (pos a) m d e h = absurd (omega (arith, ints, h))
negated-minus s (negsuc a) m d e h = rw e refl

-- the sign outside and inside are one where there is none
pub same-plus : (s : Sort) (z : ℤ) (d : ℕ) → pos 0 ≤ℤ z → signed_over s z d ≡ over_denominator s (whole_tree s z) d
unfolding signed_over whole_tree
same-plus s (pos a) d h = refl
same-plus s (negsuc a) d h = absurd (omega (arith, ints, h))

pub same-whole : (s : Sort) (z : ℤ) (d : ℕ) → d ≡ 1 → signed_over s z d ≡ over_denominator s (whole_tree s z) d
same-whole s z d e = signed-whole s z d e ∙ sym (over-one s (whole_tree s z) d e)

-- products with a factor that isn't below 0

pub whole-plus : (s : Sort) (z : ℤ) (m e : ℕ) → m ≡ unsigned_abs z → pos 0 ≤ℤ z → whole_tree s (z *ℤ pos e) ≡ Lit s (m * e)
unfolding whole_tree
whole-plus s (pos a) m e k h = rw k refl
whole-plus s (negsuc a) m e k h = absurd (omega (arith, ints, h))

negated-tree : (s : Sort) (p : ℕ) → 0 < p → whole_tree s (neg_ℤ (pos p)) ≡ negation_tree s (Lit s p)
unfolding whole_tree
negated-tree s zero h = absurd (omega (arith, h))
negated-tree s (suc p) h = refl

pub whole-minus : (s : Sort) (z : ℤ) (m e : ℕ) → m ≡ unsigned_abs z → z <ℤ pos 0 → 0 < e → whole_tree s (z *ℤ pos e) ≡ negation_tree s (Lit s (m * e))
whole-minus s (pos a) m e k h l = absurd (omega (arith, ints, h))
whole-minus s (negsuc a) m e k h l =
    let p : 0 < suc a * e = positive_product (suc a) e (omega arith) l in
    ap (whole_tree s) (neg_ℤ-*ℤ (pos (suc a)) (pos e)) ∙ rw k (negated-tree s (suc a * e) p)

pub product-within : (z : ℤ) (m e : ℕ) → m ≡ unsigned_abs z → InRange (z *ℤ pos e) → m * e < 2 ^ 127
product-within z m e k h = let P : ℕ → Type 0 = λ n. n < 2 ^ 127 in rw k (subst P (unsigned_abs-mul z (pos e)) h)

pub ruleset fractions = (sizes, quotients-fraction, grows-fraction)
