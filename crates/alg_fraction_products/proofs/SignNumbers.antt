-- The signs of products and inverses of fractions.
use Rattle.std.proofs.Common.{◌≡◌, ℕ, zero, suc, ◌*◌, ◌<◌, ℤ, pos, negsuc, ◌*ℤ◌, ◌≤ℤ◌, ◌<ℤ◌, arith, refl, ap, ap₂, sym, ◌∙◌, subst, to_z, of_z, lit≤}
use Rattle.std.specs.Prelude.{unsigned_abs, neg_ℤ}
use Rattle.std.specs.Int.{IsGcd, w128, ◌∣◌}
use Rattle.std.proofs.lemmas.Int.{ints}
use Rattle.std.proofs.lemmas.Nat.Gcd.{IsGcd-swap, dvd_antisymm}
use Rattle.std.proofs.Math.IntN.{*ℤ_comm, *ℤ-zero, zero-*ℤ}
use Rattle.std.proofs.Math.Nat.{one-dvd}
use Rattle.alg_num.specs.Fraction.{Fraction}
use Rattle.alg_num.specs.Inverse.{IsInverse}
use Rattle.alg_num.specs.LowestTerms.{IsInLowestTerms, Reduces}
use Rattle.alg_num.specs.Product.{product_of}
use Rattle.alg_num.specs.Range.{InRange}
use Rattle.alg_num.proofs.IntegerLaws.{positive_product, neg_ℤ-*ℤ, *ℤ-neg_ℤ, cancel_ℤ}
use Rattle.alg_num.proofs.LowestTermsLaws.{fraction_equal, lowest_terms_equal}
use Rattle.alg_num.proofs.WholeNumbers.{negative_lowest}
use Rattle.alg_fraction_numbers.specs.Products.{size_of}
use Rattle.alg_fraction_numbers.proofs.CommonLemmas.{back, denominator_divides}
use Rattle.alg_fraction_numbers.proofs.ResultLemmas.{not-below, zero-whole}

-- what is read of a number in range

pub size-read : (z w : ℤ) (n : ℕ) → InRange z → z ≡ w → n ≡ unsigned_abs (to_z w128 (of_z w128 z)) → n ≡ unsigned_abs w
size-read z w n h e k = k ∙ ap unsigned_abs (back z h ∙ e)

pub ruleset readings = (size-read, back)

-- signs from sizes

at_least : (z : ℤ) → z ≡ pos (unsigned_abs z) → pos 0 ≤ℤ z
at_least (pos n) e = omega (arith, ints)
at_least (negsuc n) e = cc

not-minus : (z : ℤ) (D A : ℕ) → 0 < D → pos A ≡ z *ℤ pos D → pos 0 ≤ℤ z
not-minus z D A h e = at_least z (not-below z D A h e)

is-minus : (z : ℤ) (D A : ℕ) → 0 < A → neg_ℤ (pos A) ≡ z *ℤ pos D → z <ℤ pos 0
is-minus (pos n) D zero h e = absurd (omega (arith, h))
is-minus (pos n) D (suc a) h e = cc
is-minus (negsuc w) D A h e = omega (arith, ints)

-- the sign of a product, from those of the factors

module _ (w : ℤ) (c D : ℕ) (k : 0 < c) (l : 0 < D) where
  plus-by_plus : (u v : ℤ) → pos 0 ≤ℤ u → pos 0 ≤ℤ v → (u *ℤ v) *ℤ pos c ≡ w *ℤ pos D → pos 0 ≤ℤ w
  plus-by_plus (pos a) (pos b) h i e = not-minus w D (a * b * c) l e
  plus-by_plus (pos a) (negsuc b) h i e = absurd (omega (arith, ints, i))
  plus-by_plus (negsuc a) v h i e = absurd (omega (arith, ints, h))

  minus-by_minus : (u v : ℤ) → u <ℤ pos 0 → v <ℤ pos 0 → (u *ℤ v) *ℤ pos c ≡ w *ℤ pos D → pos 0 ≤ℤ w
  minus-by_minus (negsuc a) (negsuc b) h i e = not-minus w D (suc a * suc b * c) l e
  minus-by_minus (negsuc a) (pos b) h i e = absurd (omega (arith, ints, i))
  minus-by_minus (pos a) v h i e = absurd (omega (arith, ints, h))

  plus-by_minus : (u v : ℤ) → pos 0 ≤ℤ u → 0 < unsigned_abs u → v <ℤ pos 0 → (u *ℤ v) *ℤ pos c ≡ w *ℤ pos D → w <ℤ pos 0
  plus-by_minus (pos a) (negsuc b) h j i e = is-minus w D (a * suc b * c) (positive_product (a * suc b) c (positive_product a (suc b) j (omega arith)) k) (sym (neg_ℤ-*ℤ (pos (a * suc b)) (pos c)) ∙ e)
  plus-by_minus (pos a) (pos b) h j i e = absurd (omega (arith, ints, i))
  plus-by_minus (negsuc a) v h j i e = absurd (omega (arith, ints, h))

  minus-by_plus : (u v : ℤ) → u <ℤ pos 0 → pos 0 ≤ℤ v → 0 < unsigned_abs v → (u *ℤ v) *ℤ pos c ≡ w *ℤ pos D → w <ℤ pos 0
  minus-by_plus u v h i j e = plus-by_minus v u i j h (ap (λ x. x *ℤ pos c) (*ℤ_comm v u) ∙ e)

module _ (x y z : Fraction) (i : IsInLowestTerms x) (j : IsInLowestTerms y) (r : Reduces (product_of x y) z) where
  above : 0 < x.denominator * y.denominator
  above = positive_product x.denominator y.denominator i.positive j.positive

  pub plus-plus : pos 0 ≤ℤ x.numerator → pos 0 ≤ℤ y.numerator → pos 0 ≤ℤ z.numerator
  plus-plus h k = plus-by_plus z.numerator z.denominator (x.denominator * y.denominator) r.lowest.positive above x.numerator y.numerator h k r.same

  pub minus-minus : x.numerator <ℤ pos 0 → y.numerator <ℤ pos 0 → pos 0 ≤ℤ z.numerator
  minus-minus h k = minus-by_minus z.numerator z.denominator (x.denominator * y.denominator) r.lowest.positive above x.numerator y.numerator h k r.same

  pub plus-minus : pos 0 ≤ℤ x.numerator → 0 < unsigned_abs x.numerator → y.numerator <ℤ pos 0 → z.numerator <ℤ pos 0
  plus-minus h l k = plus-by_minus z.numerator z.denominator (x.denominator * y.denominator) r.lowest.positive above x.numerator y.numerator h l k r.same

  pub minus-plus : x.numerator <ℤ pos 0 → pos 0 ≤ℤ y.numerator → 0 < unsigned_abs y.numerator → z.numerator <ℤ pos 0
  minus-plus h k l = minus-by_plus z.numerator z.denominator (x.denominator * y.denominator) r.lowest.positive above x.numerator y.numerator h k l r.same

  is-zero : x.numerator *ℤ y.numerator ≡ pos 0 → z.numerator ≡ pos 0
  is-zero e = cancel_ℤ z.numerator (pos 0) (x.denominator * y.denominator) above (sym r.same ∙ ap (λ n. n *ℤ pos z.denominator) e ∙ zero-*ℤ (pos z.denominator) ∙ sym (zero-*ℤ (pos (x.denominator * y.denominator))))

  pub zero-first : x.numerator ≡ pos 0 → z.numerator ≡ pos 0
  zero-first e = is-zero (ap (λ n. n *ℤ y.numerator) e ∙ zero-*ℤ y.numerator)

  pub zero-second : y.numerator ≡ pos 0 → z.numerator ≡ pos 0
  zero-second e = is-zero (ap (λ n. x.numerator *ℤ n) e ∙ *ℤ-zero x.numerator)

  -- the product of whole numbers is whole, also where one part alone is no whole number written
  pub divides-product : z.denominator ∣ x.denominator * y.denominator
  divides-product = denominator_divides (product_of x y) z r

-- 0 in lowest terms
pub zero-over : (x : Fraction) → IsInLowestTerms x → x.numerator ≡ pos 0 → x.denominator ≡ 1
zero-over x h e =
    let k : IsGcd (unsigned_abs (pos 0)) x.denominator 1 = subst (λ (n : ℤ). IsGcd (unsigned_abs n) x.denominator 1) e h.coprime in
    zero-whole x.denominator (record { positive = h.positive; coprime = k })

-- inverses of fractions below 0

minus-lowest : (n d : ℕ) → IsInLowestTerms (record { numerator = negsuc n; denominator = suc d }) → IsInLowestTerms (record { numerator = negsuc d; denominator = suc n })
minus-lowest n d h = record { positive = omega arith; coprime = IsGcd-swap (suc n) (suc d) 1 h.coprime }

pub inverse-minus : (n d : ℕ) (z : Fraction) → IsInLowestTerms (record { numerator = negsuc n; denominator = suc d }) → IsInverse (record { numerator = negsuc n; denominator = suc d }) z → z ≡ record { numerator = negsuc d; denominator = suc n }
inverse-minus n d z h i =
    lowest_terms_equal z (record { numerator = negsuc d; denominator = suc n }) i.lowest (minus-lowest n d h)
    (*ℤ_comm z.numerator (pos (suc n)) ∙ neg_ℤ-*ℤ (negsuc n) z.numerator ∙ ap neg_ℤ (i.elsewhere (λ e. cc)))
