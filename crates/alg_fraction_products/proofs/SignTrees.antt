-- The trees of fractions by their signs and sizes.
use Rattle.std.proofs.Common.{◌≡◌, ℕ, zero, suc, ◌<◌, ℤ, pos, negsuc, ◌*ℤ◌, ◌≤ℤ◌, ◌<ℤ◌, arith, refl, ap, ap₂, sym, ◌∙◌, subst, ◌^◌, to_z}
use Rattle.std.specs.Prelude.{unsigned_abs, neg_ℤ}
use Rattle.std.specs.Int.{w128}
use Rattle.std.proofs.lemmas.Int.{ints, to_z_pos}
use Rattle.alg_terms.specs.declared.sorts.Sort.{Sort}
use Rattle.alg_terms.specs.Tree.{Tree, Lit}
use Rattle.alg_num.specs.Fraction.{Fraction}
use Rattle.alg_num.specs.Inverse.{IsInverse}
use Rattle.alg_num.specs.LowestTerms.{IsInLowestTerms, Reduces}
use Rattle.alg_num.specs.Product.{product_of}
use Rattle.alg_num.specs.Range.{InRange}
use Rattle.alg_num.proofs.WholeNumbers.{whole_fraction}
use Rattle.alg_fraction_numbers.specs.Products.{size_of}
use Rattle.alg_fraction_numbers.proofs.ResultLemmas.{inverse-size, sizes-of, whole-product}
use Rattle.alg_rows.specs.Operations.{negation_tree}
use Rattle.alg_numerals.specs.WholeTree.{whole_tree}
use Rattle.alg_fractions.specs.NumeralTree.{over_denominator, signed_over, signed_tree, size_tree}
use Rattle.alg_fractions.proofs.FractionLemmas.{signed-whole}
use Rattle.alg_fraction_products.specs.declared.parts.Size.{Size}
use Rattle.alg_fraction_products.specs.Sizes.{IsSizeOf, Multiply}
use Rattle.alg_fraction_products.proofs.SignNumbers.{zero-over, inverse-minus}

plus-over : (s : Sort) (z : ℤ) (d n e : ℕ) → n ≡ unsigned_abs z → e ≡ d → pos 0 ≤ℤ z → signed_over s z d ≡ size_tree s n e
unfolding signed_over
plus-over s (pos a) d n e p q h = rw (p, q) refl
plus-over s (negsuc a) d n e p q h = absurd (omega (arith, ints, h))

minus-over : (s : Sort) (z : ℤ) (d n e : ℕ) → n ≡ unsigned_abs z → e ≡ d → z <ℤ pos 0 → signed_over s z d ≡ negation_tree s (size_tree s n e)
unfolding signed_over
minus-over s (pos a) d n e p q h = absurd (omega (arith, ints, h))
minus-over s (negsuc a) d n e p q h = rw (p, q) refl

module _ (s : Sort) (x : Fraction) where
  pub plus-tree : (a : Size) → IsSizeOf x a → pos 0 ≤ℤ x.numerator → signed_tree s x ≡ size_tree s a.top a.bottom
  plus-tree a i h = plus-over s x.numerator x.denominator a.top a.bottom i.top i.bottom h

  pub minus-tree : (a : Size) → IsSizeOf x a → x.numerator <ℤ pos 0 → signed_tree s x ≡ negation_tree s (size_tree s a.top a.bottom)
  minus-tree a i h = minus-over s x.numerator x.denominator a.top a.bottom i.top i.bottom h

-- whole numbers

pub literal-tree : (s : Sort) (n : ℕ) → signed_tree s (size_of n 1) ≡ Lit s n
unfolding signed_over over_denominator
literal-tree s n = refl

pub whole-number : (n : ℕ) → n < 2 ^ 127 → (q : Fraction) → q ≡ record { numerator = to_z w128 n; denominator = 1 } → q ≡ size_of n 1
whole-number n h q e = e ∙ ap (λ (z : ℤ). whole_fraction z) (to_z_pos w128 n h)

pub zero-tree : (s : Sort) (x : Fraction) → IsInLowestTerms x → x.numerator ≡ pos 0 → signed_tree s x ≡ Lit s 0
zero-tree s x h e = ap₂ (signed_over s) e (zero-over x h e) ∙ literal-tree s 0

pub no-size : (z : ℤ) → unsigned_abs z ≡ 0 → z ≡ pos 0
no-size (pos n) e = ap pos e
no-size (negsuc n) e = absurd (omega (arith, e))

module _ (x y z : Fraction) (d : x.denominator ≡ 1) (e : y.denominator ≡ 1) (r : Reduces (product_of x y) z) where
  pub total-tree : (s : Sort) → signed_tree s z ≡ whole_tree s (x.numerator *ℤ y.numerator)
  total-tree s = ap (signed_tree s) (whole-product x y z d e r) ∙ signed-whole s (x.numerator *ℤ y.numerator) 1 refl

  pub total-fits : InRange z.numerator → InRange (x.numerator *ℤ y.numerator)
  total-fits h = subst (λ (w : Fraction). InRange w.numerator) (whole-product x y z d e r) h

-- the sizes of a product

pub multiply : (x y z : Fraction) (a b c : Size) → IsSizeOf x a → IsSizeOf y b → IsSizeOf z c → Reduces (product_of x y) z → Multiply a b c
multiply x y z a b c h i j r = record { sizes = rw (h.top, h.bottom, i.top, i.bottom, j.top, j.bottom) (sizes-of x y z h.lowest i.lowest r); first = h.small; second = i.small; product = j.small }

-- inverses

module _ (s : Sort) (z : Fraction) where
  plus-inverse : (w : ℤ) (d n e : ℕ) → n ≡ unsigned_abs w → e ≡ d → IsInLowestTerms (record { numerator = w; denominator = d }) → IsInverse (record { numerator = w; denominator = d }) z → pos 0 ≤ℤ w → 0 < n → signed_tree s z ≡ size_tree s e n
  unfolding signed_over
  plus-inverse (pos zero) d n e p q h i k l = absurd (omega (arith, p, l))
  plus-inverse (pos (suc a)) d n e p q h i k l = rw (p, q, inverse-size a d z h i) refl
  plus-inverse (negsuc a) d n e p q h i k l = absurd (omega (arith, ints, k))

  minus-inverse : (w : ℤ) (d n e : ℕ) → n ≡ unsigned_abs w → e ≡ d → IsInLowestTerms (record { numerator = w; denominator = d }) → IsInverse (record { numerator = w; denominator = d }) z → w <ℤ pos 0 → signed_tree s z ≡ negation_tree s (size_tree s e n)
  unfolding signed_over
  minus-inverse (pos a) d n e p q h i k = absurd (omega (arith, ints, k))
  minus-inverse (negsuc a) zero n e p q h i k = absurd (omega (arith, h.positive))
  minus-inverse (negsuc a) (suc d) n e p q h i k = rw (p, q, inverse-minus a d z h i) refl

  module _ (x : Fraction) (a : Size) (k : IsSizeOf x a) (i : IsInverse x z) where
    pub plus-inverse_tree : pos 0 ≤ℤ x.numerator → 0 < a.top → signed_tree s z ≡ size_tree s a.bottom a.top
    plus-inverse_tree h l = plus-inverse x.numerator x.denominator a.top a.bottom k.top k.bottom k.lowest i h l

    pub minus-inverse_tree : x.numerator <ℤ pos 0 → signed_tree s z ≡ negation_tree s (size_tree s a.bottom a.top)
    minus-inverse_tree h = minus-inverse x.numerator x.denominator a.top a.bottom k.top k.bottom k.lowest i h
