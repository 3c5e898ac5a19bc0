-- Exponents and factors: natural numbers and integers as fractions, and their trees.
use Rattle.std.proofs.Common.{◌≡◌, ℕ, suc, ℤ, pos, negsuc, neg_ℤ, List, ◌*ℤ◌, ◌*◌, refl, ap, sym, ◌∙◌, arith}
use Rattle.std.specs.Prelude.{◌<ℤ◌, ◌≤ℤ◌, unsigned_abs}
use Rattle.std.proofs.Math.IntN.{neg_ℤ-neg_ℤ}
use Rattle.std.proofs.lemmas.Int.{ints}
use Rattle.alg_terms.specs.declared.sorts.Sort.{Sort}
use Rattle.alg_terms.specs.declared.sorts.Sort.TheVariants.{Nat, Int}
use Rattle.alg_terms.specs.Tree.{Lit}
use Rattle.alg_num.specs.Fraction.{Fraction}
use Rattle.alg_num.specs.LowestTerms.{Reduces}
use Rattle.alg_num.specs.Negative.{negative_of}
use Rattle.alg_num.specs.Product.{product_of}
use Rattle.alg_num.proofs.IntegerLaws.{neg_ℤ-*ℤ}
use Rattle.alg_num.proofs.LowestTermsLaws.{fraction_equal}
use Rattle.alg_num.proofs.WholeNumbers.{negative_lowest}
use Rattle.alg_law.specs.Declarations.{Declaration}
use Rattle.alg_rows.specs.Operations.{negation_tree}
use Rattle.alg_fraction_numbers.specs.Products.{size_of}
use Rattle.alg_fractions.specs.NumeralTree.{over_denominator, signed_over, signed_tree}
use Rattle.alg_values.specs.Arithmetic.{whole_number}
use Rattle.alg_value_laws.specs.Fitting.{Fits}
use Rattle.alg_value_laws.proofs.Fractions.{natural_fits, integer_fits}

whole_literal : (s : Sort) (n : ℕ) → signed_tree s (whole_number (pos n)) ≡ Lit s n
unfolding signed_over over_denominator
whole_literal s n = refl

whole_negation : (s : Sort) (n : ℕ) → signed_tree s (whole_number (negsuc n)) ≡ negation_tree s (Lit s (suc n))
unfolding signed_over over_denominator
whole_negation s n = refl

-- of ℕ
pub natural_is : (ds : List Declaration) (k : Fraction) → Fits ds Nat k → k ≡ size_of (unsigned_abs k.numerator) 1
natural_is ds k h = let q = natural_fits ds k h in q.1 ∙ ap (λ (x : Fraction). size_of (unsigned_abs x.numerator) 1) (sym q.1)

pub natural_tree : (ds : List Declaration) (k : Fraction) → Fits ds Nat k → signed_tree Nat k ≡ Lit Nat (unsigned_abs k.numerator)
natural_tree ds k h = ap (signed_tree Nat) (natural_is ds k h) ∙ whole_literal Nat (unsigned_abs k.numerator)

-- of ℤ, not below 0
from_zero : (z : ℤ) → pos 0 ≤ℤ z → z ≡ pos (unsigned_abs z)
from_zero (pos n) h = refl
from_zero (negsuc n) h = absurd (omega (arith, ints, h))

pub integer_is : (ds : List Declaration) (k : Fraction) → Fits ds Int k → pos 0 ≤ℤ k.numerator → k ≡ size_of (unsigned_abs k.numerator) 1
integer_is ds k h e = integer_fits ds k h ∙ ap whole_number (from_zero k.numerator e)

pub integer_tree : (ds : List Declaration) (k : Fraction) → Fits ds Int k → pos 0 ≤ℤ k.numerator → signed_tree Int k ≡ Lit Int (unsigned_abs k.numerator)
integer_tree ds k h e = ap (signed_tree Int) (integer_is ds k h e) ∙ whole_literal Int (unsigned_abs k.numerator)

-- of ℤ, below 0
below_zero : (z : ℤ) → z <ℤ pos 0 → z ≡ neg_ℤ (pos (unsigned_abs z))
below_zero (pos n) h = absurd (omega (arith, ints, h))
below_zero (negsuc n) h = refl

pub negative_is : (ds : List Declaration) (k : Fraction) → Fits ds Int k → k.numerator <ℤ pos 0 → k ≡ negative_of (size_of (unsigned_abs k.numerator) 1)
negative_is ds k h e = integer_fits ds k h ∙ ap whole_number (below_zero k.numerator e)

negative_literal : (s : Sort) (z : ℤ) → z <ℤ pos 0 → signed_tree s (whole_number z) ≡ negation_tree s (Lit s (unsigned_abs z))
negative_literal s (pos n) h = absurd (omega (arith, ints, h))
negative_literal s (negsuc n) h = whole_negation s n

pub negative_tree : (ds : List Declaration) (k : Fraction) → Fits ds Int k → k.numerator <ℤ pos 0 → signed_tree Int k ≡ negation_tree Int (Lit Int (unsigned_abs k.numerator))
negative_tree ds k h e = ap (signed_tree Int) (integer_fits ds k h) ∙ negative_literal Int k.numerator e

-- the sign of a factor is that of the product
pub negative_product : (p q z : Fraction) → Reduces (product_of (negative_of p) q) z → Reduces (product_of p q) (negative_of z)
negative_product p q z r = record {
  lowest = negative_lowest z.numerator z.denominator r.lowest;
  same =
      sym (neg_ℤ-neg_ℤ ((p.numerator *ℤ q.numerator) *ℤ pos z.denominator))
      ∙ ap neg_ℤ (sym (neg_ℤ-*ℤ (p.numerator *ℤ q.numerator) (pos z.denominator)) ∙ ap (λ x. x *ℤ pos z.denominator) (sym (neg_ℤ-*ℤ p.numerator q.numerator)) ∙ r.same)
      ∙ sym (neg_ℤ-*ℤ z.numerator (pos (p.denominator * q.denominator)));
}

pub negative_back : (z w : Fraction) → w ≡ negative_of z → negative_of w ≡ z
negative_back z w e = ap negative_of e ∙ fraction_equal (negative_of (negative_of z)) z (neg_ℤ-neg_ℤ z.numerator) refl
