-- Laws of the sum and the product of fractions. Before they are reduced, both are commutative and associative, and depend on the values alone; the product distributes over the sum up to the value.
use Rattle.std.proofs.Common.{◌≡◌, ℕ, ◌*◌, ℤ, pos, ◌+ℤ◌, ◌*ℤ◌, arith, ap₂, sym, ◌∙◌}
use Rattle.std.proofs.Math.IntN.{*ℤ_comm, +ℤ_comm}
use Rattle.alg_num.proofs.IntegerLaws.{as_difference, differences, difference-same, *ℤ_swap_middle, *ℤ_assoc}
use Rattle.alg_num.specs.Fraction.{Fraction, IsSameValue}
use Rattle.alg_num.proofs.LowestTermsLaws.{fraction_equal}
use Rattle.alg_num.specs.Sum.{sum_of}
use Rattle.alg_num.specs.Product.{product_of}

pub sum_of-comm : (p q : Fraction) → sum_of p q ≡ sum_of q p
sum_of-comm p q = fraction_equal (sum_of p q) (sum_of q p) (+ℤ_comm (p.numerator *ℤ pos q.denominator) (q.numerator *ℤ pos p.denominator)) (omega arith)

numerators_assoc : (a b c : ℤ) (d e f : ℕ) → (a *ℤ pos e +ℤ b *ℤ pos d) *ℤ pos f +ℤ c *ℤ pos (d * e) ≡ a *ℤ pos (e * f) +ℤ (b *ℤ pos f +ℤ c *ℤ pos e) *ℤ pos d
numerators_assoc a b c d e f = rw (as_difference a, as_difference b, as_difference c) (simp differences (difference-same _ _ _ _ (omega arith)))

pub sum_of-assoc : (p q r : Fraction) → sum_of (sum_of p q) r ≡ sum_of p (sum_of q r)
sum_of-assoc p q r = fraction_equal (sum_of (sum_of p q) r) (sum_of p (sum_of q r)) (numerators_assoc p.numerator q.numerator r.numerator p.denominator q.denominator r.denominator) (omega arith)

pub product_of-comm : (p q : Fraction) → product_of p q ≡ product_of q p
product_of-comm p q = fraction_equal (product_of p q) (product_of q p) (*ℤ_comm p.numerator q.numerator) (omega arith)

pub product_of-assoc : (p q r : Fraction) → product_of (product_of p q) r ≡ product_of p (product_of q r)
product_of-assoc p q r = fraction_equal (product_of (product_of p q) r) (product_of p (product_of q r)) (*ℤ_assoc p.numerator q.numerator r.numerator) (omega arith)

numerators_distribute : (a b c : ℤ) (d e f : ℕ) → (a *ℤ (b *ℤ pos f +ℤ c *ℤ pos e)) *ℤ pos ((d * e) * (d * f)) ≡ ((a *ℤ b) *ℤ pos (d * f) +ℤ (a *ℤ c) *ℤ pos (d * e)) *ℤ pos (d * (e * f))
numerators_distribute a b c d e f = rw (as_difference a, as_difference b, as_difference c) (simp differences (difference-same _ _ _ _ (omega arith)))

pub product_of-sum_of : (p q r : Fraction) → IsSameValue (product_of p (sum_of q r)) (sum_of (product_of p q) (product_of p r))
product_of-sum_of p q r = numerators_distribute p.numerator q.numerator r.numerator p.denominator q.denominator r.denominator

spread : (a b : ℤ) (d e d' e' : ℕ) → (a *ℤ pos e +ℤ b *ℤ pos d) *ℤ pos (d' * e') ≡ (a *ℤ pos d') *ℤ pos (e * e') +ℤ (b *ℤ pos e') *ℤ pos (d * d')
spread a b d e d' e' = rw (as_difference a, as_difference b) (simp differences (difference-same _ _ _ _ (omega arith)))

swapped : (x y : ℤ) (d e d' e' : ℕ) → x *ℤ pos (e * e') +ℤ y *ℤ pos (d * d') ≡ x *ℤ pos (e' * e) +ℤ y *ℤ pos (d' * d)
swapped x y d e d' e' = ap₂ (λ m n. x *ℤ pos m +ℤ y *ℤ pos n) (omega arith) (omega arith)

pub sum_of-same : (p p' q q' : Fraction) → IsSameValue p p' → IsSameValue q q' → IsSameValue (sum_of p q) (sum_of p' q')
sum_of-same p p' q q' h i =
    spread p.numerator q.numerator p.denominator q.denominator p'.denominator q'.denominator
    ∙ ap₂ (λ x y. x *ℤ pos (q.denominator * q'.denominator) +ℤ y *ℤ pos (p.denominator * p'.denominator)) h i
    ∙ swapped (p'.numerator *ℤ pos p.denominator) (q'.numerator *ℤ pos q.denominator) p.denominator q.denominator p'.denominator q'.denominator
    ∙ sym (spread p'.numerator q'.numerator p'.denominator q'.denominator p.denominator q.denominator)

pub product_of-same : (p p' q q' : Fraction) → IsSameValue p p' → IsSameValue q q' → IsSameValue (product_of p q) (product_of p' q')
product_of-same p p' q q' h i =
    *ℤ_swap_middle p.numerator q.numerator (pos p'.denominator) (pos q'.denominator)
    ∙ ap₂ (λ x y. x *ℤ y) h i
    ∙ *ℤ_swap_middle p'.numerator (pos p.denominator) q'.numerator (pos q.denominator)
