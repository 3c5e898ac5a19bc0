-- Numerals by their signs, and their order.
use Rattle.std.proofs.Common.{◌≡◌, ℕ, suc, ℤ, pos, negsuc, ◌*ℤ◌, ◌≤ℤ◌, ◌<ℤ◌, neg_ℤ, Bool, true, false, refl, ap, sym, ◌∙◌, subst, arith}
use Rattle.std.specs.Prelude.{unsigned_abs, int_lt}
use Rattle.std.proofs.Math.Bool.{cond}
use Rattle.std.specs.declared.cmp.Ordering.TheVariants.{Less, Equal, Greater}
use Rattle.std.specs.Ordering.{int_cmp, is_le}
use Rattle.std.proofs.lemmas.Bool.Decides.{nat_tests}
use Rattle.std.proofs.lemmas.Int.{ints}
use Rattle.alg_terms.specs.declared.sorts.Sort.{Sort}
use Rattle.alg_terms.specs.Tree.{Lit}
use Rattle.alg_num.specs.Fraction.{Fraction}
use Rattle.alg_num.specs.Negative.{negative_of}
use Rattle.alg_num.specs.Order.{order_of, CrossProductsInRange}
use Rattle.alg_num.specs.Range.{InRange}
use Rattle.alg_num.proofs.IntegerLaws.{*ℤ-pos_one}
use Rattle.alg_build.specs.Book.{Book}
use Rattle.alg_rows.specs.Operations.{negation_tree}
use Rattle.alg_numerals.specs.Numerals.{SignsOf}
use Rattle.alg_fractions.specs.Fractions.{HasFraction}
use Rattle.alg_fractions.specs.NumeralTree.{over_denominator, signed_over, signed_tree}
use Rattle.alg_values.specs.Arithmetic.{whole_number}
use Rattle.alg_values.specs.Functions.{absolute_of, is_at_most}

-- 0

zero-signed : (s : Sort) → signed_over s (pos 0) 1 ≡ Lit s 0
unfolding signed_over over_denominator
zero-signed s = refl

pub zero-tree : (s : Sort) (z : Fraction) → z ≡ whole_number (pos 0) → signed_tree s z ≡ Lit s 0
zero-tree s z e = ap (signed_tree s) e ∙ zero-signed s

pub zero-fraction : (b : Book) (s : Sort) (x z : Fraction) → HasFraction b s x → z ≡ whole_number (pos 0) → HasFraction b s z
zero-fraction b s x z h e = subst (HasFraction b s) (sym e) (record { whole = record { literals = h.whole.literals; signs = tt }; quotients = tt })

zero-product : (d : ℕ) → pos 0 *ℤ pos d ≡ pos 0
zero-product d = omega (arith, ints)

not_above : (p q : Bool) → q ≡ false → is_le (cond p Less (cond q Greater Equal)) ≡ true
not_above true q e = refl
not_above false q e = rw e refl

zero-below : (a : ℤ) → pos 0 ≤ℤ a → is_le (int_cmp (pos 0) a) ≡ true
zero-below (pos n) h = not_above (int_lt (pos 0) (pos n)) (int_lt (pos n) (pos 0)) (grind (arith, nat_tests))
zero-below (negsuc n) h = absurd (omega (arith, ints, h))

pub zero-at_most : (x z : Fraction) → z ≡ whole_number (pos 0) → pos 0 ≤ℤ x.numerator → is_le (order_of z x) ≡ true
zero-at_most x z e h = subst (λ (z : Fraction). is_le (order_of z x) ≡ true) (sym e) (rw (zero-product x.denominator, *ℤ-pos_one x.numerator) (zero-below x.numerator h))

pub zero-products : (x z : Fraction) → z ≡ whole_number (pos 0) → InRange x.numerator → CrossProductsInRange z x
zero-products x z e r =
    let P : ℤ → Type 0 = λ y. InRange y in
    let none : InRange (pos 0) = omega arith in
    subst (λ (z : Fraction). CrossProductsInRange z x) (sym e) (record { left = subst P (sym (zero-product x.denominator)) none; right = subst P (sym (*ℤ-pos_one x.numerator)) r })

-- below 0

minus-signed : (s : Sort) (z : ℤ) (d : ℕ) → z <ℤ pos 0 → signed_over s z d ≡ negation_tree s (signed_over s (neg_ℤ z) d)
unfolding signed_over
minus-signed s (pos n) d h = absurd (omega (arith, ints, h))
minus-signed s (negsuc n) d h = refl

pub minus-tree : (s : Sort) (x y : Fraction) → y ≡ negative_of x → x.numerator <ℤ pos 0 → signed_tree s x ≡ negation_tree s (signed_tree s y)
minus-tree s x y e h = minus-signed s x.numerator x.denominator h ∙ ap (λ (y : Fraction). negation_tree s (signed_tree s y)) (sym e)

above : (z : ℤ) → z <ℤ pos 0 → (n : ℕ) × (neg_ℤ z ≡ pos n) × (pos n ≡ pos (unsigned_abs z))
above (pos n) h = absurd (omega (arith, ints, h))
above (negsuc n) h = (suc n, refl, refl)

pub minus-at_least : (x y : Fraction) → y ≡ negative_of x → x.numerator <ℤ pos 0 → pos 0 ≤ℤ y.numerator
minus-at_least x y e h = omega (arith, ints, ap (λ (y : Fraction). y.numerator) e, h)

pub minus-absolute : (x y : Fraction) → y ≡ negative_of x → x.numerator <ℤ pos 0 → y ≡ absolute_of x
minus-absolute x y e h =
    let q = above x.numerator h in
    e ∙ (λ i. record { numerator = (q.1 ∙ q.2) i; denominator = x.denominator })

pub minus-fraction : (b : Book) (s : Sort) (x y : Fraction) → HasFraction b s x → y ≡ negative_of x → x.numerator <ℤ pos 0 → HasFraction b s y
minus-fraction b s x y w e h =
    let q = above x.numerator h in
    subst (HasFraction b s) (sym e) (record { whole = record { literals = w.whole.literals; signs = subst (SignsOf b s) (sym q.1) tt }; quotients = w.quotients })

-- not below 0

same-size : (z : ℤ) → pos 0 ≤ℤ z → z ≡ pos (unsigned_abs z)
same-size (pos n) h = refl
same-size (negsuc n) h = absurd (omega (arith, ints, h))

pub plus-absolute : (x : Fraction) → pos 0 ≤ℤ x.numerator → x ≡ absolute_of x
plus-absolute x h = λ i. record { numerator = same-size x.numerator h i; denominator = x.denominator }

pub absolute-fraction : (b : Book) (s : Sort) (x : Fraction) → HasFraction b s x → HasFraction b s (absolute_of x)
absolute-fraction b s x w = record { whole = record { literals = w.whole.literals; signs = tt }; quotients = w.quotients }

-- the other order

turned : (p q : Bool) → is_le (cond p Less (cond q Greater Equal)) ≡ false → is_le (cond q Less (cond p Greater Equal)) ≡ true
turned true q e = cc
turned false true e = refl
turned false false e = cc

pub other-order : (x y : Fraction) → is_at_most x y ≡ false → is_at_most y x ≡ true
other-order x y h =
    let a : ℤ = x.numerator *ℤ pos y.denominator in
    let b : ℤ = y.numerator *ℤ pos x.denominator in
    turned (int_lt a b) (int_lt b a) h

pub other-products : (x y : Fraction) → CrossProductsInRange x y → CrossProductsInRange y x
other-products x y r = record { left = r.right; right = r.left }
