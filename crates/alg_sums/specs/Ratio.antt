-- Fractions in lowest terms as the elements of a commutative ring.
use Rattle.std.proofs.Common.{◌≡◌, ℕ, suc, ◌*◌, ◌-◌, ◌<◌, ℤ, pos, ◌*ℤ◌, Bool, true, arith, refl, ap, sym, ◌∙◌, subst}
use Rattle.std.specs.Prelude.{unsigned_abs, ◌==◌}
use Rattle.std.specs.Int.{IsGcd}
use Rattle.std.proofs.lemmas.Nat.Gcd.{same_from_IsGcd}
use Rattle.std.proofs.Math.Bool.{Bool-set}
use Rattle.alg_num.specs.Fraction.{Fraction, IsSameValue}
use Rattle.alg_num.specs.LowestTerms.{IsInLowestTerms, Reduces}
use Rattle.alg_num.proofs.LowestTermsLaws.{lowest_terms_equal, IsSameValue-sym, IsSameValue-trans}
use Rattle.alg_num.specs.Reduced.{greatest_divisor, reduced}
use Rattle.alg_num.proofs.ReducedLaws.{IsGcd-greatest_divisor, Reduces-reduced}
use Rattle.alg_num.specs.Sum.{sum_of}
use Rattle.alg_num.specs.Product.{product_of}
use Rattle.alg_num.proofs.FractionLaws.{sum_of-comm, sum_of-assoc, sum_of-same, product_of-same, product_of-sum_of}

-- whether the numbers are coprime
abbrev pub are_coprime : ℤ → ℕ → Bool
are_coprime n d = greatest_divisor (unsigned_abs n) d == 1

-- top / (under + 1)
pub record Ratio : Type 0 where
  pub top : ℤ
  pub under : ℕ
  pub coprime : are_coprime top (suc under) ≡ true

abbrev pub fraction : Ratio → Fraction
fraction a = record { numerator = a.top; denominator = suc a.under }

pub one_by : (n : ℕ) → (n == 1) ≡ true → n ≡ 1
one_by n e = grind (arith, e)

pub by_one : (n : ℕ) → n ≡ 1 → (n == 1) ≡ true
by_one n e = rw e refl

pub lowest : (a : Ratio) → IsInLowestTerms (fraction a)
lowest a = record {
  positive = omega arith;
  coprime = subst (λ g. IsGcd (unsigned_abs a.top) (suc a.under) g) (one_by _ a.coprime) (IsGcd-greatest_divisor (unsigned_abs a.top) (suc a.under));
}

pub coprime_of : (n : ℤ) (d : ℕ) → IsInLowestTerms (record { numerator = n; denominator = d }) → are_coprime n d ≡ true
coprime_of n d h = by_one _ (same_from_IsGcd (unsigned_abs n) d _ 1 (IsGcd-greatest_divisor (unsigned_abs n) d) h.coprime)

pub same_ratio : (n : ℤ) (d : ℕ) (e f : are_coprime n (suc d) ≡ true) → ◌≡◌ {A = Ratio} (record { top = n; under = d; coprime = e }) (record { top = n; under = d; coprime = f })
same_ratio n d e f = ap (λ (g : are_coprime n (suc d) ≡ true). let x : Ratio = record { top = n; under = d; coprime = g } in x) (Bool-set _ _ e f)

pub ratio_by : (n m : ℤ) (d k : ℕ) (e : are_coprime n (suc d) ≡ true) (f : are_coprime m (suc k) ≡ true) → n ≡ m → d ≡ k → ◌≡◌ {A = Ratio} (record { top = n; under = d; coprime = e }) (record { top = m; under = k; coprime = f })
ratio_by n m d k e f p q =
    let P : ℤ → Type 0 = λ z. (h : are_coprime z (suc d) ≡ true) → ◌≡◌ {A = Ratio} (record { top = n; under = d; coprime = e }) (record { top = z; under = d; coprime = h }) in
    let Q : ℕ → Type 0 = λ l. (h : are_coprime m (suc l) ≡ true) → ◌≡◌ {A = Ratio} (record { top = n; under = d; coprime = e }) (record { top = m; under = l; coprime = h }) in
    subst Q q (subst P p (same_ratio n d e)) f

-- ratios of one value are equal
pub ratio_equal : (a b : Ratio) → IsSameValue (fraction a) (fraction b) → a ≡ b
ratio_equal a b e =
    let h = lowest_terms_equal (fraction a) (fraction b) (lowest a) (lowest b) e in
    ratio_by a.top b.top a.under b.under a.coprime b.coprime (ap (λ (x : Fraction). x.numerator) h) (let k : suc a.under ≡ suc b.under = ap (λ (x : Fraction). x.denominator) h in omega (arith, k))

-- a fraction with a denominator above 0 as a ratio
pub ratio_of : (p : Fraction) → 0 < p.denominator → Ratio
ratio_of p h =
    let l = (Reduces-reduced p h).lowest in
    let e : suc ((reduced p).denominator - 1) ≡ (reduced p).denominator = omega (arith, l.positive) in
    record {
      top = (reduced p).numerator;
      under = (reduced p).denominator - 1;
      coprime = ap (λ d. are_coprime (reduced p).numerator d) e ∙ coprime_of (reduced p).numerator (reduced p).denominator l;
    }

pub value : (p : Fraction) (h : 0 < p.denominator) → IsSameValue (fraction (ratio_of p h)) p
unfolding ratio_of
value p h =
    let r = Reduces-reduced p h in
    let e : suc ((reduced p).denominator - 1) ≡ (reduced p).denominator = omega (arith, r.lowest.positive) in
    sym r.same ∙ ap (λ d. p.numerator *ℤ pos d) (sym e)

pub product_positive : (a b : ℕ) → 0 < suc a * suc b
product_positive a b = omega arith

pub plus : Ratio → Ratio → Ratio
plus a b = ratio_of (sum_of (fraction a) (fraction b)) (product_positive a.under b.under)

pub times : Ratio → Ratio → Ratio
times a b = ratio_of (product_of (fraction a) (fraction b)) (product_positive a.under b.under)

pub plus-value : (a b : Ratio) → IsSameValue (fraction (plus a b)) (sum_of (fraction a) (fraction b))
unfolding plus
plus-value a b = value (sum_of (fraction a) (fraction b)) (product_positive a.under b.under)

pub times-value : (a b : Ratio) → IsSameValue (fraction (times a b)) (product_of (fraction a) (fraction b))
unfolding times
times-value a b = value (product_of (fraction a) (fraction b)) (product_positive a.under b.under)

pub plus_comm : (a b : Ratio) → plus a b ≡ plus b a
plus_comm a b =
    ratio_equal (plus a b) (plus b a)
    (IsSameValue-trans (fraction (plus a b)) (sum_of (fraction a) (fraction b)) (fraction (plus b a)) (product_positive a.under b.under) (plus-value a b)
    (let s = plus-value b a in subst (λ p. IsSameValue p (fraction (plus b a))) (sum_of-comm (fraction b) (fraction a)) (IsSameValue-sym (fraction (plus b a)) (sum_of (fraction b) (fraction a)) s)))

plus_left_value : (a b c : Ratio) → IsSameValue (fraction (plus (plus a b) c)) (sum_of (sum_of (fraction a) (fraction b)) (fraction c))
plus_left_value a b c =
    IsSameValue-trans (fraction (plus (plus a b) c)) (sum_of (fraction (plus a b)) (fraction c)) (sum_of (sum_of (fraction a) (fraction b)) (fraction c)) (product_positive (plus a b).under c.under)
    (plus-value (plus a b) c)
    (sum_of-same (fraction (plus a b)) (sum_of (fraction a) (fraction b)) (fraction c) (fraction c) (plus-value a b) refl)

plus_right_value : (a b c : Ratio) → IsSameValue (fraction (plus a (plus b c))) (sum_of (fraction a) (sum_of (fraction b) (fraction c)))
plus_right_value a b c =
    IsSameValue-trans (fraction (plus a (plus b c))) (sum_of (fraction a) (fraction (plus b c))) (sum_of (fraction a) (sum_of (fraction b) (fraction c))) (product_positive a.under (plus b c).under)
    (plus-value a (plus b c))
    (sum_of-same (fraction a) (fraction a) (fraction (plus b c)) (sum_of (fraction b) (fraction c)) refl (plus-value b c))

pub three_positive : (a b c : ℕ) → 0 < suc a * (suc b * suc c)
three_positive a b c = omega arith

pub plus_assoc : (a b c : Ratio) → plus (plus a b) c ≡ plus a (plus b c)
plus_assoc a b c =
    ratio_equal (plus (plus a b) c) (plus a (plus b c))
    (IsSameValue-trans (fraction (plus (plus a b) c)) (sum_of (fraction a) (sum_of (fraction b) (fraction c))) (fraction (plus a (plus b c))) (three_positive a.under b.under c.under)
    (subst (λ p. IsSameValue (fraction (plus (plus a b) c)) p) (sum_of-assoc (fraction a) (fraction b) (fraction c)) (plus_left_value a b c))
    (IsSameValue-sym (fraction (plus a (plus b c))) (sum_of (fraction a) (sum_of (fraction b) (fraction c))) (plus_right_value a b c)))

product_positive_of : (a b c : ℕ) → 0 < (suc a * suc b) * (suc a * suc c)
product_positive_of a b c = omega arith

pub times_plus : (a b c : Ratio) → times a (plus b c) ≡ plus (times a b) (times a c)
times_plus a b c =
    let left =
    IsSameValue-trans (fraction (times a (plus b c))) (product_of (fraction a) (fraction (plus b c))) (product_of (fraction a) (sum_of (fraction b) (fraction c))) (product_positive a.under (plus b c).under)
    (times-value a (plus b c))
    (product_of-same (fraction a) (fraction a) (fraction (plus b c)) (sum_of (fraction b) (fraction c)) refl (plus-value b c)) in
    let right =
    IsSameValue-trans (fraction (plus (times a b) (times a c))) (sum_of (fraction (times a b)) (fraction (times a c))) (sum_of (product_of (fraction a) (fraction b)) (product_of (fraction a) (fraction c))) (product_positive (times a b).under (times a c).under)
    (plus-value (times a b) (times a c))
    (sum_of-same (fraction (times a b)) (product_of (fraction a) (fraction b)) (fraction (times a c)) (product_of (fraction a) (fraction c)) (times-value a b) (times-value a c)) in
    ratio_equal (times a (plus b c)) (plus (times a b) (times a c))
    (IsSameValue-trans (fraction (times a (plus b c))) (product_of (fraction a) (sum_of (fraction b) (fraction c))) (fraction (plus (times a b) (times a c))) (three_positive a.under b.under c.under) left
    (IsSameValue-trans (product_of (fraction a) (sum_of (fraction b) (fraction c))) (sum_of (product_of (fraction a) (fraction b)) (product_of (fraction a) (fraction c))) (fraction (plus (times a b) (times a c))) (product_positive_of a.under b.under c.under)
    (product_of-sum_of (fraction a) (fraction b) (fraction c))
    (IsSameValue-sym (fraction (plus (times a b) (times a c))) (sum_of (product_of (fraction a) (fraction b)) (product_of (fraction a) (fraction c))) right)))
