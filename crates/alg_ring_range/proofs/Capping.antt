-- Capped sums, products and powers are determined by their capped parts.
use Rattle.std.proofs.Common.{◌≡◌, ℕ, zero, suc, ◌+◌, ◌*◌, ◌^◌, ◌<◌, ◌≤◌, arith, refl, ap, ap₂, sym, ◌∙◌, inl, inr, Option, Some, None}
use Rattle.std.specs.Prelude.{min}
use Rattle.std.proofs.lemmas.Bool.{cases_lt}
use Rattle.std.proofs.Math.Nat.{pow-zero, pow-suc, pow-le-pow_left, pow-le-pow_right, mul-le-mul}
use Rattle.alg_ring_range.specs.Capped.{capped, capped_numeral}
use Rattle.alg_expansions.specs.Numerals.{sum_numeral, product_numeral, power_numeral}

-- the laws at any limit

cut_sum : (l a b : ℕ) → min (min a l + min b l) l ≡ min (a + b) l
cut_sum l a b = omega arith

at_least : (l a b : ℕ) → l ≤ a → l ≤ a * suc b
at_least l a b h = let m : l * 1 ≤ a * suc b = mul-le-mul h (omega arith) in omega (arith, m)

cut_factor : (l a b : ℕ) → min (min a l * b) l ≡ min (a * b) l
cut_factor l a zero = omega arith
cut_factor l a (suc b) =
    elim (cases_lt l a) [
      | inl h ↦
          let e : min a l ≡ l = omega (arith, h) in
          let p : l ≤ l * suc b = at_least l l b (omega arith) in
          let q : l ≤ a * suc b = at_least l a b (omega (arith, h)) in
          rw e (omega (arith, p, q))
      | inr h ↦ let e : min a l ≡ a = omega (arith, h) in rw e refl
    ]

cut_product : (l a b : ℕ) → min (min a l * min b l) l ≡ min (a * b) l
cut_product l a b =
    cut_factor l a (min b l)
    ∙ ap (λ x. min x l) (omega arith)
    ∙ cut_factor l b a
    ∙ ap (λ x. min x l) (omega arith)

cut_base : (l a n : ℕ) → min (min a l ^ n) l ≡ min (a ^ n) l
cut_base l a zero = rw (pow-zero (min a l), pow-zero a) refl
cut_base l a (suc n) =
    let same : min (min a l) l ≡ min a l = omega arith in
    rw (pow-suc (min a l) n, pow-suc a n)
    (sym (cut_product l (min a l ^ n) (min a l))
    ∙ ap₂ (λ x y. min (x * y) l) (cut_base l a n) same
    ∙ cut_product l (a ^ n) a)

below_power : (n : ℕ) → n < 2 ^ n
below_power zero = rw (pow-zero 2) (omega arith)
below_power (suc n) = let h = below_power n in rw (pow-suc 2 n) (omega (arith, h))

zero-pow : (n : ℕ) → 0 < n → 0 ^ n ≡ 0
zero-pow zero h = absurd (omega arith)
zero-pow (suc n) h = rw (pow-suc 0 n) (omega arith)

one-pow : (n : ℕ) → 1 ^ n ≡ 1
one-pow zero = pow-zero 1
one-pow (suc n) = let h = one-pow n in rw (pow-suc 1 n) (omega (arith, h))

past_exponent : (l a n : ℕ) → l ≤ n → min (a ^ l) l ≡ min (a ^ n) l
past_exponent zero a n h = omega arith
past_exponent (suc l) zero n h = rw (zero-pow (suc l) (omega arith), zero-pow n (omega (arith, h))) refl
past_exponent (suc l) (suc zero) n h = rw (one-pow (suc l), one-pow n) refl
past_exponent (suc l) (suc (suc a)) n h =
    let p : 2 ^ suc l ≤ suc (suc a) ^ suc l = pow-le-pow_left (omega arith) (suc l) in
    let q : suc (suc a) ^ suc l ≤ suc (suc a) ^ n = pow-le-pow_right (omega arith) h in
    let r = below_power (suc l) in
    omega (arith, p, q, r)

cut_exponent : (l a n : ℕ) → min (a ^ min n l) l ≡ min (a ^ n) l
cut_exponent l a n =
    elim (cases_lt l n) [
      | inl h ↦ let e : min n l ≡ l = omega (arith, h) in rw e (past_exponent l a n (omega (arith, h)))
      | inr h ↦ let e : min n l ≡ n = omega (arith, h) in rw e refl
    ]

cut_power : (l a n : ℕ) → min (min a l ^ min n l) l ≡ min (a ^ n) l
cut_power l a n = cut_base l a (min n l) ∙ cut_exponent l a n

-- the same at 2^126 + 1

pub capped-sum : (a b : ℕ) → capped (capped a + capped b) ≡ capped (a + b)
capped-sum a b = cut_sum (2 ^ 126 + 1) a b

pub capped-product : (a b : ℕ) → capped (capped a * capped b) ≡ capped (a * b)
capped-product a b = cut_product (2 ^ 126 + 1) a b

pub capped-factor : (a b : ℕ) → capped (capped a * b) ≡ capped (a * b)
capped-factor a b = cut_factor (2 ^ 126 + 1) a b

pub capped-power : (a n : ℕ) → capped (capped a ^ capped n) ≡ capped (a ^ n)
capped-power a n = cut_power (2 ^ 126 + 1) a n

pub capped-exponent : (a n : ℕ) → capped (a ^ capped n) ≡ capped (a ^ n)
capped-exponent a n = cut_exponent (2 ^ 126 + 1) a n

-- numerals

zero_capped : (n : ℕ) → (capped n ≡ 0) → n ≡ 0
zero_capped n h = omega (arith, h)

pub capped-sum_numeral : (m n : Option ℕ) → capped_numeral (sum_numeral (capped_numeral m) (capped_numeral n)) ≡ capped_numeral (sum_numeral m n)
capped-sum_numeral (Some m) (Some n) = ap Some (capped-sum m n)
capped-sum_numeral (Some m) None = refl
capped-sum_numeral None (Some n) = refl
capped-sum_numeral None None = refl

-- what is missing is 1 or none by the exponent, and 0 or none by the other factor

pub capped-product_numeral : (m n : Option ℕ) → capped_numeral (product_numeral (capped_numeral m) (capped_numeral n)) ≡ capped_numeral (product_numeral m n)
capped-product_numeral (Some m) (Some n) = ap Some (capped-product m n)
capped-product_numeral (Some zero) None = refl
capped-product_numeral (Some (suc m)) None = grind arith
capped-product_numeral None (Some zero) = refl
capped-product_numeral None (Some (suc n)) = grind arith
capped-product_numeral None None = refl

pub capped-power_numeral : (m : Option ℕ) (n : ℕ) → capped_numeral (power_numeral (capped_numeral m) (capped n)) ≡ capped_numeral (power_numeral m n)
capped-power_numeral (Some m) n = ap Some (capped-power m n)
capped-power_numeral None zero = refl
capped-power_numeral None (suc n) = grind arith

-- powers of small numbers, and large powers

pub small_power : (a n : ℕ) → a < 2 → (n ≡ 0 → ⊥) → a ≡ capped (a ^ n)
small_power zero n h i = rw (zero-pow n (omega (arith, i))) refl
small_power (suc zero) n h i = rw (one-pow n) refl
small_power (suc (suc a)) n h i = absurd (omega (arith, h))

pub large_power : (a n : ℕ) → 2 ≤ a → 126 < n → 2 ^ 126 + 1 ≡ capped (a ^ n)
large_power a n h i =
    let p : 2 ^ n ≤ a ^ n = pow-le-pow_left h n in
    let q : 2 ^ 127 ≤ 2 ^ n = pow-le-pow_right (omega arith) i in
    omega (arith, p, q)

pub ruleset capping = (capped-sum_numeral, capped-product_numeral, capped-power_numeral, capped-power, capped-product)
