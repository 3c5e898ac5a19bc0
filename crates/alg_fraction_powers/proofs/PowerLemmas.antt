-- Powers of fractions as trees: numerator and denominator apart.
use Rattle.std.proofs.Common.{◌≡◌, ℕ, zero, suc, ◌<◌, ◌^◌, pos, refl, ap, ◌∙◌, arith, to_z}
use Rattle.std.specs.Int.{int_pow, w128}
use Rattle.std.proofs.Math.Nat.{pow-zero}
use Rattle.std.proofs.lemmas.Int.{to_z_pos}
use Rattle.alg_terms.specs.declared.sorts.Sort.{Sort}
use Rattle.alg_terms.specs.Tree.{Lit}
use Rattle.alg_num.specs.Fraction.{Fraction}
use Rattle.alg_num.specs.LowestTerms.{IsInLowestTerms, Reduces}
use Rattle.alg_num.specs.Power.{power_of}
use Rattle.alg_num.proofs.PowerLaws.{int_pow-zero}
use Rattle.alg_num.proofs.Powers.{one-pow}
use Rattle.alg_rows.specs.Operations.{quotient_tree}
use Rattle.alg_numerals.specs.WholeTree.{whole_tree}
use Rattle.alg_powers.proofs.PowerLemmas.{whole-literal}
use Rattle.alg_fractions.specs.NumeralTree.{numeral_tree, signed_tree}
use Rattle.alg_fractions.proofs.FractionLemmas.{fractions, signed-whole}
use Rattle.alg_fractions.proofs.SizeLemmas.{over-more}
use Rattle.alg_fraction_powers.proofs.PowerNumbers.{power-reduced, power-above-one}

-- a word below the sign bit is its number
pub word : (d : ℕ) → d < 2 ^ 127 → to_z w128 d ≡ pos d
word d h = to_z_pos w128 d h

-- the power of a whole number
pub whole-power : (s : Sort) (x z : Fraction) (n : ℕ) → x.denominator ≡ 1 → IsInLowestTerms x → Reduces (power_of x n) z → signed_tree s z ≡ whole_tree s (int_pow x.numerator n)
whole-power s x z n d l h =
    let f : z ≡ power_of x n = power-reduced x z n l h in
    signed-whole s z.numerator z.denominator (ap (λ q. q.denominator) f ∙ ap (λ q. q ^ n) d ∙ one-pow n) ∙ ap (whole_tree s) (ap (λ q. q.numerator) f)

-- the power by 0 is 1
pub zero-power : (s : Sort) (x z : Fraction) → IsInLowestTerms x → Reduces (power_of x 0) z → signed_tree s z ≡ Lit s 1
zero-power s x z l h =
    let f : z ≡ power_of x 0 = power-reduced x z 0 l h in
    let d : z.denominator ≡ 1 = ap (λ q. q.denominator) f ∙ pow-zero x.denominator in
    let n : z.numerator ≡ pos 1 = ap (λ q. q.numerator) f ∙ int_pow-zero x.numerator in
    signed-whole s z.numerator z.denominator d ∙ ap (whole_tree s) n ∙ whole-literal s 1

-- a fraction that isn't whole is a quotient, and its powers above 0 are
pub shown-quotient : (s : Sort) (x : Fraction) → (x.denominator ≡ 1 → ⊥) → numeral_tree s x ≡ quotient_tree s (whole_tree s x.numerator) (Lit s x.denominator)
shown-quotient s x h = over-more s (whole_tree s x.numerator) x.denominator h

more : (d : ℕ) → 0 < d → (d ≡ 1 → ⊥) → 1 < d
more zero h o = absurd (omega (arith, h))
more (suc zero) h o = absurd (o refl)
more (suc (suc d)) h o = omega arith

pub power-not-whole : (x z : Fraction) (n : ℕ) → IsInLowestTerms x → (x.denominator ≡ 1 → ⊥) → 0 < n → Reduces (power_of x n) z → z.denominator ≡ 1 → ⊥
power-not-whole x z n l o h r e =
    let f : z.denominator ≡ x.denominator ^ n = ap (λ q. q.denominator) (power-reduced x z n l r) in
    let p : 1 < x.denominator = more x.denominator l.positive o in
    omega (arith, power-above-one x.denominator n p h, f, e)

pub ruleset fraction_powers = (fractions)
