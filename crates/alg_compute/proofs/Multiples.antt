-- The greatest common divisor as a function, and the least multiple by it.
use Rattle.std.proofs.Common.{◌≡◌, ℕ, ◌*◌, ◌/◌, arith, ap, sym, ◌∙◌, subst}
use Rattle.std.specs.Int.{IsGcd, ◌∣◌}
use Rattle.std.proofs.lemmas.Nat.Gcd.{same_from_IsGcd}
use Rattle.std.proofs.Math.Nat.{eq-zero_of_zero-dvd}
use Rattle.alg_num.specs.Reduced.{greatest_divisor}
use Rattle.alg_num.proofs.ReducedLaws.{IsGcd-greatest_divisor}
use Rattle.alg_law.specs.Computing.{least_multiple}

pub divisor_is : (a b g : ℕ) → IsGcd a b g → g ≡ greatest_divisor a b
divisor_is a b g h = same_from_IsGcd a b g (greatest_divisor a b) h (IsGcd-greatest_divisor a b)

pub multiple_by : (a b g : ℕ) → IsGcd a b g → a / g * b ≡ least_multiple a b
multiple_by a b g h = ap (λ m. a / m * b) (divisor_is a b g h)

pub no_multiple : (a b g : ℕ) → IsGcd a b g → g ≡ 0 → 0 ≡ least_multiple a b
no_multiple a b g h e =
    let z : b ≡ 0 = eq-zero_of_zero-dvd (subst (λ m. m ∣ b) e h.1) in
    let f : a / g * b ≡ 0 = ap (λ m. a / g * m) z ∙ omega arith in
    sym f ∙ multiple_by a b g h
