-- How a fraction in lowest terms is stored.
use Rattle.std.specs.Prelude.{◌≡◌, ℕ, suc, ◌<◌, ℤ}
use Rattle.std.proofs.Common.{arith}
use Rattle.std.specs.Coded.{Coded, code_by, coded×, coded_ℕ, coded_ℤ}
use Rattle.alg_sums.specs.Ratio.{Ratio, fraction, ratio_of, ratio_equal, value}

above : (n : ℕ) → 0 < suc n
above n = omega arith

pub stored_back : ℤ × ℕ → Ratio
stored_back p = ratio_of (record { numerator = p.0; denominator = suc p.1 }) (above p.1)

pub stored : (a : Ratio) → stored_back (a.top, a.under) ≡ a
unfolding stored_back
stored a = ratio_equal (ratio_of (fraction a) (above a.under)) a (value (fraction a) (above a.under))

abbrev pub ratio_code : Coded Ratio
ratio_code = code_by (ℤ × ℕ) (coded× coded_ℤ coded_ℕ) (λ a. (a.top, a.under)) stored_back stored
