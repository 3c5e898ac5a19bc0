-- When a sort has the numerals of fractions.
use Rattle.std.specs.Prelude.{◌≡◌, ℕ, zero, suc, true, ⊤}
use Rattle.alg_terms.specs.declared.sorts.Sort.{Sort}
use Rattle.alg_law.specs.declared.classes.Class.TheVariants.{Field, CharZero}
use Rattle.alg_law.specs.Having.{has_class}
use Rattle.alg_num.specs.Fraction.{Fraction}
use Rattle.alg_build.specs.Book.{Book}
use Rattle.alg_numerals.specs.Numerals.{HasSigns, HasWhole}

-- the sort has the numerals of all fractions
pub record HasQuotients (b : Book) (s : Sort) : Type 0 where
  pub signs : HasSigns b s
  pub field : has_class b.theory.declarations s Field ≡ true
  pub char_zero : has_class b.theory.declarations s CharZero ≡ true

abbrev pub QuotientsOf : Book → Sort → ℕ → Type 0
QuotientsOf b s zero = HasQuotients b s
QuotientsOf b s (suc zero) = ⊤
QuotientsOf b s (suc (suc d)) = HasQuotients b s

-- the sort has the numeral of this fraction
pub record HasFraction (b : Book) (s : Sort) (q : Fraction) : Type 0 where
  pub whole : HasWhole b s q.numerator
  pub quotients : QuotientsOf b s q.denominator
