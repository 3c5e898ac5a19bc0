-- The fractions that closed trees denote. None stands for a tree that isn't closed.
use Rattle.std.specs.Prelude.{ℕ, pos, Option, Some, None}
use Rattle.alg_num.specs.Fraction.{Fraction}
use Rattle.alg_num.specs.Reduced.{reduced}
use Rattle.alg_num.specs.Negative.{negative_of}
use Rattle.alg_num.specs.Sum.{sum_of}
use Rattle.alg_num.specs.Product.{product_of}
use Rattle.alg_num.specs.Power.{power_of}

abbrev pub whole : ℕ → Fraction
whole n = record { numerator = pos n; denominator = 1 }

abbrev pub sum_fraction : Option Fraction → Option Fraction → Option Fraction
sum_fraction (Some p) (Some q) = Some (reduced (sum_of p q))
sum_fraction (Some p) None = None
sum_fraction None q = None

abbrev pub negated_fraction : Option Fraction → Option Fraction
negated_fraction (Some p) = Some (reduced (negative_of p))
negated_fraction None = None

abbrev pub product_fraction : Option Fraction → Option Fraction → Option Fraction
product_fraction (Some p) (Some q) = Some (reduced (product_of p q))
product_fraction (Some p) None = None
product_fraction None q = None

abbrev pub power_fraction : Option Fraction → ℕ → Option Fraction
power_fraction (Some p) c = Some (reduced (power_of p c))
power_fraction None c = None
