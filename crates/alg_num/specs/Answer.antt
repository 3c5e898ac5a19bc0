use Rattle.std.specs.Prelude.{Option, Some, None}
use Rattle.alg_num.specs.Fraction.{Fraction}
use Rattle.alg_num.specs.LowestTerms.{Reduces}

-- the fraction p in lowest terms where the fact holds, and `None` where it doesn't
abbrev pub ReducesIff : Option Fraction → Type 0 → Fraction → Type 0
ReducesIff (Some q) fact p = fact × Reduces p q
ReducesIff None fact p = ¬ fact
