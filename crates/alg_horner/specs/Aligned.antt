use Rattle.alg_horner.specs.Form.{Form}
use Rattle.alg_sums.specs.Ratio.{Ratio}
use Rattle.alg_sums.specs.Rational.{rational}
use Rattle.alg_horner.specs.Adding.{IsConstants, IsUnder, IsBeside, IsNodes}
use Rattle.alg_horner.specs.declared.add.Aligned.{Aligned}
use Rattle.alg_horner.specs.declared.add.Aligned.TheVariants.{Constants, Under, Beside, Nodes}

abbrev pub IsAligned : {C : Type 0} → (C → Ratio) → Form Ratio → Form Ratio → Aligned C → Type 0
IsAligned v f g (Constants c d) = IsConstants rational f g (v c) (v d)
IsAligned v f g (Under k f' g') = IsUnder rational f g k f' g'
IsAligned v f g (Beside p i q t) = IsBeside rational f g p i q t
IsAligned v f g (Nodes p s i q t) = IsNodes rational f g p s i q t
