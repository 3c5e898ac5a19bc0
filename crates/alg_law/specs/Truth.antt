-- Which statements hold when every sort is read as the integers.
use Rattle.std.specs.Prelude.{◌≡◌, ◌≢◌, ℤ, ◌<ℤ◌, ◌≤ℤ◌, unsigned_abs, List, [], ◌∷◌, ⊤, Contains}
use Rattle.std.specs.Int.{◌∣◌}
use Rattle.alg_terms.specs.declared.sorts.Sort.TheVariants.{Rat}
use Rattle.alg_terms.specs.declared.relations.Rel.{Rel}
use Rattle.alg_terms.specs.declared.relations.Rel.TheVariants.{Eq, Ne, Lt, Le, Dvd}
use Rattle.alg_terms.specs.Tree.{Statement}
use Rattle.alg_law.specs.Declarations.{Declaration, hypotheses}
use Rattle.alg_law.specs.IntegerBases.{IsIntegerBase}
use Rattle.alg_law.specs.Valuations.{Valuation, IsValuation}
use Rattle.alg_law.specs.IntegerValues.{value_of}

abbrev pub RelHolds : Rel → ℤ → ℤ → Type 0
RelHolds Eq x y = x ≡ y
RelHolds Ne x y = x ≢ y
RelHolds Lt x y = x <ℤ y
RelHolds Le x y = x ≤ℤ y
RelHolds Dvd x y = unsigned_abs x ∣ unsigned_abs y

-- the statement holds under this valuation
abbrev pub Holds : Valuation → Statement → Type 0
Holds v s = RelHolds s.rel (value_of v s.lhs) (value_of v s.rhs)

-- each of these holds
abbrev pub AllHold : Valuation → List Statement → Type 0
AllHold v [] = ⊤
AllHold v (s ∷ ss) = Holds v s × AllHold v ss

-- each hypothesis of another sort than ℚ holds
abbrev pub HypothesesHold : List Declaration → Valuation → Type 0
HypothesesHold ds v = (h : Statement) → Contains (hypotheses ds) h → h.sort ≢ Rat → Holds v h

-- over an integer base the statement, unless it is of ℚ, holds under each valuation under which the hypotheses do
abbrev pub HoldsAtIntegers : List Declaration → Statement → Type 0
HoldsAtIntegers ds s = IsIntegerBase ds → (v : Valuation) → IsValuation ds v → HypothesesHold ds v → s.sort ≢ Rat → Holds v s
