-- Which symbols a list of extensions covers.
use Rattle.std.specs.Prelude.{◌≡◌, Bool, false, ◌&&◌, ◌||◌, List, [], ◌∷◌, length}
use Rattle.alg_terms.specs.declared.symbols.Sym.{Sym}

-- the symbols that numeral extensions cover, and those that sign extensions handle: all that an answer depends on
-- beside the goal and its declarations
pub record Cover : Type 0 where
  pub covers : Sym → Bool
  pub handles : Sym → Bool

-- an extension that is on covers it
abbrev pub covered_by : {E : Type 0} → (E → Sym → Bool) → List E → List Bool → Sym → Bool
covered_by covers [] ons f = false
covered_by covers (x ∷ xs) [] f = false
covered_by covers (x ∷ xs) (on ∷ ons) f = (on && covers x f) || covered_by covers xs ons f

-- each list of extensions has one of equal length that tells which are on
pub record IsEven {N S : Type 0} (num : List N) (num_on : List Bool) (sign : List S) (sign_on : List Bool) : Type 0 where
  pub numbers : length num_on ≡ length num
  pub signs : length sign_on ≡ length sign
