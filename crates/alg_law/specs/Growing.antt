-- A base to which the first of some declarations were added.
use Rattle.std.specs.Prelude.{◌≡◌, ℕ, List, ◌++◌, take}
use Rattle.alg_law.specs.Declarations.{Declaration}

pub record HasGrown (old more new : List Declaration) : Type 0 where
  pub count : ℕ
  pub grown : new ≡ old ++ take count more
