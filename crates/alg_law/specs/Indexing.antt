-- What the indexes of shared declarations say.
use Rattle.std.specs.Prelude.{◌≡◌, ℕ, ◌+◌, ◌<◌, List, length}
use Rattle.alg_law.specs.Declarations.{Declaration}
use Rattle.alg_law.specs.Following.{IsWellFormed}
use Rattle.alg_law.specs.Places.{places_of, AreCounts}
use Rattle.alg_law.specs.Firsts.{AreFirst}

pub record IsIndexed (ds : List Declaration) (ps cs fs : List ℕ) : Type 0 where
  pub room : length ds < 4294967296
  pub well_formed : IsWellFormed ds
  pub places : ps ≡ places_of ds
  pub len : length cs ≡ length ds + 1
  pub counts : AreCounts cs ds
  pub first : AreFirst fs ds
