-- Lists of trees in which no tree stands twice.
use Rattle.std.specs.Prelude.{◌≡◌, List}
use Rattle.std.specs.List.{AllPairs}
use Rattle.alg_terms.specs.Tree.{Tree}

-- two trees are not the same
abbrev pub Differ : Tree → Tree → Type 0
Differ s t = s ≡ t → ⊥

-- no tree stands twice
abbrev pub AreDistinct : List Tree → Type 0
AreDistinct ts = AllPairs Differ ts
