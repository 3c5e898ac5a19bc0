-- Where tokens stand in their source.
use Rattle.std.specs.Prelude.{◌≡◌, ℕ, ◌+◌, ◌≤◌, nat_lt, List, [], ◌∷◌, length, take, drop}
use Rattle.alg_lex.specs.Items.{Place, Item, token, fault, line_feeds}

-- The text stands in the source at its place, behind what ends at the offset `from`.
pub record IsSlice (source : List ℕ) (from : ℕ) (text : List ℕ) (p : Place) : Type 0 where
  pub in_order : from ≤ p.at
  pub slice : take (length text) (drop p.at source) ≡ text
  pub line : p.line ≡ 1 + line_feeds (take p.at source)
  pub fresh : p.fresh ≡ nat_lt 0 (line_feeds (drop from (take p.at source)))

-- The tokens' texts are slices of the source, one behind the other, from this offset on.
abbrev pub AreSlices : (source : List ℕ) → (from : ℕ) → List Item → Type 0
AreSlices source from [] = Unit {0}
AreSlices source from (token kind text p ∷ items) = IsSlice source from text p × AreSlices source (p.at + length text) items
AreSlices source from (fault cause ∷ items) = AreSlices source from items
