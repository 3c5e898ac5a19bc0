-- An index of laws by their names.
use Rattle.std.specs.Prelude.{◌≡◌, ℕ, List, [], ◌∷◌, Option, option_map}
use Rattle.std.specs.Borrow.{Bor}
use Rattle.std.specs.Str.{bytes_eq}
use Rattle.indexmap.specs.IndexMap.{IndexMap, get_by}
use Rattle.alg_law.specs.declared.rows.Law.{Law}
use Rattle.alg_law.specs.LawRows.{row_of}
use Rattle.alg_law.specs.Laws.{row_named}
use Rattle.alg_law.specs.RowNames.{first_some}
use Rattle.alg_law.specs.Rows.{Row}

module _ {S : Type 0} where
  -- the row of the law that the index has for the name
  abbrev pub indexed : IndexMap (Bor (List ℕ)) (Bor Law) S → List ℕ → Option Row
  indexed m n = option_map (λ l. row_of l.now) (get_by (λ k. bytes_eq n k.now) m)

  -- it has for each name the first of these rows
  pub record Indexes (m : IndexMap (Bor (List ℕ)) (Bor Law) S) (rs : List Row) : Type 0 where
    pub found : (n : List ℕ) → indexed m n ≡ row_named rs n

  -- for a name that had none it has the first of these rows
  pub record AreLater (old new : IndexMap (Bor (List ℕ)) (Bor Law) S) (rs : List Row) : Type 0 where
    pub found : (n : List ℕ) → indexed new n ≡ first_some (indexed old n) (row_named rs n)

  abbrev pub IsOneLater : IndexMap (Bor (List ℕ)) (Bor Law) S → IndexMap (Bor (List ℕ)) (Bor Law) S → Row → Type 0
  IsOneLater old new r = AreLater old new (r ∷ [])
