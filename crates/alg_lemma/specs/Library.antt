-- When a table holds the library.
use Rattle.std.specs.Prelude.{◌≡◌, List, Some, Contains}
use Rattle.alg_law.specs.Rows.{Row}
use Rattle.alg_law.specs.Laws.{row_named}
use Rattle.alg_lemma.specs.Lemmas.{lemma_table}

-- each lemma of the library is found in it by its name
pub record HoldsLibrary (rows : List Row) : Type 0 where
  pub finds : (r : Row) → Contains lemma_table r → row_named rows r.name ≡ Some r
