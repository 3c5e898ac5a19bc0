-- Rows by their names.
use Rattle.std.specs.Prelude.{◌≡◌, ℕ, Bool, true, false, ◌&&◌, List, [], ◌∷◌, Option, Some, None, Contains}
use Rattle.alg_law.specs.Rows.{Row}
use Rattle.alg_law.specs.Laws.{law_table, row_named}

abbrev pub first_some : Option Row → Option Row → Option Row
first_some None q = q
first_some (Some r) q = Some r

abbrev pub is_none : Option Row → Bool
is_none None = true
is_none (Some r) = false

-- no two rows have one name
abbrev pub are_apart : List Row → Bool
are_apart [] = true
are_apart (r ∷ rs) = is_none (row_named rs r.name) && are_apart rs

-- the law of the table with this name, or none where no law has it
pub record IsLawNamed (n : List ℕ) (found : Option Row) : Type 0 where
  pub there : (r : Row) → found ≡ Some r → Contains law_table r × (r.name ≡ n)
  pub own : (r : Row) → Contains law_table r → r.name ≡ n → found ≡ Some r
