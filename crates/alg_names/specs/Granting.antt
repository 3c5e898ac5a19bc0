-- The classes that type variables were given, as declarations, and the table that finds them.
use Rattle.std.specs.Prelude.{ℕ, ◌<◌, List, [], ◌∷◌, length, map, ◌&&◌, not, nat_lt, set, get_or, if◌then◌else◌}
use Rattle.alg_law.specs.declared.classes.Class.{Class}
use Rattle.alg_law.specs.Declarations.{Declaration, Instance}
use Rattle.alg_law.specs.Firsts.{cell, AreFirst}
use Rattle.alg_names.specs.declared.grants.Granted.{Granted}

-- the classes of the type variables, as declarations
abbrev pub instances_of : List Granted → List Declaration
instances_of gs = map (λ (g : Granted). Instance g.sort g.class) gs

-- the table tells of each class of each type variable whether the first of these gave it
pub record IsTabled (gs : List Granted) (table : List ℕ) : Type 0 where
  pub room : length gs < 4294967296
  pub first : AreFirst table (instances_of gs)

-- the table with nothing in a place that isn't earlier than `at`
abbrev pub raised : List ℕ → ℕ → ℕ → List ℕ
raised first i at = if nat_lt i (length first) && not (nat_lt (get_or first i 4294967295) at) then set first i 4294967295 else first

-- the table before item `at` gave these classes
abbrev pub forgotten : List ℕ → ℕ → List Class → ℕ → List ℕ
forgotten first k [] at = first
forgotten first k (c ∷ cs) at = forgotten (raised first (cell k c) at) k cs at
