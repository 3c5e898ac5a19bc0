-- Names in force, in the order in which they were declared.
use Rattle.std.specs.Prelude.{ℕ, List, [], ◌∷◌, Option, Some, None, if◌then◌else◌}
use Rattle.std.specs.Str.{bytes_eq}

-- what a name stands for
abbrev pub found : {A : Type 0} → List (List ℕ × A) → List ℕ → Option A
found [] x = None
found (d ∷ ds) x = if bytes_eq x d.0 then Some d.1 else found ds x
