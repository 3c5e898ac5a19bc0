-- Parts with their values and lines.
use Rattle.std.specs.Prelude.{ℕ, List, [], ◌∷◌}
use Rattle.alg_exts.specs.declared.num_ext.Valued.{Valued}
use Rattle.alg_evaluation.specs.declared.found.Found.{Found}

abbrev pub valued_with : List Found → List ℕ → List Valued
valued_with [] is = []
valued_with (f ∷ fs) [] = []
valued_with (f ∷ fs) (i ∷ is) = record { expr = f.expr; value = f.value; line = i } ∷ valued_with fs is
