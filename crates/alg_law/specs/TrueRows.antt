-- When a law holds at the integers.
use Rattle.std.specs.Prelude.{◌≢◌, List, map}
use Rattle.alg_terms.specs.declared.sorts.Sort.{Sort}
use Rattle.alg_terms.specs.declared.sorts.Sort.TheVariants.{Rat}
use Rattle.alg_terms.specs.Tree.{Tree}
use Rattle.alg_law.specs.Declarations.{Declaration}
use Rattle.alg_law.specs.IntegerBases.{IsIntegerBase}
use Rattle.alg_law.specs.Patterns.{fill_statement}
use Rattle.alg_law.specs.Rows.{Row, letters_of, MayFill}
use Rattle.alg_law.specs.Truth.{Holds, AllHold}
use Rattle.alg_law.specs.Valuations.{Valuation, IsValuation}

-- over each integer base and under each valuation, each instance at another sort than ℚ holds where its premises do
abbrev pub IsTrueRow : Row → Type 0
IsTrueRow r =
    (ds : List Declaration) (v : Valuation) (s : Sort) (with : List Tree) → IsIntegerBase ds → IsValuation ds v → MayFill ds r s with → s ≢ Rat
    → AllHold v (map (fill_statement (letters_of r) s with) r.premises) → Holds v (fill_statement (letters_of r) s with r.conclusion)
