-- What the script of a goal is over the goal's base.
use Rattle.std.specs.Prelude.{◌≤◌, List, ◌++◌, length, take, All, ⊤}
use Rattle.alg_terms.specs.declared.sorts.Sort.{Sort}
use Rattle.alg_law.specs.Combinations.{IsCombination}
use Rattle.alg_law.specs.Declarations.{Declaration}
use Rattle.alg_parse.specs.Told.{Told, declares, goal, faulty, Call, plain, combination}

-- a combination on a goal of the sort k has parts of that sort over these declarations, and comes to two trees
abbrev pub CallFits : List Declaration → Sort → Call → Type 0
CallFits ds k (plain p) = ⊤
CallFits ds k (combination xs) = IsCombination ds k xs

-- the calls of a goal fit its base and its sort
abbrev pub ToldFits : List Declaration → Told → Type 0
ToldFits shared declares = ⊤
ToldFits shared (goal label line prefix ds p calls) = (prefix ≤ length shared) × All (CallFits (take prefix shared ++ ds) p.sort) calls
ToldFits shared (faulty line cause) = ⊤
