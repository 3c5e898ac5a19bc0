-- Which letters occur in the patterns that a list of nodes spells.
use Rattle.std.specs.Prelude.{ℕ, Bool, false, ◌||◌, List, [], ◌∷◌, take}
use Rattle.alg_law.specs.declared.patterns.Pat.{Pat as Node}
use Rattle.alg_law.specs.Patterns.{Pat, occurs}
use Rattle.alg_law.specs.LawRows.{patterns}

abbrev pub occurs_in_one : ℕ → List Pat → Bool
occurs_in_one k [] = false
occurs_in_one k (p ∷ ps) = occurs k p || occurs_in_one k ps

-- whether the letter occurs in one of the first patterns that the nodes spell, so many of them
abbrev pub occurs_early : ℕ → ℕ → List Node → Bool
occurs_early k n ns = occurs_in_one k (take n (patterns ns))
