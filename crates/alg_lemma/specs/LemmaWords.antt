-- Words in which the lemmas are written beside those of the laws.
use Rattle.alg_terms.specs.declared.relations.Rel.TheVariants.{Eq}
use Rattle.alg_law.specs.declared.patterns.PatSort.TheVariants as of
use Rattle.alg_law.specs.Patterns.{Pat, PatStatement}

-- an equation between numbers of ℕ
abbrev pub natural_equal : Pat → Pat → PatStatement
natural_equal x y = record { rel = Eq; sort = of.Nat; lhs = x; rhs = y }

-- an equation between numbers of ℤ
abbrev pub integer_equal : Pat → Pat → PatStatement
integer_equal x y = record { rel = Eq; sort = of.Int; lhs = x; rhs = y }
