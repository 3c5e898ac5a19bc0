-- When a relation holds between two numbers, and lines that say so.
use Rattle.std.specs.Prelude.{Bool, true, false, ℤ, ◌-ℤ◌, ⊤}
use Rattle.std.specs.declared.cmp.Ordering.{Ordering}
use Rattle.std.specs.Ordering.{is_ne, is_lt, is_le}
use Rattle.alg_terms.specs.declared.sorts.Sort.{Sort}
use Rattle.alg_terms.specs.declared.relations.Rel.{Rel}
use Rattle.alg_terms.specs.declared.relations.Rel.TheVariants.{Eq, Ne, Lt, Le, Dvd}
use Rattle.alg_terms.specs.Tree.{Tree}
use Rattle.alg_law.specs.Derivations.{related}
use Rattle.alg_num.specs.Range.{InRange}
use Rattle.alg_build.specs.Book.{Book, Concludes}
use Rattle.alg_build.specs.Rewriting.{Stands}
use Rattle.alg_numerals.specs.declared.relations.Compared.{Compared}

-- the relation is `≠`, `<` or `≤`, and allows that order
abbrev pub allows : Rel → Ordering → Bool
allows Eq o = false
allows Ne o = is_ne o
allows Lt o = is_lt o
allows Le o = is_le o
allows Dvd o = false

-- what a line on `≠` has to write beside the two numbers
abbrev pub DifferenceInRange : Rel → ℤ → ℤ → Type 0
DifferenceInRange Ne x y = InRange (x -ℤ y)
DifferenceInRange r x y = ⊤

-- the relation holds between the two trees, as the line concludes
pub record Compares (b : Book) (r : Rel) (s : Sort) (q : Compared) (x y : Tree) : Type 0 where
  pub first : Stands b s q.first x
  pub second : Stands b s q.second y
  pub line : Concludes b q.line (related r s x y)
