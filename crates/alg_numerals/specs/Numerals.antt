-- When a sort has the numerals of whole numbers, and lines that combine two trees.
use Rattle.std.specs.Prelude.{◌≡◌, ℤ, pos, negsuc, true, ⊤, Some}
use Rattle.alg_terms.specs.declared.sorts.Sort.{Sort}
use Rattle.alg_terms.specs.declared.symbols.Sym.{Sym}
use Rattle.alg_terms.specs.Tree.{Tree}
use Rattle.alg_law.specs.declared.classes.Class.TheVariants.{Semiring, AddGroup, AddCommGroup, Ring}
use Rattle.alg_law.specs.declared.marks.Mark.TheVariants.{Good}
use Rattle.alg_law.specs.Having.{has_class}
use Rattle.alg_law.specs.WellSorted.{sort_mark}
use Rattle.alg_lemma.specs.Library.{HoldsLibrary}
use Rattle.alg_build.specs.Book.{Book, Proves}
use Rattle.alg_build.specs.Rewriting.{Stands, over}
use Rattle.alg_build.specs.declared.rewriting.Rewriting.{Rewriting}
use Rattle.alg_numerals.specs.declared.combined.Combined.{Combined}

-- the sort has literals
pub record HasLiterals (b : Book) (s : Sort) : Type 0 where
  pub known : sort_mark b.theory.declarations s ≡ Good
  pub semiring : has_class b.theory.declarations s Semiring ≡ true
  pub library : HoldsLibrary b.theory.lemmas

-- the sort has negated literals too
pub record HasSigns (b : Book) (s : Sort) : Type 0 where
  pub literals : HasLiterals b s
  pub group : has_class b.theory.declarations s AddGroup ≡ true
  pub commutative : has_class b.theory.declarations s AddCommGroup ≡ true
  pub ring : has_class b.theory.declarations s Ring ≡ true

abbrev pub SignsOf : Book → Sort → ℤ → Type 0
SignsOf b s (pos n) = ⊤
SignsOf b s (negsuc n) = HasSigns b s

-- the sort has the numeral of this whole number
pub record HasWhole (b : Book) (s : Sort) (x : ℤ) : Type 0 where
  pub literals : HasLiterals b s
  pub signs : SignsOf b s x

-- the symbol over the first and the second tree equals the third, as the line concludes
pub record Combines (b : Book) (f : Sym) (s : Sort) (q : Combined) (x y z : Tree) : Type 0 where
  pub first : Stands b s q.first x
  pub second : Stands b s q.second y
  pub total : Stands b s q.total z
  pub line : Proves b q.line (over f s x y) z

-- a line that combines two trees, as a rewriting
abbrev pub of_combined : Combined → Rewriting
of_combined q = record { to = q.total; line = Some q.line }
