-- What is found of the sides of a goal.
use Rattle.std.specs.Prelude.{◌≡◌, Bool, true, Some}
use Rattle.alg_terms.specs.declared.sorts.Sort.{Sort}
use Rattle.alg_terms.specs.declared.symbols.Sym.{Sym}
use Rattle.alg_terms.specs.declared.relations.Rel.{Rel}
use Rattle.alg_terms.specs.Tree.{Tree}
use Rattle.alg_expr.specs.declared.ids.Stmt.{Stmt}
use Rattle.alg_expr.specs.Ids.{tree_of, statement_of, IsStatementIn}
use Rattle.alg_num.specs.Fraction.{Fraction}
use Rattle.alg_law.specs.WellSorted.{IsStatement}
use Rattle.alg_lemma.specs.Library.{HoldsLibrary}
use Rattle.alg_build.specs.Book.{Book}
use Rattle.alg_build.specs.Rewriting.{Turns}
use Rattle.alg_values.specs.Setting.{Classes}
use Rattle.alg_values.specs.Comparing.{comparison_in_range, decided}
use Rattle.alg_values.specs.Numerals.{numeral_tree, signed_tree}
use Rattle.alg_value_laws.specs.Fitting.{Fits}
use Rattle.alg_evaluation.specs.declared.found.Found.{Found}
use Rattle.alg_evaluation.specs.Found.{IsFound}

-- a well sorted goal, over a table of lemmas that holds the library
pub record IsGoal (b : Book) (g : Stmt) : Type 0 where
  pub here : IsStatementIn b.trees g
  pub sorted : IsStatement b.theory.declarations (statement_of b.trees g)
  pub lemmas : HoldsLibrary b.theory.lemmas

-- what is found of both sides
pub record AreSides (covers : Sym → Bool) (b : Book) (g : Stmt) (x y : Found) : Type 0 where
  pub goal : IsGoal b g
  pub left : IsFound covers b (tree_of b.trees g.lhs) x
  pub right : IsFound covers b (tree_of b.trees g.rhs) y

-- the tree has a value, and is rewritten to its numeral, with the sign outside and inside
pub record IsNumber (b : Book) (s : Sort) (t : Tree) (f : Found) : Type 0 where
  pub signed : Turns b s f.by t (signed_tree s f.value)
  pub shown : Turns b s f.shown t (numeral_tree s f.value)
  pub fits : Fits b.theory.declarations s f.value

-- both sides have values
pub record AreNumbers (b : Book) (g : Stmt) (x y : Found) : Type 0 where
  pub goal : IsGoal b g
  pub left : IsNumber b g.sort (tree_of b.trees g.lhs) x
  pub right : IsNumber b g.sort (tree_of b.trees g.rhs) y

-- the relation holds between two values, and their comparison is in range
pub record Holds (has : Classes) (r : Rel) (s : Sort) (p q : Fraction) : Type 0 where
  pub decided : decided has r s p q ≡ Some true
  pub range : comparison_in_range r p q ≡ true
