-- The sides of a goal, and what they are rewritten to.
use Rattle.std.proofs.Common.{◌≡◌, refl, true}
use Rattle.alg_terms.specs.declared.relations.Rel.TheVariants.{Le}
use Rattle.alg_expr.specs.declared.ids.Stmt.{Stmt}
use Rattle.alg_expr.specs.Ids.{tree_of, statement_of, IsStatementIn}
use Rattle.alg_law.specs.declared.classes.Class.TheVariants.{LinearOrder}
use Rattle.alg_law.specs.Having.{has_class}
use Rattle.alg_law.specs.WellSorted.{IsStatement}
use Rattle.alg_law.proofs.Named.{le_refl-named}
use Rattle.alg_build.specs.Book.{Book}
use Rattle.alg_build.specs.Rewriting.{Stands}
use Rattle.alg_build.proofs.Rewritings.{endings}
use Rattle.alg_build.proofs.RowFacts.{row_facts}

module _ (b : Book) (g : Stmt) (here : IsStatementIn b.trees g) (sorted : IsStatement b.theory.declarations (statement_of b.trees g)) where
  pub left_stands : Stands b g.sort g.lhs (tree_of b.trees g.lhs)
  left_stands = record { here = here.0; tree = refl; sorted = sorted.left; sort = sorted.left_sort }

  pub right_stands : Stands b g.sort g.rhs (tree_of b.trees g.rhs)
  right_stands = record { here = here.1; tree = refl; sorted = sorted.right; sort = sorted.right_sort }

  pub is_ordered : g.rel ≡ Le → has_class b.theory.declarations g.sort LinearOrder ≡ true
  is_ordered e = rw e at sorted.related

pub ruleset end_facts = (endings, row_facts, le_refl-named, left_stands, right_stands, is_ordered)
