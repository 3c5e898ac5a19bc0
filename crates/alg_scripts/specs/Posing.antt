-- A goal in a builder of its own.
use Rattle.std.specs.Prelude.{◌≡◌, List, None}
use Rattle.alg_terms.specs.Tree.{Statement}
use Rattle.alg_expr.specs.Ids.{statement_of, IsStatementIn}
use Rattle.alg_law.specs.Declarations.{Declaration}
use Rattle.alg_law.specs.WellSorted.{IsStatement}
use Rattle.alg_lemma.specs.Lemmas.{lemma_table}
use Rattle.alg_scripts.specs.declared.proving.Posed.{Posed}

-- the well sorted goal s over these declarations and the library, where nothing is given
pub record IsPosed (ds : List Declaration) (s : Statement) (p : Posed) : Type 0 where
  pub declarations : p.cx.theory.declarations ≡ ds
  pub lemmas : p.cx.theory.lemmas ≡ lemma_table
  pub given : p.cx.theory.given ≡ None
  pub here : IsStatementIn p.cx.trees p.goal
  pub statement : statement_of p.cx.trees p.goal ≡ s
  pub sorted : IsStatement p.cx.theory.declarations (statement_of p.cx.trees p.goal)
