-- The fields of a builder as a book.
use Rattle.std.specs.Prelude.{List, All, Option, None, IfSome, option_map}
use Rattle.alg_terms.specs.Tree.{Tree}
use Rattle.alg_expr.specs.declared.ids.ExprId.{ExprId}
use Rattle.alg_expr.specs.declared.ids.Stmt.{Stmt}
use Rattle.alg_expr.specs.Ids.{statement_of, statements_of, trees_at, IsIn, IsStatementIn}
use Rattle.alg_proof.specs.declared.lines.Line.{Line}
use Rattle.alg_proof.specs.Lines.{steps_of, IsLineIn}
use Rattle.alg_proof.specs.declared.lemma_rows.LemmaRow.{LemmaRow}
use Rattle.alg_proof.specs.LemmaRows.{rows_of}
use Rattle.alg_proof.specs.Steps.{Theory}
use Rattle.alg_proof.specs.Admissible.{IsTheory}
use Rattle.alg_law.specs.Declarations.{Declaration}
use Rattle.alg_build.specs.Book.{Book}
use Rattle.alg_build.specs.Good.{AreGood}

-- lines over these declarations and lemmas; no statement is given
abbrev pub theory_over : List Declaration → List LemmaRow → Theory
theory_over ds ls = record { declarations = ds; lemmas = rows_of ls; given = None }

pub record Held : Type 0 where
  pub declarations : List Declaration
  pub lemmas : List LemmaRow
  pub trees : List Tree
  pub lines : List Line
  -- what the lines conclude
  pub done : List Stmt
  pub atoms : List ExprId
  pub given : Option Stmt

abbrev pub theory_of : Held → Theory
theory_of h = record { declarations = h.declarations; lemmas = rows_of h.lemmas; given = option_map (statement_of h.trees) h.given }

abbrev pub book_of : Held → Book
book_of h = record { theory = theory_of h; trees = h.trees; steps = steps_of h.trees h.lines; done = statements_of h.trees h.done; atoms = trees_at h.trees h.atoms }

-- the ids are of the arena, and each line is good by those before it
pub record IsSound (h : Held) : Type 0 where
  pub lines_in : All (IsLineIn h.trees) h.lines
  pub done_in : All (IsStatementIn h.trees) h.done
  pub atoms_in : All (IsIn h.trees) h.atoms
  pub given_in : IfSome h.given (IsStatementIn h.trees)
  pub theory : IsTheory (theory_of h)
  pub good : AreGood (theory_of h) (steps_of h.trees h.lines) (statements_of h.trees h.done)
