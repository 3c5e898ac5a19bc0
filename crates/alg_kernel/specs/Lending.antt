-- Statements that are lent with their arena.
use Rattle.std.specs.Prelude.{◌≡◌, Option, Some, None}
use Rattle.alg_terms.specs.Tree.{Statement}
use Rattle.alg_expr.specs.Ids.{statement_of, IsStatementIn}
use Rattle.alg_kernel.specs.declared.proved.ProvedStmt.{ProvedStmt}

-- the statement that is lent, or none
abbrev pub IsLent : Option ProvedStmt → Option Statement → Type 0
IsLent None o = o ≡ None
IsLent (Some p) o = IsStatementIn p.arena.now p.stmt × (o ≡ Some (statement_of p.arena.now p.stmt))
