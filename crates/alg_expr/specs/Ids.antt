-- Ids and the trees that they stand for.
use Rattle.std.specs.Prelude.{◌<◌, List, length, get_or, map}
use Rattle.alg_terms.specs.declared.sorts.Sort.TheVariants.{Nat}
use Rattle.alg_terms.specs.Tree.{Tree, Lit, Statement}
use Rattle.alg_expr.specs.declared.ids.ExprId.{ExprId}
use Rattle.alg_expr.specs.declared.ids.Stmt.{Stmt}

-- the tree that an id stands for
abbrev pub tree_of : List Tree → ExprId → Tree
tree_of ts e = get_or ts e.index (Lit Nat 0)

-- the id is of this arena
abbrev pub IsIn : List Tree → ExprId → Type 0
IsIn ts e = e.index < length ts

-- the trees of a list of ids
abbrev pub trees_at : List Tree → List ExprId → List Tree
trees_at ts es = map (tree_of ts) es

-- a statement over ids, as one over trees
abbrev pub statement_of : List Tree → Stmt → Statement
statement_of ts s = record { rel = s.rel; sort = s.sort; lhs = tree_of ts s.lhs; rhs = tree_of ts s.rhs }

-- and a list of them
abbrev pub statements_of : List Tree → List Stmt → List Statement
statements_of ts ss = map (statement_of ts) ss

-- both sides are of this arena
abbrev pub IsStatementIn : List Tree → Stmt → Type 0
IsStatementIn ts s = IsIn ts s.lhs × IsIn ts s.rhs
