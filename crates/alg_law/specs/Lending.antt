-- What a look at a list of declarations lends.
use Rattle.std.specs.Prelude.{◌≡◌, List, ◌∷◌, Option, Some, None}
use Rattle.alg_terms.specs.Tree.{Tree, Statement}
use Rattle.alg_expr.specs.declared.ids.Stmt.{Stmt}
use Rattle.alg_expr.specs.Ids.{statement_of, IsStatementIn}
use Rattle.alg_law.specs.declared.declarations.Declared.{Declared}
use Rattle.alg_law.specs.Declarations.{Declaration, with_hypothesis, declaration_of, IsDeclaredIn}
use Rattle.alg_law.specs.declared.lending.Lent.{Lent}
use Rattle.alg_law.specs.declared.lending.Given.{Given}

-- the declaration with the arena that its statement is of, or none
abbrev pub IsLent : Option Lent → Option Declaration → Type 0
IsLent None o = o ≡ None
IsLent (Some l) o = IsDeclaredIn l.arena.now l.declared.now × (o ≡ Some (declaration_of l.arena.now l.declared.now))

-- the statement with the arena that it is of, or none
abbrev pub IsGiven : Option Given → Option Statement → Type 0
IsGiven None o = o ≡ None
IsGiven (Some g) o = IsStatementIn g.arena.now g.stmt × (o ≡ Some (statement_of g.arena.now g.stmt))

-- the declaration is a hypothesis with this statement, or none
abbrev pub TellsHypothesis : List Tree → Declared → Option Stmt → Type 0
TellsHypothesis ts d (Some s) = IsStatementIn ts s × ((hs : List Statement) → with_hypothesis (declaration_of ts d) hs ≡ statement_of ts s ∷ hs)
TellsHypothesis ts d None = (hs : List Statement) → with_hypothesis (declaration_of ts d) hs ≡ hs
