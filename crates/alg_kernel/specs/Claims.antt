-- What a checked goal says.
use Rattle.std.specs.Prelude.{◌≡◌, List, Option, None, IfSome, option_map}
use Rattle.std.specs.Coded.{Coded, code_by, coded_list, coded_option, coded×}
use Rattle.alg_terms.specs.Tree.{Tree, Statement}
use Rattle.alg_terms.specs.Code.{statement_code}
use Rattle.alg_expr.specs.declared.ids.Stmt.{Stmt}
use Rattle.alg_expr.specs.Ids.{statement_of, IsStatementIn}
use Rattle.alg_law.specs.Declarations.{Declaration}
use Rattle.alg_law.specs.DeclarationCode.{declaration_code}
use Rattle.alg_law.specs.Derivations.{Derivable}
use Rattle.alg_law.specs.Truth.{HoldsAtIntegers}

-- a goal over the declarations of a base, with the given statement where there is one
pub record Claim : Type 0 where
  pub declarations : List Declaration
  pub given : Option Statement
  pub goal : Statement

-- claims are told apart by their parts
abbrev pub claim_code : Coded Claim
claim_code =
    code_by (List Declaration × (Option Statement × Statement)) (coded× (coded_list declaration_code) (coded× (coded_option statement_code) statement_code))
    (λ c. (c.declarations, (c.given, c.goal)))
    (λ p. record { declarations = p.0; given = p.1.0; goal = p.1.1 })
    (λ c i. record { declarations = c.declarations; given = c.given; goal = c.goal })

-- the claim of statements of an arena
abbrev pub claim_of : List Declaration → List Tree → Option Stmt → Stmt → Claim
claim_of ds ts given goal = record { declarations = ds; given = option_map (statement_of ts) given; goal = statement_of ts goal }

-- what was checked without a given statement holds at the integers
abbrev pub HoldsWithoutGiven : List Declaration → Option Statement → Statement → Type 0
HoldsWithoutGiven ds given goal = given ≡ None → HoldsAtIntegers ds goal

-- the statements are of this arena, and the goal is derivable by the laws, the hypotheses and the given statement
pub record IsProvedIn (ds : List Declaration) (ts : List Tree) (given : Option Stmt) (goal : Stmt) : Type 0 where
  pub given_in : IfSome given (IsStatementIn ts)
  pub goal_in : IsStatementIn ts goal
  pub derivable : Derivable ds (option_map (statement_of ts) given) (statement_of ts goal)
