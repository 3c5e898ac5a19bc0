-- Declarations, and those that the code keeps.
use Rattle.std.specs.Prelude.{ℕ, List, [], ◌∷◌, map, ⊤}
use Rattle.alg_terms.specs.declared.sorts.Sort.{Sort}
use Rattle.alg_terms.specs.Tree.{Tree, Statement}
use Rattle.alg_expr.specs.Ids.{statement_of, IsStatementIn}
use Rattle.alg_law.specs.declared.classes.Class.{Class}
use Rattle.alg_law.specs.declared.declarations.Declared.{Declared}
use Rattle.alg_law.specs.declared.declarations.Declared.TheVariants as declared

-- a type variable, a class of one by its number, a variable with its sort, a function with its arguments' sorts and
-- its value's, or a hypothesis; names are their bytes
pub data Declaration : Type 0 where
  Carrier : List ℕ → Declaration
  Instance : ℕ → Class → Declaration
  Variable : List ℕ → Sort → Declaration
  Function : List ℕ → List Sort → Sort → Declaration
  Hypothesis : List ℕ → Statement → Declaration

-- the statement of a hypothesis before these, and nothing else
abbrev pub with_hypothesis : Declaration → List Statement → List Statement
with_hypothesis (Carrier n) hs = hs
with_hypothesis (Instance k c) hs = hs
with_hypothesis (Variable n s) hs = hs
with_hypothesis (Function n ss s) hs = hs
with_hypothesis (Hypothesis n h) hs = h ∷ hs

-- the statements of the hypotheses in order
abbrev pub hypotheses : List Declaration → List Statement
hypotheses [] = []
hypotheses (d ∷ ds) = with_hypothesis d (hypotheses ds)

-- a declaration of the code, over the trees of an arena
abbrev pub declaration_of : List Tree → Declared → Declaration
declaration_of ts (declared.Carrier n) = Carrier n
declaration_of ts (declared.Instance k c) = Instance k c
declaration_of ts (declared.Variable n s) = Variable n s
declaration_of ts (declared.Function n ss s) = Function n ss s
declaration_of ts (declared.Hypothesis n h) = Hypothesis n (statement_of ts h)

-- and a list of them
abbrev pub declarations_of : List Tree → List Declared → List Declaration
declarations_of ts ds = map (declaration_of ts) ds

-- the trees of a declaration are of this arena
abbrev pub IsDeclaredIn : List Tree → Declared → Type 0
IsDeclaredIn ts (declared.Carrier n) = ⊤
IsDeclaredIn ts (declared.Instance k c) = ⊤
IsDeclaredIn ts (declared.Variable n s) = ⊤
IsDeclaredIn ts (declared.Function n ss s) = ⊤
IsDeclaredIn ts (declared.Hypothesis n h) = IsStatementIn ts h
