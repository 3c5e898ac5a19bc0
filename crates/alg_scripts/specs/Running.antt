-- Where a script stands, and what it came to.
use Rattle.std.specs.Prelude.{◌≡◌, ◌+◌, ℕ, List, [], ◌∷◌, ◌++◌, Option, None, Some, ⊤}
use Rattle.alg_terms.specs.Tree.{Statement}
use Rattle.alg_expr.specs.declared.ids.Stmt.{Stmt}
use Rattle.alg_expr.specs.Ids.{statement_of, IsStatementIn}
use Rattle.alg_expr.specs.Arena.{Extends}
use Rattle.alg_build.specs.declared.outcome.Outcome.{Outcome}
use Rattle.alg_build.specs.declared.outcome.Outcome.TheVariants as outcome
use Rattle.alg_build.specs.declared.outcome.Back.{Back}
use Rattle.alg_build.specs.Backs.{LeadAllBack}
use Rattle.alg_build.specs.Book.{Book, Concludes}
use Rattle.alg_report.specs.Judged.{Verdict, Closed, Open, Failed, Judged}
use Rattle.alg_report.specs.Certificate.{MayBeGiven}
use Rattle.alg_scripts.specs.declared.running.State.{State}
use Rattle.alg_scripts.specs.declared.running.Ending.{Ending}
use Rattle.alg_scripts.specs.declared.running.Ending.TheVariants as ending
use Rattle.alg_scripts.specs.declared.running.Ran.{Ran}

-- a step has led from the goal to where the script stands now
abbrev pub Moves : Stmt → Outcome → (old new : List Back) → State → Type 0
Moves goal (outcome.Closed line) old new s = (s ≡ record { goal = goal; closed = Some line }) × (new ≡ old)
Moves goal (outcome.Left next back) old new s = (s ≡ record { goal = next; closed = None }) × (new ≡ old ++ back ∷ [])

-- the statement that is left, where the goal isn't closed
abbrev pub left_by : Option ℕ → Statement → Option Statement
left_by None s = Some s
left_by (Some line) s = None

abbrev pub current : Book → State → Option Statement
current b s = left_by s.closed (statement_of b.trees s.goal)

-- a line closes the goal, where one is named
abbrev pub IsClosedBy : Book → Option ℕ → Statement → Type 0
IsClosedBy b None s = ⊤
IsClosedBy b (Some line) s = Concludes b line s

-- the backs lead from the goal to the first one
pub record Stands (b : Book) (state : State) (backs : List Back) (first : Statement) : Type 0 where
  pub leads : LeadAllBack b backs first (statement_of b.trees state.goal)
  pub closed : IsClosedBy b state.closed (statement_of b.trees state.goal)

-- a goal that isn't closed may be given
abbrev pub KeptBy : Book → Option ℕ → Statement → Type 0
KeptBy b None s = MayBeGiven b.theory.declarations s
KeptBy b (Some line) s = ⊤

abbrev pub IsKept : Book → State → Type 0
IsKept b s = KeptBy b s.closed (statement_of b.trees s.goal)

-- a script that ran to its end
abbrev pub verdict_by : Option Statement → Verdict
verdict_by None = Closed
verdict_by (Some s) = Open s

abbrev pub verdict_of : Book → Ending → Verdict
verdict_of b (ending.Closed line) = Closed
verdict_of b (ending.Open line goal) = Open (statement_of b.trees goal)
verdict_of b (ending.Failed step cause) = Failed step cause

abbrev pub IsEndOf : Book → Ending → Option Statement → Type 0
IsEndOf b e o = verdict_of b e ≡ verdict_by o

-- the notes and the end are these
pub record Tells (b : Book) (r : Ran) (j : Judged) : Type 0 where
  pub notes : r.notes.items ≡ j.notes
  pub verdict : verdict_of b r.ending ≡ j.verdict

-- the line concludes the first goal from nothing
pub record LeavesNone (b : Book) (line : ℕ) (first : Statement) : Type 0 where
  pub concludes : Concludes b line first
  pub given : b.theory.given ≡ None

-- the goal that is left is given, and from it the line concludes the first goal
pub record LeavesOpen (b : Book) (line : ℕ) (goal : Stmt) (first : Statement) : Type 0 where
  pub concludes : Concludes b line first
  pub here : IsStatementIn b.trees goal
  pub given : b.theory.given ≡ Some (statement_of b.trees goal)
  pub may : MayBeGiven b.theory.declarations (statement_of b.trees goal)

abbrev pub ProvesEnd : Book → Ending → (first : Statement) → Type 0
ProvesEnd b (ending.Closed line) first = LeavesNone b line first
ProvesEnd b (ending.Open line goal) first = LeavesOpen b line goal first
ProvesEnd b (ending.Failed step cause) first = ⊤

-- a book over the same declarations and lemmas, and over the same trees, with more behind them
pub record Stays (a b : Book) : Type 0 where
  pub declarations : b.theory.declarations ≡ a.theory.declarations
  pub lemmas : b.theory.lemmas ≡ a.theory.lemmas
  pub trees : Extends a.trees b.trees
