-- What a procedure answers to its goal, and what its lines are worth.
use Rattle.std.specs.Prelude.{◌≡◌, ◌+◌, ◌≤◌, ◌^◌, Result, Ok, Err, ⊤}
use Rattle.alg_terms.specs.Tree.{Statement, node_count}
use Rattle.alg_expr.specs.declared.ids.Stmt.{Stmt}
use Rattle.alg_expr.specs.Ids.{statement_of, IsStatementIn}
use Rattle.alg_law.specs.WellSorted.{IsStatement}
use Rattle.alg_build.specs.declared.outcome.Back.{Back}
use Rattle.alg_build.specs.declared.outcome.Outcome.{Outcome}
use Rattle.alg_build.specs.declared.outcome.Outcome.TheVariants as outcome
use Rattle.alg_build.specs.declared.outcome.TacFault.{TacFault}
use Rattle.alg_build.specs.declared.outcome.TacFault.TheVariants as fault
use Rattle.alg_build.specs.Backs.{LeadsBack}
use Rattle.alg_build.specs.Book.{Book, Concludes}

-- the goal is closed, another is left in its place, or nothing is made of it
pub data Answer : Type 0 where
  Closes : Answer
  Leaves : Statement → Answer
  Fails : TacFault → Answer

-- the fault is the one that is answered; want of memory is free
abbrev pub FailsBy : TacFault → Answer → Type 0
FailsBy fault.WrongStructure a = a ≡ Fails fault.WrongStructure
FailsBy fault.NotThisGoal a = a ≡ Fails fault.NotThisGoal
FailsBy fault.OutOfRange a = a ≡ Fails fault.OutOfRange
FailsBy fault.TooLarge a = a ≡ Fails fault.TooLarge
FailsBy fault.SidesDiffer a = a ≡ Fails fault.SidesDiffer
FailsBy fault.NoChange a = a ≡ Fails fault.NoChange
FailsBy fault.GoalFalse a = a ≡ Fails fault.GoalFalse
FailsBy fault.SignUnknown a = a ≡ Fails fault.SignUnknown
FailsBy fault.Memory a = ⊤

-- the result is this answer; want of memory is free
abbrev pub Gives : Book → Result Outcome TacFault → Answer → Type 0
Gives b (Ok (outcome.Closed line)) a = a ≡ Closes
Gives b (Ok (outcome.Left goal back)) a = a ≡ Leaves (statement_of b.trees goal)
Gives b (Err f) a = FailsBy f a

-- a well sorted statement that isn't too large, from which lines lead back to the other
pub record IsLeft (b : Book) (goal : Stmt) (back : Back) (s : Statement) : Type 0 where
  pub here : IsStatementIn b.trees goal
  pub sorted : IsStatement b.theory.declarations (statement_of b.trees goal)
  pub small : node_count (statement_of b.trees goal).lhs + node_count (statement_of b.trees goal).rhs ≤ 2 ^ 20
  pub leads : LeadsBack b back s (statement_of b.trees goal)

-- what is closed has a line that concludes it, and what is left leads back to it
abbrev pub Leads : Book → Outcome → Statement → Type 0
Leads b (outcome.Closed line) s = Concludes b line s
Leads b (outcome.Left goal back) s = IsLeft b goal back s
