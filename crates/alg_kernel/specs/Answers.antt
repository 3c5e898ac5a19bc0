-- What the kernel and its parts answer.
use Rattle.std.specs.Prelude.{◌≡◌, List, [], ◌∷◌, ◌++◌, Option, Some, None, Result, Ok, Err, All, ⊤}
use Rattle.smallvec.specs.SmallVec.{SmallVec}
use Rattle.alg_terms.specs.declared.causes.BadCause.TheVariants as cause
use Rattle.alg_terms.specs.Tree.{Tree, Statement}
use Rattle.alg_expr.specs.declared.ids.Stmt.{Stmt}
use Rattle.alg_expr.specs.Ids.{statement_of, statements_of, IsStatementIn}
use Rattle.alg_law.specs.declared.declarations.Declared.{Declared}
use Rattle.alg_law.specs.Declarations.{declaration_of, with_hypothesis}
use Rattle.alg_law.specs.declared.marks.Mark.{Mark}
use Rattle.alg_law.specs.declared.marks.Mark.TheVariants.{Good, NoInstance, BadSort, BadName}
use Rattle.alg_proof.specs.Causes.{Concludes}
use Rattle.alg_proof.specs.Valid.{Verdict, Accepted, BadAt, EndsWrong}
use Rattle.alg_kernel.specs.declared.answers.Fault.{Fault}
use Rattle.alg_kernel.specs.declared.answers.Fault.TheVariants as fault
use Rattle.alg_kernel.specs.declared.answers.Refusal.{Refusal}
use Rattle.alg_kernel.specs.declared.answers.Refusal.TheVariants as refusal

-- the answer is the verdict; want of memory says nothing
abbrev pub GivesVerdict : {T : Type 0} → Result T Refusal → Verdict → Type 0
GivesVerdict (Ok c) v = v ≡ Accepted
GivesVerdict (Err (refusal.Bad n c)) v = v ≡ BadAt n c
GivesVerdict (Err refusal.WrongEnd) v = v ≡ EndsWrong
GivesVerdict (Err refusal.Memory) v = ⊤

-- there is a verdict: no want of memory
abbrev pub IsAnswered : {T : Type 0} → Result T Refusal → Type 0
IsAnswered (Ok c) = ⊤
IsAnswered (Err (refusal.Bad n c)) = ⊤
IsAnswered (Err refusal.WrongEnd) = ⊤
IsAnswered (Err refusal.Memory) = ⊥

-- the conclusion of a good line, or the cause of a bad one; want of memory says nothing
abbrev pub IsJudged : List Tree → Result Stmt Fault → Concludes → Type 0
IsJudged ts (Ok s) r = IsStatementIn ts s × (r ≡ Ok (statement_of ts s))
IsJudged ts (Err (fault.Bad c)) r = r ≡ Err c
IsJudged ts (Err fault.Memory) r = ⊤

-- the mark is good, or this is its cause
abbrev pub IsPassed : Result (Unit {0}) Fault → Mark → Type 0
IsPassed r Good = r ≡ Ok tt
IsPassed r NoInstance = r ≡ Err (fault.Bad cause.NoInstance)
IsPassed r BadSort = r ≡ Err (fault.Bad cause.Sort)
IsPassed r BadName = r ≡ Err (fault.Bad cause.Name)

-- the statement that was looked up, or a bad reference where there is none
abbrev pub IsFound : List Tree → Result Stmt Fault → Option Statement → Type 0
IsFound ts (Ok s) o = IsStatementIn ts s × (o ≡ Some (statement_of ts s))
IsFound ts (Err f) o = (o ≡ None) × (f ≡ fault.Bad cause.Reference)

-- the statements that were looked up, or a bad reference where one isn't there; want of memory says nothing
abbrev pub AreFound : List Tree → Result (SmallVec Stmt) Fault → Option (List Statement) → Type 0
AreFound ts (Ok v) o = All (IsStatementIn ts) v.items × (o ≡ Some (statements_of ts v.items))
AreFound ts (Err (fault.Bad c)) o = (o ≡ None) × (c ≡ cause.Reference)
AreFound ts (Err fault.Memory) o = ⊤

-- the statement of a hypothesis
abbrev pub IsTold : List Tree → Option Stmt → Option Statement → Type 0
IsTold ts None o = o ≡ None
IsTold ts (Some s) o = IsStatementIn ts s × (o ≡ Some (statement_of ts s))

-- the declaration is a hypothesis with this statement, or none
abbrev pub TellsHypothesis : List Tree → Declared → Option Stmt → Type 0
TellsHypothesis ts d (Some s) = IsStatementIn ts s × ((hs : List Statement) → with_hypothesis (declaration_of ts d) hs ≡ statement_of ts s ∷ hs)
TellsHypothesis ts d None = (hs : List Statement) → with_hypothesis (declaration_of ts d) hs ≡ hs

-- the conclusion of a good line is added, and nothing after another
abbrev pub IsFed : List Tree → List Stmt → List Stmt → Result (Unit {0}) Fault → Concludes → Type 0
IsFed ts old new (Ok _) r = (s : Stmt) × (new ≡ old ++ s ∷ []) × IsStatementIn ts s × (r ≡ Ok (statement_of ts s))
IsFed ts old new (Err (fault.Bad c)) r = (new ≡ old) × (r ≡ Err c)
IsFed ts old new (Err fault.Memory) r = new ≡ old
