-- What written steps and statements are over the declarations of a goal.
use Rattle.std.specs.Prelude.{◌≡◌, List, Option, Some, None, Result, Ok, Err, ⊤}
use Rattle.alg_terms.specs.declared.causes.BadCause.{BadCause}
use Rattle.alg_terms.specs.declared.causes.BadCause.TheVariants as cause
use Rattle.alg_terms.specs.Tree.{Tree, Statement}
use Rattle.alg_expr.specs.declared.ids.Stmt.{Stmt}
use Rattle.alg_expr.specs.Ids.{statement_of}
use Rattle.alg_law.specs.Declarations.{Declaration}
use Rattle.alg_proof.specs.Steps.{Step}
use Rattle.alg_proof.specs.declared.lines.Line.{Line}
use Rattle.alg_proof.specs.Lines.{step_of}
use Rattle.alg_certificate_lines.specs.declared.faults.LineFault.{LineFault}
use Rattle.alg_certificate_lines.specs.declared.faults.LineFault.TheVariants as fault
use Rattle.alg_certificate_lines.specs.Given.{Read, given_read}
use Rattle.alg_certificate_lines.specs.Steps.{LineRead, step_read}

-- the cause in the words of proof lines; no step is read for want of memory
abbrev pub cause_of : LineFault → BadCause
cause_of fault.BadName = cause.Name
cause_of fault.BadSort = cause.Sort
cause_of fault.NoInstance = cause.NoInstance
cause_of fault.Memory = cause.Name

abbrev pub with_cause : LineRead → Result Step BadCause
with_cause (Ok l) = Ok l
with_cause (Err f) = Err (cause_of f)

-- the step with the sorts that the declarations give, or the first cause for which it is none
unfoldable pub meant : List Declaration → Step → Result Step BadCause
meant ds l = with_cause (step_read ds l)

abbrev pub if_read : Read → Option Statement
if_read (Ok s) = Some s
if_read (Err f) = None

-- the statement with the sorts that the declarations give, where it is well sorted
unfoldable pub meant_statement : List Declaration → Statement → Option Statement
meant_statement ds s = if_read (given_read ds s)

abbrev pub BuildsLine : List Declaration → List Tree → Step → Result Line LineFault → Type 0
BuildsLine ds ts l (Ok line) = meant ds l ≡ Ok (step_of ts line)
BuildsLine ds ts l (Err fault.BadName) = meant ds l ≡ Err cause.Name
BuildsLine ds ts l (Err fault.BadSort) = meant ds l ≡ Err cause.Sort
BuildsLine ds ts l (Err fault.NoInstance) = meant ds l ≡ Err cause.NoInstance
BuildsLine ds ts l (Err fault.Memory) = ⊤

abbrev pub BuildsGiven : List Declaration → List Tree → Statement → Result Stmt LineFault → Type 0
BuildsGiven ds ts s (Ok g) = meant_statement ds s ≡ Some (statement_of ts g)
BuildsGiven ds ts s (Err fault.Memory) = ⊤
BuildsGiven ds ts s (Err _) = meant_statement ds s ≡ None
