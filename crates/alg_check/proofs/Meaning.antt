-- What was read is what is meant.
use Rattle.std.proofs.Common.{List, ap, Ok, Err, Result}
use Rattle.alg_terms.specs.Tree.{Tree, Statement}
use Rattle.alg_expr.specs.declared.ids.Stmt.{Stmt}
use Rattle.alg_law.specs.Declarations.{Declaration}
use Rattle.alg_proof.specs.Steps.{Step}
use Rattle.alg_proof.specs.declared.lines.Line.{Line}
use Rattle.alg_certificate_lines.specs.declared.faults.LineFault.{LineFault}
use Rattle.alg_certificate_lines.specs.declared.faults.LineFault.TheVariants as fault
use Rattle.alg_certificate_lines.specs.Given.{given_read, Gives}
use Rattle.alg_certificate_lines.specs.Steps.{step_read, GivesLine}
use Rattle.alg_check.specs.Meant.{with_cause, meant, if_read, meant_statement, BuildsLine, BuildsGiven}

pub builds_line : (ds : List Declaration) (ts : List Tree) (l : Step) (r : Result Line LineFault) → GivesLine ts (step_read ds l) r → BuildsLine ds ts l r
unfolding meant
builds_line ds ts l (Ok x) h = ap with_cause h.1
builds_line ds ts l (Err fault.BadName) h = ap with_cause h
builds_line ds ts l (Err fault.BadSort) h = ap with_cause h
builds_line ds ts l (Err fault.NoInstance) h = ap with_cause h
builds_line ds ts l (Err fault.Memory) h = tt

pub builds_given : (ds : List Declaration) (ts : List Tree) (s : Statement) (r : Result Stmt LineFault) → Gives ts (given_read ds s) r → BuildsGiven ds ts s r
unfolding meant_statement
builds_given ds ts s (Ok x) h = ap if_read h.1
builds_given ds ts s (Err fault.BadName) h = ap if_read h
builds_given ds ts s (Err fault.BadSort) h = ap if_read h
builds_given ds ts s (Err fault.NoInstance) h = ap if_read h
builds_given ds ts s (Err fault.Memory) h = tt
