-- What the commands of a file tell, each in the declarations of those before it.
use Rattle.std.specs.Prelude.{ℕ, List, [], ◌∷◌, ◌++◌, length, Option, Some, None, Result, Ok, Err}
use Rattle.alg_lex.specs.Items.{Item}
use Rattle.alg_lex.specs.declared.LexFault.{LexFault}
use Rattle.alg_lex.specs.declared.LexFault.TheVariants as lexical
use Rattle.alg_law.specs.Declarations.{Declaration}
use Rattle.alg_syntax.specs.declared.commands.Goal.{Goal}
use Rattle.alg_syntax.specs.declared.commands.Command.{Command}
use Rattle.alg_syntax.specs.declared.commands.Command.TheVariants.{Import, Variable, Theorem, Example}
use Rattle.alg_names.specs.declared.scope.Scope.{Scope}
use Rattle.alg_names.specs.BuiltIn.{built_in}
use Rattle.alg_names.specs.Entering.{entered}
use Rattle.alg_elaborate.specs.declared.causes.Cause.{Cause}
use Rattle.alg_elaborate.specs.declared.causes.Cause.TheVariants.{Syntax, TooDeep, BadChar, OpenComment, LiteralTooWide}
use Rattle.alg_elaborate.specs.Faults.{first}
use Rattle.alg_elaborate.specs.Statements.{statement_sort, typed_statement}
use Rattle.alg_commands.specs.declared.readings.Unreadable.{Unreadable}
use Rattle.alg_commands.specs.declared.readings.Unreadable.TheVariants as unreadable
use Rattle.alg_commands.specs.declared.readings.Reading.{Reading}
use Rattle.alg_commands.specs.Outcome.{IsReading}
use Rattle.alg_binders.specs.Binders.{declared_by_all}
use Rattle.alg_binders.specs.CommandFaults.{command_faults, declared_after}
use Rattle.alg_parse.specs.Told.{Told, declares, goal, faulty, calls_of, unnamed}

-- the declarations of the commands so far, and the names of their theorems
pub record Known : Type 0 where
  pub shared : List Declaration
  pub used : List (List ℕ)

abbrev pub nothing : Known
nothing = record { shared = []; used = [] }

-- what is in force before the first command
abbrev pub at_first : Scope
at_first = record { names = built_in; granted = []; declared = 0; hypotheses = 0 }

abbrev pub in_force : Known → Scope
in_force k = entered at_first k.shared

abbrev pub lexical_cause : LexFault → Cause
lexical_cause (lexical.BadChar line) = BadChar
lexical_cause (lexical.OpenComment line) = OpenComment
lexical_cause (lexical.LiteralTooWide line) = LiteralTooWide

abbrev pub cause_of : Unreadable → Cause
cause_of (unreadable.Fault fault) = lexical_cause fault
cause_of unreadable.TooDeep = TooDeep
cause_of unreadable.Syntax = Syntax

-- a goal in the scope of its binders
abbrev pub goal_in : Scope → Known → (label : List ℕ) (line : ℕ) → Goal → Told
goal_in s k label line g = goal label line (length k.shared) (declared_by_all (in_force k) g.binders) (typed_statement s g.statement) (calls_of s (statement_sort s g.statement) g.script)

abbrev pub goal_told : Known → (label : List ℕ) (line : ℕ) → Goal → Told
goal_told k label line g = goal_in (entered (in_force k) (declared_by_all (in_force k) g.binders)) k label line g

-- what a command without a fault tells
abbrev pub command_told : Known → (line : ℕ) → Command → Told
command_told k line (Import n) = declares
command_told k line (Variable bs) = declares
command_told k line (Theorem n g) = goal_told k n.text line g
command_told k line (Example g) = goal_told k (unnamed line) line g

-- the first fault of a command that was read
abbrev pub fault_in : Known → Command → Option Cause
fault_in k c = first (command_faults (in_force k) k.used c)

abbrev pub told_where : Option Cause → Known → (line : ℕ) → Command → Told
told_where (Some cause) k line c = faulty line cause
told_where None k line c = command_told k line c

abbrev pub told_of : Known → (line : ℕ) → Result Command Unreadable → Told
told_of k line (Ok c) = told_where (fault_in k c) k line c
told_of k line (Err u) = faulty line (cause_of u)

-- the name of a theorem
abbrev pub names_used : Command → List (List ℕ)
names_used (Import n) = []
names_used (Variable bs) = []
names_used (Theorem n g) = n.text ∷ []
names_used (Example g) = []

abbrev pub known_where : Option Cause → Known → Command → Known
known_where (Some cause) k c = k
known_where None k c = record { shared = k.shared ++ declared_after (in_force k) c; used = k.used ++ names_used c }

-- what is known after a command: a faulty one declares nothing and uses no name
abbrev pub known_after : Known → Result Command Unreadable → Known
known_after k (Ok c) = known_where (fault_in k c) k c
known_after k (Err u) = k

-- The commands of a file, each as its tokens and faults, tell these in order, and leave that known.
pub data Tell : Known → List (List Item) → List Told → Known → Type 0 where
  none : (k : Known) → Tell k [] [] k
  more : (k : Known) (items : List Item) (commands : List (List Item)) (r : Reading) (told : List Told) (end : Known)
      → IsReading items r → Tell (known_after k r.command) commands told end → Tell k (items ∷ commands) (told_of k r.line r.command ∷ told) end
