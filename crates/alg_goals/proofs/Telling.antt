-- The bases of a file's goals can be written as binders.
use Rattle.std.proofs.Common.{◌≡◌, ℕ, List, [], ◌∷◌, ◌++◌, length, take, Option, Some, None, Result, Ok, Err, refl, sym, ap, ◌∙◌, subst, append_assoc, append-nil, All}
use Rattle.std.specs.Prelude.{⊤}
use Rattle.std.specs.Str.{chars}
use Rattle.std.proofs.lemmas.List.{take_at}
use Rattle.std.proofs.lemmas.List.Elements.{All-nil, All-cons, All-contains}
use Rattle.alg_terms.specs.Tree.{Tree}
use Rattle.alg_expr.specs.declared.ids.Stmt.{Stmt}
use Rattle.alg_lex.specs.Items.{Item, items_from, beginning}
use Rattle.alg_law.specs.declared.declarations.Declared.{Declared}
use Rattle.alg_law.specs.Declarations.{Declaration}
use Rattle.alg_syntax.specs.declared.commands.Goal.{Goal}
use Rattle.alg_syntax.specs.declared.commands.Command as written
use Rattle.alg_syntax.specs.declared.commands.Command.TheVariants.{Import, Variable, Theorem, Example}
use Rattle.alg_names.specs.declared.scope.Scope.{Scope}
use Rattle.alg_names.specs.Entering.{entered}
use Rattle.alg_elaborate.specs.declared.causes.Cause.{Cause}
use Rattle.alg_elaborate.specs.declared.causes.Cause.TheVariants.{NameTaken}
use Rattle.alg_elaborate.specs.Faults.{first, when}
use Rattle.alg_well_sorted.proofs.Parts.{append_parts}
use Rattle.alg_commands.specs.declared.readings.Unreadable.{Unreadable}
use Rattle.alg_commands.specs.Cutting.{commands_of}
use Rattle.alg_commands.specs.Outcome.{IsOutcome}
use Rattle.alg_binders.specs.Binders.{is_among, binders_faults, declared_by_all}
use Rattle.alg_binders.specs.CommandFaults.{command_faults, goal_faults, proof_faults, declared_after}
use Rattle.alg_parse.specs.declared.file_trees.Command.{Command}
use Rattle.alg_parse.specs.declared.file_trees.Command.TheVariants as command
use Rattle.alg_parse.specs.declared.file_trees.FileTree.{FileTree}
use Rattle.alg_parse.specs.Told.{Told, declares, goal, faulty}
use Rattle.alg_parse.specs.Files.{Known, nothing, in_force, fault_in, command_told, told_where, told_of, known_where, known_after, Tell, none, more}
use Rattle.alg_parse.specs.FileTrees.{IsTold, AreTold, IsGoalIn, IsCommandIn}
use Rattle.alg_show.specs.ReadingBack.{AreDeclarable}
use Rattle.alg_goals.specs.Goals.{WasRead, IsGoalOf, HasGoal, base_in, IsDeclarableIn}
use Rattle.alg_goals.proofs.NamesRead.{AllNamed, CommandsNamed, text_named}
use Rattle.alg_goals.proofs.NamesSpelled.{BindersNamed, CommandNamed, read_named}
use Rattle.alg_goals.proofs.Declarable.{nothing_declarable, more_declarable}

-- a goal that is told has such a base, over what the file declares in all
abbrev IsDeclarableTold : List Declaration → Told → Type 0
IsDeclarableTold shared declares = ⊤
IsDeclarableTold shared (goal label line prefix local stmt calls) = AreDeclarable (take prefix shared ++ local)
IsDeclarableTold shared (faulty line cause) = ⊤

abbrev AllDeclarable : List Declaration → List Told → Type 0
AllDeclarable shared [] = ⊤
AllDeclarable shared (t ∷ told) = IsDeclarableTold shared t × AllDeclarable shared told

no_first : (causes : List Cause) → first causes ≡ None → causes ≡ []
no_first [] e = refl
no_first (cause ∷ causes) e = cc

binders_faultless : (s : Scope) (g : Goal) → goal_faults s g ≡ [] → binders_faults s g.binders ≡ []
binders_faultless s g e = (append_parts (binders_faults s g.binders) (proof_faults (entered s (declared_by_all s g.binders)) g) e).0

goal_declarable : (k : Known) (g : Goal) → AreDeclarable k.shared → BindersNamed g.binders → goal_faults (in_force k) g ≡ [] → AreDeclarable (k.shared ++ declared_by_all (in_force k) g.binders)
goal_declarable k g h n e = more_declarable k.shared g.binders h n (binders_faultless (in_force k) g e)

theorem_faultless : (k : Known) (name : List ℕ) (g : Goal) → when (is_among k.used name) NameTaken ++ goal_faults (in_force k) g ≡ [] → goal_faults (in_force k) g ≡ []
theorem_faultless k name g e = (append_parts (when (is_among k.used name) NameTaken) (goal_faults (in_force k) g) e).1

-- a command without a fault

known_by : (k : Known) (c : written.Command) → AreDeclarable k.shared → CommandNamed c → command_faults (in_force k) k.used c ≡ [] → AreDeclarable (k.shared ++ declared_after (in_force k) c)
known_by k (Import n) h i e = subst AreDeclarable (sym (append-nil k.shared)) h
known_by k (Variable bs) h i e = more_declarable k.shared bs h i e
known_by k (Theorem n g) h i e = subst AreDeclarable (sym (append-nil k.shared)) h
known_by k (Example g) h i e = subst AreDeclarable (sym (append-nil k.shared)) h

taken_here : (k : Known) (shared later locals : List Declaration) → shared ≡ k.shared ++ later → AreDeclarable (k.shared ++ locals) → AreDeclarable (take (length k.shared) shared ++ locals)
taken_here k shared later locals e h =
    subst (λ ds. AreDeclarable (ds ++ locals)) (sym (ap (λ ds. take (length k.shared) ds) e ∙ take_at k.shared later (length k.shared) refl)) h

told_by : (k : Known) (shared later : List Declaration) (line : ℕ) (c : written.Command) → shared ≡ k.shared ++ later → AreDeclarable k.shared → CommandNamed c → command_faults (in_force k) k.used c ≡ [] → IsDeclarableTold shared (command_told k line c)
told_by k shared later line (Import n) e h i f = tt
told_by k shared later line (Variable bs) e h i f = tt
told_by k shared later line (Theorem n g) e h i f = taken_here k shared later (declared_by_all (in_force k) g.binders) e (goal_declarable k g h i (theorem_faultless k n.text g f))
told_by k shared later line (Example g) e h i f = taken_here k shared later (declared_by_all (in_force k) g.binders) e (goal_declarable k g h i f)

-- a command, faulty or not

known_if : (k : Known) (c : written.Command) (o : Option Cause) → fault_in k c ≡ o → AreDeclarable k.shared → CommandNamed c → AreDeclarable (known_where o k c).shared
known_if k c (Some cause) e h i = h
known_if k c None e h i = known_by k c h i (no_first (command_faults (in_force k) k.used c) e)

told_if : (k : Known) (shared later : List Declaration) (line : ℕ) (c : written.Command) (o : Option Cause) → fault_in k c ≡ o → shared ≡ k.shared ++ later → AreDeclarable k.shared → CommandNamed c → IsDeclarableTold shared (told_where o k line c)
told_if k shared later line c (Some cause) e f h i = tt
told_if k shared later line c None e f h i = told_by k shared later line c f h i (no_first (command_faults (in_force k) k.used c) e)

known_next : (k : Known) (items : List Item) (r : Result written.Command Unreadable) → AreDeclarable k.shared → AllNamed items → IsOutcome items r → AreDeclarable (known_after k r).shared
known_next k items (Ok c) h n o = known_if k c (fault_in k c) refl h (read_named items c n o)
known_next k items (Err u) h n o = h

told_next : (k : Known) (shared later : List Declaration) (line : ℕ) (items : List Item) (r : Result written.Command Unreadable) → shared ≡ k.shared ++ later → AreDeclarable k.shared → AllNamed items → IsOutcome items r → IsDeclarableTold shared (told_of k line r)
told_next k shared later line items (Ok c) e h n o = told_if k shared later line c (fault_in k c) refl e h (read_named items c n o)
told_next k shared later line items (Err u) e h n o = tt

-- what is known grows

abbrev Grows : List Declaration → List Declaration → Type 0
Grows ds es = (later : List Declaration) × (es ≡ ds ++ later)

grown_if : (k : Known) (c : written.Command) (o : Option Cause) → Grows k.shared (known_where o k c).shared
grown_if k c (Some cause) = ([], sym (append-nil k.shared))
grown_if k c None = (_, refl)

grown_next : (k : Known) (r : Result written.Command Unreadable) → Grows k.shared (known_after k r).shared
grown_next k (Ok c) = grown_if k c (fault_in k c)
grown_next k (Err u) = ([], sym (append-nil k.shared))

grown_then : (ds es fs : List Declaration) → Grows ds es → Grows es fs → Grows ds fs
grown_then ds es fs p q = (p.0 ++ q.0, q.1 ∙ (ap (λ xs. xs ++ q.0) p.1 ∙ append_assoc ds p.0 q.0))

grown : (k : Known) (commands : List (List Item)) (told : List Told) (end : Known) → Tell k commands told end → Grows k.shared end.shared
grown _ _ _ _ (none k) = ([], sym (append-nil k.shared))
grown _ _ _ _ (more k items commands r told end o t) =
    grown_then k.shared (known_after k r.command).shared end.shared (grown_next k r.command) (grown (known_after k r.command) commands told end t)

told_all : (k : Known) (commands : List (List Item)) (told : List Told) (end : Known) → Tell k commands told end → AreDeclarable k.shared → CommandsNamed commands → AllDeclarable end.shared told
told_all _ _ _ _ (none k) h n = tt
told_all _ _ _ _ (more k items commands r told end o t) h n =
    let all = grown k (items ∷ commands) (told_of k r.line r.command ∷ told) end (more k items commands r told end o t) in (
      told_next k end.shared all.0 r.line items r.command all.1 h n.0 o.outcome,
      told_all (known_after k r.command) commands told end t (known_next k items r.command h n.0 o.outcome) n.1,
    )

-- the commands of the code

command_declarable : (ts : List Tree) (shared : List Declaration) (c : Command) (t : Told) → IsTold ts c t → IsDeclarableTold shared t → IsDeclarableIn ts shared c
command_declarable ts shared command.Declares t e h = tt
command_declarable ts shared (command.Goal label line prefix local stmt script) t e h = subst (IsDeclarableTold shared) e.2 h
command_declarable ts shared (command.Fault line cause) t e h = tt

commands_declarable : (ts : List Tree) (shared : List Declaration) (cs : List Command) (told : List Told) → AreTold ts cs told → AllDeclarable shared told → All (IsDeclarableIn ts shared) cs
commands_declarable ts shared [] told e h = All-nil (IsDeclarableIn ts shared)
commands_declarable ts shared (c ∷ cs) [] e h = absurd e
commands_declarable ts shared (c ∷ cs) (t ∷ told) e h =
    All-cons (IsDeclarableIn ts shared) c cs (command_declarable ts shared c t e.0 h.0) (commands_declarable ts shared cs told e.1 h.1)

-- a file that was read, and one of its goals

pub all_declarable : (f : FileTree) → WasRead f → All (IsDeclarableIn f.arena f.shared) f.commands
all_declarable f r =
    let read = r.read in
    let end = read.tells.end in
    let all = told_all nothing (commands_of (items_from beginning (chars r.text))) read.told end read.tells.tell nothing_declarable (text_named r.text r.utf8) in
    commands_declarable f.arena f.shared f.commands read.told read.commands_told (subst (λ ds. AllDeclarable ds read.told) (sym read.shared) all)

pub goal_in : (f : FileTree) (prefix : ℕ) (local : List Declared) (stmt : Stmt) → WasRead f → IsGoalOf f prefix local stmt → IsGoalIn f.arena f.shared prefix local stmt
goal_in f prefix local stmt r g = All-contains (IsCommandIn f.arena f.shared) f.commands (command.Goal g.label g.line prefix local stmt g.script) r.read.each g.among

pub base_declarable : (f : FileTree) (prefix : ℕ) (local : List Declared) → WasRead f → HasGoal f prefix local → AreDeclarable (base_in f prefix local)
base_declarable f prefix local r h =
    let g = h.1 in
    All-contains (IsDeclarableIn f.arena f.shared) f.commands (command.Goal g.label g.line prefix local h.0 g.script) (all_declarable f r) g.among
