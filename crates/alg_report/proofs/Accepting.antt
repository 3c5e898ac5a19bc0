-- A certificate for a file certifies its goals to the check.
use Rattle.std.proofs.Common.{◌≡◌, ℕ, ◌+◌, ◌<◌, ◌≤◌, ◌^◌, List, [], ◌∷◌, ◌++◌, length, take, Some, None, codes, refl, ap, sym, ◌∙◌, subst, arith, add-one, append_assoc, slice_get, length-append}
use Rattle.std.specs.Prelude.{⊤, All, Option, IfSome, if◌then◌else◌}
use Rattle.std.proofs.lemmas.Bool.{le-leb}
use Rattle.std.specs.List.{flat_map}
use Rattle.std.proofs.lemmas.List.{length-take, length-map}
use Rattle.std.proofs.lemmas.List.Elements.{All-nil, All-cons, All-head, All-tail}
use Rattle.alg_terms.specs.Tree.{Tree, Statement, node_count}
use Rattle.alg_law.specs.Declarations.{Declaration, declaration_of, declarations_of}
use Rattle.alg_law.specs.WellSorted.{IsStatement}
use Rattle.alg_proof.specs.Causes.{line_at}
use Rattle.alg_proof.specs.Steps.{Step}
use Rattle.alg_lemma.specs.Lemmas.{lemma_table}
use Rattle.alg_parse.specs.Told.{Told}
use Rattle.alg_parse.specs.Told as parsed
use Rattle.alg_parse.specs.FileTrees.{IsGoalIn, IsCommandIn, IsRead}
use Rattle.alg_parse.specs.declared.file_trees.Command.{Command}
use Rattle.alg_parse.specs.declared.file_trees.Command.TheVariants as command
use Rattle.alg_parse.specs.declared.file_trees.FileTree.{FileTree}
use Rattle.alg_certificate.specs.Spelling.{step_bytes, given_bytes, goal_bytes}
use Rattle.alg_certificate.specs.Reader.{TextLine, end_line, Coming, coming_of}
use Rattle.alg_certificate.specs.Grammar.{header}
use Rattle.alg_certificate.proofs.WrittenLines.{lines_bytes}
use Rattle.alg_certificate_lines.proofs.ReadBackLaws.{statement_back}
use Rattle.alg_check.specs.Certified.{IsMeantGiven, Proves, Certify}
use Rattle.alg_check.proofs.CertifiedLaws.{none_refused}
use Rattle.alg_check.specs.Judging.{if_small}
use Rattle.alg_check.specs.Meant.{if_read, meant_statement}
use Rattle.alg_check.specs.Entries.{Entry, given_lines, proof_lines, lines_of, AreEntriesOf}
use Rattle.alg_check.specs.Findings.{findings, tally_of}
use Rattle.alg_check.specs.Goals.{Goal, goals_in, goals_of}
use Rattle.alg_check.proofs.GoalLaws.{goals_seen-told}
use Rattle.alg_check.proofs.MeantLaws.{valid_meant}
use Rattle.alg_check.proofs.WrittenEntries.{IsWritable, entries_come, entries_are}
use Rattle.alg_steps.specs.Stepped.{Steps}
use Rattle.alg_report.specs.Judged.{Verdict, Closed, Open, Failed, judged_of}
use Rattle.alg_report.specs.Report.{findings_of}
use Rattle.alg_report.specs.Certificate.{step_lines, given_line, entry_bytes, theory_for, MayBeGiven, IsEntry, claims, claim_by, IsEntryOf, AreEntries, IsCertificate}

-- a goal's declarations have numbers that are kept
abbrev pub HaveRoom : List Goal → Type 0
HaveRoom [] = ⊤
HaveRoom (g ∷ gs) = (length g.declarations ≤ 2 ^ 32) × HaveRoom gs

-- the lines of a certificate are those of entries that certify the goals
pub record Certifying (shared : List Declaration) (told : List Told) (bytes : List ℕ) : Type 0 where
  pub entries : List Entry
  pub are : AreEntriesOf (coming_of bytes).lines entries
  pub whole : (coming_of bytes).fault ≡ None
  pub certify : Certify lemma_table (goals_of shared told) 0 entries

-- the bytes of an entry are those of its lines

proof_text : (ls : List Step) (more : List TextLine) → step_lines ls ++ (codes "end\n" ++ lines_bytes more) ≡ lines_bytes ((proof_lines ls ++ end_line ∷ []) ++ more)
proof_text [] more = refl
proof_text (l ∷ ls) more = append_assoc (step_bytes l) (10 ∷ step_lines ls) (codes "end\n" ++ lines_bytes more) ∙ ap (λ x. step_bytes l ++ (10 ∷ x)) (proof_text ls more)

ended_text : (ls : List Step) (more : List TextLine) → (step_lines ls ++ codes "end\n") ++ lines_bytes more ≡ lines_bytes ((proof_lines ls ++ end_line ∷ []) ++ more)
ended_text ls more = append_assoc (step_lines ls) (codes "end\n") (lines_bytes more) ∙ proof_text ls more

given_text : (given : Option Statement) (ls : List Step) (more : List TextLine) → (given_line given ++ (step_lines ls ++ codes "end\n")) ++ lines_bytes more ≡ lines_bytes ((given_lines given ++ (proof_lines ls ++ end_line ∷ [])) ++ more)
given_text None ls more = ended_text ls more
given_text (Some s) ls more =
    append_assoc (given_bytes s ++ (10 ∷ [])) (step_lines ls ++ codes "end\n") (lines_bytes more)
    ∙ (append_assoc (given_bytes s) (10 ∷ []) ((step_lines ls ++ codes "end\n") ++ lines_bytes more) ∙ ap (λ x. given_bytes s ++ (10 ∷ x)) (ended_text ls more))

entry_text : (e : Entry) (more : List TextLine) → entry_bytes e.number e.given e.steps ++ lines_bytes more ≡ lines_bytes (lines_of e ++ more)
entry_text e more =
    append_assoc (goal_bytes e.number) (10 ∷ (given_line e.given ++ (step_lines e.steps ++ codes "end\n"))) (lines_bytes more)
    ∙ ap (λ x. goal_bytes e.number ++ (10 ∷ x)) (given_text e.given e.steps more)

-- the goal of this number

got : (passed more : List Goal) (g : Goal) → slice_get (passed ++ g ∷ more) (length passed) ≡ Some g
got [] more g = refl
got (p ∷ ps) more g = got ps more g

goal_there : (gs passed more : List Goal) (g : Goal) (number : ℕ) → gs ≡ passed ++ g ∷ more → number ≡ length passed + 1 → line_at gs number ≡ Some g
goal_there gs passed more g number whole n = ap (λ x. line_at x number) whole ∙ (ap (λ k. line_at (passed ++ g ∷ more) k) (n ∙ add-one (length passed)) ∙ got passed more g)

-- entries that certify goals, and whose lines spell these bytes
record Certified (gs : List Goal) (before : ℕ) (bytes : List ℕ) : Type 0 where
  entries : List Entry
  writable : All IsWritable entries
  certify : Certify lemma_table gs before entries
  text : bytes ≡ lines_bytes (flat_map lines_of entries)

-- what may be given is meant as it stands
given_meant : (ds : List Declaration) (s : Statement) → length ds ≤ 2 ^ 32 → IsStatement ds s → meant_statement ds s ≡ Some s
unfolding meant_statement
given_meant ds s room h = ap if_read (statement_back ds s room h)

small_kept : (s : Statement) → node_count s.lhs + node_count s.rhs ≤ 2 ^ 20 → if_small (Some s) ≡ Some s
small_kept s h = ap (λ b. if b then Some s else None) (le-leb (node_count s.lhs + node_count s.rhs) (2 ^ 20) h)

is_given : (ds : List Declaration) (given : Option Statement) → length ds ≤ 2 ^ 32 → IfSome given (MayBeGiven ds) → IsMeantGiven ds given given
is_given ds None room may = refl
is_given ds (Some s) room may = (s, ap if_small (given_meant ds s room may.sorted) ∙ small_kept s may.small, refl)

with_entry : (gs : List Goal) (g : Goal) (given : Option Statement) (before number : ℕ) (first rest bytes : List ℕ)
    → before < number → line_at gs number ≡ Some g → length g.declarations ≤ 2 ^ 32
    → IsEntry number (claims g.declarations given g.statement) first → bytes ≡ first ++ rest → Certified gs number rest → Certified gs before bytes
with_entry gs g given before number first rest bytes behind there room e same c =
    let entry : Entry = record { number = number; given = given; steps = e.steps } in
    let meant = valid_meant (theory_for (claims g.declarations given g.statement)) e.steps g.statement room e.valid in
    let proves : Proves lemma_table g entry = record { given = given; is_given = is_given g.declarations given room e.given; steps = e.steps; are_meant = meant; valid = e.valid } in
    record {
      entries = entry ∷ c.entries;
      writable = All-cons IsWritable entry c.entries (record { numbered = e.numbered; spelled = record { given = e.given_spelled; steps = e.steps_spelled } }) c.writable;
      certify = (behind, (g, there, proves), c.certify);
      text = same ∙ (ap (λ x. x ++ rest) e.spelled ∙ (ap (λ x. entry_bytes number given e.steps ++ x) c.text ∙ entry_text entry (flat_map lines_of c.entries)));
    }

without_entry : (gs : List Goal) (before : ℕ) (first rest bytes : List ℕ) → first ≡ [] → bytes ≡ first ++ rest → Certified gs before rest → Certified gs before bytes
without_entry gs before first rest bytes none same c = record {
  entries = c.entries;
  writable = c.writable;
  certify = c.certify;
  text = same ∙ (ap (λ x. x ++ rest) none ∙ c.text);
}

by_verdict : (gs : List Goal) (g : Goal) (v : Verdict) (before number : ℕ) (first rest bytes : List ℕ)
    → before < number → line_at gs number ≡ Some g → length g.declarations ≤ 2 ^ 32
    → IsEntryOf number (claim_by g.declarations g.statement v) first → bytes ≡ first ++ rest → ((b : ℕ) → b < number + 1 → Certified gs b rest) → Certified gs before bytes
by_verdict gs g Closed before number first rest bytes behind there room is same next = with_entry gs g None before number first rest bytes behind there room is same (next number (omega arith))
by_verdict gs g (Open s) before number first rest bytes behind there room is same next = with_entry gs g (Some s) before number first rest bytes behind there room is same (next number (omega arith))
by_verdict gs g (Failed step cause) before number first rest bytes behind there room is same next = without_entry gs before first rest bytes is same (next before (omega arith))

-- goal by goal: these goals were passed, and the next has this number
all_certified : (f : Steps) (shared : List Declaration) (ts : List Told) (gs passed : List Goal) (before number : ℕ) (bytes : List ℕ)
    → gs ≡ passed ++ goals_of shared ts → number ≡ length passed + 1 → before < number → HaveRoom (goals_of shared ts)
    → AreEntries shared number (findings_of f shared ts) bytes → Certified gs before bytes
all_certified f shared [] gs passed before number bytes whole n behind room are = record { entries = []; writable = All-nil IsWritable; certify = tt; text = are }
all_certified f shared (parsed.declares ∷ ts) gs passed before number bytes whole n behind room are = all_certified f shared ts gs passed before number bytes whole n behind room are
all_certified f shared (parsed.goal label line prefix local statement calls ∷ ts) gs passed before number bytes whole n behind room are =
    let over : Goal = record { label = label; declarations = take prefix shared ++ local; statement = statement } in
    let more = goals_of shared ts in
    let count : number + 1 ≡ length (passed ++ over ∷ []) + 1 = omega (arith, n, length-append passed (over ∷ [])) in
    by_verdict gs over (judged_of f (take prefix shared ++ local) statement calls).verdict before number are.0 are.1 bytes behind (goal_there gs passed more over number whole n) room.0 are.2 are.4
    (λ b below. all_certified f shared ts gs (passed ++ over ∷ []) b (number + 1) are.1 (whole ∙ sym (append_assoc passed (over ∷ []) more)) count below room.1 are.3)
all_certified f shared (parsed.faulty line cause ∷ ts) gs passed before number bytes whole n behind room are =
    without_entry gs before are.0 are.1 bytes are.2 are.4 (all_certified f shared ts gs passed before (number + 0) are.1 whole (omega (arith, n)) (omega arith) room are.3)

-- a certificate for the file
pub certifying : (f : Steps) (shared : List Declaration) (ts : List Told) (bytes : List ℕ) → HaveRoom (goals_of shared ts) → IsCertificate shared (findings_of f shared ts) bytes → Certifying shared ts bytes
certifying f shared ts bytes room c =
    let all = all_certified f shared ts (goals_of shared ts) [] 0 1 c.entries refl refl (omega arith) room c.are in
    let come : coming_of bytes ≡ record { lines = flat_map lines_of all.entries; fault = None } =
    ap coming_of (c.spelled ∙ ap (λ x. header ++ x) all.text) ∙ entries_come all.entries all.writable in
    record {
      entries = all.entries;
      are = subst (λ (ls : List TextLine). AreEntriesOf ls all.entries) (sym (ap (λ (x : Coming). x.lines) come)) (entries_are all.entries all.writable);
      whole = ap (λ (x : Coming). x.fault) come;
      certify = all.certify;
    }

-- nothing of it is refused
pub nothing_refused : (shared : List Declaration) (ts : List Told) (bytes : List ℕ) → (c : Certifying shared ts bytes) → (tally_of (findings lemma_table (goals_of shared ts) c.entries) (coming_of bytes).fault).refused ≡ 0
nothing_refused shared ts bytes c =
    ap (λ (fault : Option ℕ). (tally_of (findings lemma_table (goals_of shared ts) c.entries) fault).refused) c.whole ∙ none_refused lemma_table (goals_of shared ts) c.entries c.certify

-- the goals of a file that was read have room

goal_room : (shared : List Declaration) (prefix locals : ℕ) (local : List Declaration) → length local ≡ locals → prefix + locals < 2 ^ 32 → length (take prefix shared ++ local) ≤ 2 ^ 32
goal_room shared prefix locals local same room = omega (arith, same, room, length-append (take prefix shared) local, length-take prefix shared)

commands_room : (ts : List Tree) (shared : List Declaration) (cs : List Command) → All (IsCommandIn ts shared) cs → HaveRoom (flat_map (goals_in ts shared) cs)
commands_room ts shared [] each = tt
commands_room ts shared (command.Declares ∷ cs) each = commands_room ts shared cs (All-tail (IsCommandIn ts shared) command.Declares cs each)
commands_room ts shared (command.Goal label line prefix local stmt script ∷ cs) each =
    let one : IsGoalIn ts shared prefix local stmt = All-head (IsCommandIn ts shared) (command.Goal label line prefix local stmt script) cs each in
    (goal_room shared prefix (length local) (declarations_of ts local) (length-map local (declaration_of ts)) one.room, commands_room ts shared cs (All-tail (IsCommandIn ts shared) (command.Goal label line prefix local stmt script) cs each))
commands_room ts shared (command.Fault line cause ∷ cs) each = commands_room ts shared cs (All-tail (IsCommandIn ts shared) (command.Fault line cause) cs each)

pub read_room : (text : List ℕ) (f : FileTree) → (read : IsRead text f) → HaveRoom (goals_of read.tells.end.shared read.told)
read_room text f read =
    subst HaveRoom (goals_seen-told f.arena f.shared f.commands read.told read.commands_told ∙ ap (λ ds. goals_of ds read.told) read.shared) (commands_room f.arena f.shared f.commands read.each)
