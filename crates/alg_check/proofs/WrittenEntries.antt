-- Entries that are written as lines come as the lines of these entries.
use Rattle.std.specs.Prelude.{◌≡◌, ◌≤◌, List, [], ◌∷◌, ◌++◌, All, Option, Some, None, IfSome, refl}
use Rattle.std.proofs.Common.{sym, append-nil}
use Rattle.std.specs.List.{flat_map}
use Rattle.std.proofs.lemmas.List.Elements.{All-nil, All-cons, All-head, All-tail, All-weaker}
use Rattle.alg_terms.specs.Tree.{Statement}
use Rattle.alg_proof.specs.Steps.{Step}
use Rattle.alg_certificate.specs.declared.reader.State.TheVariants.{Outside, Begun, Proving}
use Rattle.alg_certificate.specs.Numbers.{max_number}
use Rattle.alg_certificate.specs.Spelling.{HasSpelling, StatementHasSpelling, step_bytes, given_bytes}
use Rattle.alg_certificate.specs.Reader.{TextLine, goal_line, given_line, proof_line, end_line, coming_of}
use Rattle.alg_certificate.specs.Grammar.{header}
use Rattle.alg_certificate.proofs.TextLaws.{step_text, given_text}
use Rattle.alg_certificate.proofs.WrittenLines.{IsWritten, Stand, lines_bytes, written_lines}
use Rattle.alg_check.specs.Entries.{Entry, EntryHasSpelling, IsNoEnd, given_lines, proof_lines, lines_of, AreEntriesOf}

-- an entry that the grammar has a text for
pub record IsWritable (e : Entry) : Type 0 where
  pub numbered : (1 ≤ e.number) × (e.number ≤ max_number)
  pub spelled : EntryHasSpelling e

-- each line is one of the grammar
proof_written : (ls : List Step) (more : List TextLine) → All HasSpelling ls → All IsWritten more → All IsWritten ((proof_lines ls ++ end_line ∷ []) ++ more)
proof_written [] more h m = All-cons IsWritten end_line more tt m
proof_written (l ∷ ls) more h m =
    All-cons IsWritten (proof_line (step_bytes l)) ((proof_lines ls ++ end_line ∷ []) ++ more) (step_text l (All-head HasSpelling l ls h)) (proof_written ls more (All-tail HasSpelling l ls h) m)

given_written : (g : Option Statement) (ls : List Step) (more : List TextLine) → IfSome g StatementHasSpelling → All HasSpelling ls → All IsWritten more → All IsWritten ((given_lines g ++ (proof_lines ls ++ end_line ∷ [])) ++ more)
given_written None ls more g h m = proof_written ls more h m
given_written (Some s) ls more g h m = All-cons IsWritten (given_line (given_bytes s)) ((proof_lines ls ++ end_line ∷ []) ++ more) (given_text s g) (proof_written ls more h m)

entries_written : (es : List Entry) → All IsWritable es → All IsWritten (flat_map lines_of es)
entries_written [] h = All-nil IsWritten
entries_written (e ∷ es) h =
    let w = All-head IsWritable e es h in
    let rest = (given_lines e.given ++ (proof_lines e.steps ++ end_line ∷ [])) ++ flat_map lines_of es in
    All-cons IsWritten (goal_line e.number) rest w.numbered (given_written e.given e.steps (flat_map lines_of es) w.spelled.given w.spelled.steps (entries_written es (All-tail IsWritable e es h)))

-- each line may stand where it does
proof_stands : (ls : List Step) (more : List TextLine) → Stand Outside more → Stand Proving ((proof_lines ls ++ end_line ∷ []) ++ more)
proof_stands [] more s = (Outside, refl, s)
proof_stands (l ∷ ls) more s = (Proving, refl, proof_stands ls more s)

given_stands : (g : Option Statement) (ls : List Step) (more : List TextLine) → Stand Outside more → Stand Begun ((given_lines g ++ (proof_lines ls ++ end_line ∷ [])) ++ more)
given_stands None [] more s = (Outside, refl, s)
given_stands None (l ∷ ls) more s = (Proving, refl, proof_stands ls more s)
given_stands (Some g) ls more s = (Proving, refl, proof_stands ls more s)

entries_stand : (es : List Entry) → Stand Outside (flat_map lines_of es)
entries_stand [] = refl
entries_stand (e ∷ es) = (Begun, refl, given_stands e.given e.steps (flat_map lines_of es) (entries_stand es))

-- what is written of entries, behind the first line, comes as their lines
pub entries_come : (es : List Entry) → All IsWritable es → coming_of (header ++ lines_bytes (flat_map lines_of es)) ≡ record { lines = flat_map lines_of es; fault = None }
entries_come es h = written_lines (flat_map lines_of es) (entries_written es h) (entries_stand es)

-- and the lines are those of the entries
pub entries_are : (es : List Entry) → All IsWritable es → AreEntriesOf (flat_map lines_of es) es
entries_are es h = record {
  spelled = All-weaker IsWritable EntryHasSpelling (λ e w. w.spelled) es h;
  rest = [];
  lines = sym (append-nil (flat_map lines_of es));
  unfinished = All-nil IsNoEnd;
}
