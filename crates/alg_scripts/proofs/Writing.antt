-- The lines of an entry, one after another.
use Rattle.std.proofs.Common.{◌≡◌, ℕ, List, [], ◌∷◌, ◌++◌, ◌∙◌, append_assoc, All}
use Rattle.std.proofs.lemmas.List.Elements.{All-cons, All-tail}
use Rattle.alg_terms.specs.Tree.{Tree}
use Rattle.alg_proof.specs.declared.lines.Line.{Line}
use Rattle.alg_proof.specs.Lines.{step_of, steps_of, IsLineIn}
use Rattle.alg_proof.specs.Steps.{Step}
use Rattle.alg_certificate.specs.Spelling.{step_bytes}
use Rattle.alg_certificate.specs.InRange.{StepInRange}
use Rattle.alg_report.specs.Certificate.{step_lines}

pub line_written : (ts : List Tree) (left rest : List Line) (line : Line) (a b c total : List ℕ) → left ≡ line ∷ rest → b ≡ a ++ step_bytes (step_of ts line) → c ≡ b ++ 10 ∷ []
    → a ++ step_lines (steps_of ts left) ≡ total → c ++ step_lines (steps_of ts rest) ≡ total
line_written ts left rest line a b c total is written pushed before =
    let all : a ++ step_lines (steps_of ts (line ∷ rest)) ≡ total = rw is at before in
    rw (pushed, written)
    (append_assoc (a ++ step_bytes (step_of ts line)) (10 ∷ []) (step_lines (steps_of ts rest)) ∙ append_assoc a (step_bytes (step_of ts line)) (10 ∷ step_lines (steps_of ts rest)) ∙ all)

pub lines_left : (ts : List Tree) (left rest : List Line) (line : Line) → left ≡ line ∷ rest → All (IsLineIn ts) left → All (IsLineIn ts) rest
lines_left ts left rest line is all = All-tail (IsLineIn ts) line rest (rw is at all)

-- all are in range, if those that are left are
pub ranged_with : (ts : List Tree) (left rest : List Line) (line : Line) (all : List Step) → left ≡ line ∷ rest → StepInRange (step_of ts line) → (All StepInRange (steps_of ts left) → All StepInRange all)
    → All StepInRange (steps_of ts rest) → All StepInRange all
ranged_with ts left rest line all is first before more = before (rw is (All-cons StepInRange (step_of ts line) (steps_of ts rest) first more))
