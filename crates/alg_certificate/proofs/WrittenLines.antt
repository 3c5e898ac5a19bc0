-- Bytes that are written as lines come as these lines.
use Rattle.std.specs.Prelude.{⊤}
use Rattle.std.proofs.Common.{◌≡◌, ℕ, ◌+◌, ◌≤◌, true, List, [], ◌∷◌, ◌++◌, length, All, Some, None, codes, refl, ap, ◌∙◌}
use Rattle.std.proofs.lemmas.List.Elements.{All-head, All-tail}
use Rattle.alg_certificate.specs.declared.reader.State.{State}
use Rattle.alg_certificate.specs.declared.reader.State.TheVariants.{Outside}
use Rattle.alg_certificate.specs.Numbers.{max_number}
use Rattle.alg_certificate.specs.Spelling.{goal_bytes}
use Rattle.alg_certificate.specs.Reader.{TextLine, goal_line, given_line, proof_line, end_line, Coming, may_end, coming_at, after_header, coming_of}
use Rattle.alg_certificate.specs.Items.{IsGivenText, IsProofText}
use Rattle.alg_certificate.specs.Grammar.{HasNoFeed, IsTextOf, behind_line, header}
use Rattle.alg_certificate.proofs.PlainTexts.{proof_text_plain, given_text_plain, goal_plain, end_plain}
use Rattle.alg_certificate.proofs.CuttingLaws.{cut_feed, cut_none, after_whole}
use Rattle.alg_certificate.proofs.KindLaws.{line_complete}
use Rattle.alg_certificate.proofs.ComingLaws.{at_end, good_line}

-- a line's text
abbrev pub line_bytes : TextLine → List ℕ
line_bytes (goal_line n) = goal_bytes n
line_bytes (given_line text) = text
line_bytes (proof_line text) = text
line_bytes end_line = codes "end"

-- each line ended by a line feed
abbrev pub lines_bytes : List TextLine → List ℕ
lines_bytes [] = []
lines_bytes (l ∷ ls) = line_bytes l ++ (10 ∷ lines_bytes ls)

-- the line is one of the grammar
abbrev pub IsWritten : TextLine → Type 0
IsWritten (goal_line n) = (1 ≤ n) × (n ≤ max_number)
IsWritten (given_line text) = IsGivenText text
IsWritten (proof_line text) = IsProofText text
IsWritten end_line = ⊤

-- from this state the lines lead to the end of an entry, each where it may stand
abbrev pub Stand : State → List TextLine → Type 0
Stand st [] = may_end st ≡ true
Stand st (l ∷ ls) = (next : State) × (behind_line st l ≡ Some next) × Stand next ls

text_of : (l : TextLine) → IsWritten l → IsTextOf l (line_bytes l)
text_of (goal_line n) w = (w.0, w.1, refl)
text_of (given_line text) w = (refl, w)
text_of (proof_line text) w = (refl, w)
text_of end_line w = refl

line_plain : (l : TextLine) → IsWritten l → HasNoFeed (line_bytes l)
line_plain (goal_line n) w = goal_plain n w.1
line_plain (given_line text) w = given_text_plain text w
line_plain (proof_line text) w = proof_text_plain text w
line_plain end_line w = end_plain

abbrev before : TextLine → Coming → Coming
before l c = record { lines = l ∷ c.lines; fault = c.fault }

written_from : (ls : List TextLine) → All IsWritten ls → (at : ℕ) (st : State) → Stand st ls → coming_at at st (lines_bytes ls) ≡ record { lines = ls; fault = None }
written_from [] w at st s = at_end at st [] (cut_none [] tt) s
written_from (l ∷ ls) w at st s =
    let one = All-head IsWritten l ls w in
    let place = at + (length (line_bytes l) + 1) in
    let cut = cut_feed (line_bytes l) (lines_bytes ls) (line_plain l one) in
    let read = line_complete st l s.0 (line_bytes l) (text_of l one) s.1 in
    good_line at st s.0 (lines_bytes (l ∷ ls)) (line_bytes l) (lines_bytes ls) l place cut read refl
    ∙ ap (before l) (written_from ls (All-tail IsWritten l ls w) place s.0 s.2)

pub written_lines : (ls : List TextLine) → All IsWritten ls → Stand Outside ls → coming_of (header ++ lines_bytes ls) ≡ record { lines = ls; fault = None }
written_lines ls w s = ap after_header (after_whole header (lines_bytes ls)) ∙ written_from ls w 15 Outside s
