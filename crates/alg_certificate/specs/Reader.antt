-- The lines of a certificate that are to come, and where one first fails.
use Rattle.std.specs.Prelude.{◌≡◌, ℕ, ◌+◌, Bool, true, false, ◌&&◌, List, [], ◌∷◌, length, Option, Some, None, ◌==◌, codes, if◌then◌else◌, Result, Ok, Err}
use Rattle.alg_certificate.specs.Numbers.{Read, read_number}
use Rattle.alg_certificate.specs.Tokens.{first_word}
use Rattle.alg_certificate.specs.Cutting.{after, is_empty, cut}
use Rattle.alg_certificate.specs.Words.{is_word_of}
use Rattle.alg_certificate.specs.Patterns.{Pattern, pattern_of, given_pattern}
use Rattle.alg_certificate.specs.Walks.{allows}
use Rattle.alg_certificate.specs.declared.reader.State.{State}
use Rattle.alg_certificate.specs.declared.reader.State.TheVariants.{Outside, Begun, Proving, Broken}
use Rattle.alg_certificate.specs.declared.reader.Kind.{Kind}
use Rattle.alg_certificate.specs.declared.reader.Kind.TheVariants as kind
use Rattle.alg_certificate.specs.declared.reader.CertLine.{CertLine}
use Rattle.alg_certificate.specs.declared.reader.CertLine.TheVariants as line
use Rattle.alg_certificate.specs.declared.reader.CertFault.{CertFault}

-- a number from 1, and nothing after it
abbrev pub of_number : Read ℕ → Option Kind
of_number None = None
of_number (Some x) = if is_empty x.1 then (if x.0 == 0 then None else Some (kind.Goal x.0)) else None

abbrev pub of_pattern : Pattern → List ℕ → Option Kind
of_pattern None rest = None
of_pattern (Some ps) rest = if allows ps rest then Some kind.Proof else None

abbrev pub of_head : List ℕ → List ℕ → Option Kind
of_head w rest = if is_word_of (codes "given") w then (if allows given_pattern rest then Some kind.Given else None) else of_pattern (pattern_of w) rest

-- a line that begins with a word, and what follows it
abbrev pub of_word : Option (List ℕ × List ℕ) → Option Kind
of_word None = None
of_word (Some x) = of_head x.0 x.1

abbrev pub of_goal : Option (List ℕ) → Option Kind → Option Kind
of_goal (Some rest) other = of_number (read_number rest)
of_goal None other = other

-- which line a text is
abbrev pub kind_of : List ℕ → Option Kind
kind_of text = of_goal (after (codes "goal ") text) (if is_word_of (codes "end") text then Some kind.End else of_word (first_word text))

-- a line of a certificate; the texts are without their line feeds
pub data TextLine : Type 0 where
  goal_line : ℕ → TextLine
  given_line : List ℕ → TextLine
  proof_line : List ℕ → TextLine
  end_line : TextLine

-- what is to come: the lines, and where none begins that may stand there
pub record Coming : Type 0 where
  pub lines : List TextLine
  pub fault : Option ℕ

-- the line that a text is between two entries, behind a goal or in a proof, and where the reader stands after it
abbrev pub outside_line : Option Kind → Option (TextLine × State)
outside_line (Some (kind.Goal n)) = Some (goal_line n, Begun)
outside_line _ = None

abbrev pub proving_line : List ℕ → Option Kind → Option (TextLine × State)
proving_line text (Some kind.Proof) = Some (proof_line text, Proving)
proving_line text (Some kind.End) = Some (end_line, Outside)
proving_line text _ = None

abbrev pub begun_line : List ℕ → Option Kind → Option (TextLine × State)
begun_line text (Some kind.Given) = Some (given_line text, Proving)
begun_line text k = proving_line text k

abbrev pub line_in : State → List ℕ → Option Kind → Option (TextLine × State)
line_in Outside text k = outside_line k
line_in Begun text k = begun_line text k
line_in Proving text k = proving_line text k
line_in Broken text k = None

abbrev pub may_end : State → Bool
may_end Outside = true
may_end Begun = false
may_end Proving = false
may_end Broken = false

abbrev pub fails : ℕ → Coming
fails at = record { lines = []; fault = Some at }

abbrev pub ended : ℕ → State → List ℕ → Coming
ended at st tail = if is_empty tail && may_end st then record { lines = []; fault = None } else fails at

abbrev pub with_line : Option (TextLine × State) → ℕ → (State → Coming) → Coming
with_line None at rest = fails at
with_line (Some (l, st)) at rest = record { lines = l ∷ (rest st).lines; fault = (rest st).fault }

unfoldable pub lines_from : ℕ → State → List (List ℕ) → List ℕ → Coming
lines_from at st [] tail = ended at st tail
lines_from at st (l ∷ ls) tail = with_line (line_in st l (kind_of l)) at (λ next. lines_from (at + (length l + 1)) next ls tail)

abbrev pub coming_at : ℕ → State → List ℕ → Coming
coming_at at st text = lines_from at st (cut text).0 (cut text).1

abbrev pub after_header : Option (List ℕ) → Coming
after_header None = fails 0
after_header (Some rest) = coming_at 15 Outside rest

-- the lines of a certificate, behind its first
abbrev pub coming_of : List ℕ → Coming
coming_of text = after_header (after (codes "algebra-cert 1\n") text)

abbrev pub seen_line : CertLine → TextLine
seen_line (line.Goal n) = goal_line n
seen_line (line.Given text) = given_line text.now
seen_line (line.Proof text) = proof_line text.now
seen_line line.End = end_line

-- what a call of `next` answers, and what is left
abbrev pub Comes : Coming → Coming → Result (Option CertLine) CertFault → Type 0
Comes old new (Ok (Some l)) = old ≡ record { lines = seen_line l ∷ new.lines; fault = new.fault }
Comes old new (Ok None) = (old ≡ record { lines = []; fault = None }) × (new ≡ old)
Comes old new (Err f) = (old ≡ fails f.offset) × (new ≡ old)
