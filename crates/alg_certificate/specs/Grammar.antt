-- Which lines bytes begin with, and where none begins that may stand there: the grammar of a certificate, without a reader.
use Rattle.std.specs.Prelude.{◌≡◌, ◌≢◌, ℕ, ◌+◌, ◌≤◌, true, List, [], ◌∷◌, ◌++◌, length, Option, Some, None, codes}
use Rattle.alg_certificate.specs.Numbers.{max_number}
use Rattle.alg_certificate.specs.Spelling.{goal_bytes}
use Rattle.alg_certificate.specs.Reader.{TextLine, goal_line, given_line, proof_line, end_line, Coming, may_end, fails}
use Rattle.alg_certificate.specs.Items.{IsGivenText, IsProofText}
use Rattle.alg_certificate.specs.declared.reader.State.{State}
use Rattle.alg_certificate.specs.declared.reader.State.TheVariants.{Outside, Begun, Proving, Broken}

abbrev pub HasNoFeed : List ℕ → Type 0
HasNoFeed [] = Unit {0}
HasNoFeed (c ∷ cs) = (c ≢ 10) × HasNoFeed cs

-- the text, without a line feed, is that of the line
abbrev pub IsTextOf : TextLine → List ℕ → Type 0
IsTextOf (goal_line n) text = (1 ≤ n) × (n ≤ max_number) × (text ≡ goal_bytes n)
IsTextOf (given_line t) text = (t ≡ text) × IsGivenText text
IsTextOf (proof_line t) text = (t ≡ text) × IsProofText text
IsTextOf end_line text = text ≡ codes "end"

-- where a reader stands behind the line, if the line may stand there
abbrev pub behind_line : State → TextLine → Option State
behind_line Outside (goal_line n) = Some Begun
behind_line Outside (given_line t) = None
behind_line Outside (proof_line t) = None
behind_line Outside end_line = None
behind_line Begun (goal_line n) = None
behind_line Begun (given_line t) = Some Proving
behind_line Begun (proof_line t) = Some Proving
behind_line Begun end_line = Some Outside
behind_line Proving (goal_line n) = None
behind_line Proving (given_line t) = None
behind_line Proving (proof_line t) = Some Proving
behind_line Proving end_line = Some Outside
behind_line Broken l = None

-- the bytes begin with the line, which may stand there, and its line feed
pub record Begins (st : State) (bytes : List ℕ) (l : TextLine) (next : State) (rest : List ℕ) : Type 0 where
  pub text : List ℕ
  pub whole : bytes ≡ text ++ 10 ∷ rest
  pub plain : HasNoFeed text
  pub spells : IsTextOf l text
  pub stands : behind_line st l ≡ Some next

-- no line that may stand there begins the bytes, and they may not end there
pub record NoneBegins (st : State) (bytes : List ℕ) : Type 0 where
  pub line : (l : TextLine) (next : State) (rest : List ℕ) → Begins st bytes l next rest → ⊥
  pub ending : bytes ≡ [] → may_end st ≡ true → ⊥

-- the bytes, from this place on, are these lines, and then end or begin no line
abbrev pub AreLines : ℕ → State → List ℕ → List TextLine → Option ℕ → Type 0
AreLines at st bytes [] None = (bytes ≡ []) × (may_end st ≡ true)
AreLines at st bytes [] (Some k) = (k ≡ at) × NoneBegins st bytes
AreLines at st bytes (l ∷ ls) fault = (next : State) × (rest : List ℕ) × (b : Begins st bytes l next rest) × AreLines (at + (length b.text + 1)) next rest ls fault

abbrev pub header : List ℕ
header = codes "algebra-cert 1\n"

-- the lines behind the first one, and where one fails; without the first one, the beginning fails
pub record AreLinesOf (bytes : List ℕ) (c : Coming) : Type 0 where
  pub headed : (rest : List ℕ) → bytes ≡ header ++ rest → AreLines (length header) Outside rest c.lines c.fault
  pub headless : ((rest : List ℕ) → bytes ≡ header ++ rest → ⊥) → c ≡ fails 0
