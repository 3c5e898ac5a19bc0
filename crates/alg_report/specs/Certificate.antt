-- Which bytes are a certificate for a file.
use Rattle.std.specs.Prelude.{◌≡◌, ℕ, ◌+◌, ◌≤◌, ◌^◌, List, [], ◌∷◌, ◌++◌, All, Option, None, Some, IfSome, codes}
use Rattle.std.specs.List.{flat_map}
use Rattle.alg_terms.specs.Tree.{Statement, node_count}
use Rattle.alg_law.specs.Declarations.{Declaration}
use Rattle.alg_law.specs.Derivations.{Derivable}
use Rattle.alg_law.specs.WellSorted.{IsStatement}
use Rattle.alg_proof.specs.Steps.{Theory, Step}
use Rattle.alg_proof.specs.Valid.{IsValid}
use Rattle.alg_lemma.specs.Lemmas.{lemma_table}
use Rattle.alg_kernel.specs.Claims.{Claim}
use Rattle.alg_certificate.specs.Grammar.{header}
use Rattle.alg_certificate.specs.Numbers.{max_number}
use Rattle.alg_certificate.specs.Spelling.{step_bytes, given_bytes, goal_bytes, HasSpelling, StatementHasSpelling}
use Rattle.alg_report.specs.Judged.{Verdict, Closed, Open, Failed}
use Rattle.alg_report.specs.Report.{Finding, of_goal, of_fault, in_force}

-- a goal over these declarations, and the statement that it is proved from, where there is one
abbrev pub claims : List Declaration → Option Statement → (goal : Statement) → Claim
claims ds given goal = record { declarations = ds; given = given; goal = goal }

-- what is proved of a goal: a closed one from nothing, an open one from what is left of it, and of a failed one nothing
abbrev pub claim_by : List Declaration → (goal : Statement) → Verdict → Option Claim
claim_by ds goal Closed = Some (claims ds None goal)
claim_by ds goal (Open s) = Some (claims ds (Some s) goal)
claim_by ds goal (Failed step cause) = None

abbrev pub claim_at : List Declaration → Finding → Option Claim
claim_at shared (of_goal label g j) = claim_by (in_force shared g) g.statement j.verdict
claim_at shared (of_fault line cause) = None

abbrev pub claim_list : Option Claim → List Claim
claim_list None = []
claim_list (Some c) = c ∷ []

-- what is proved, in order
abbrev pub claims_of : List Declaration → List Finding → List Claim
claims_of shared fs = flat_map (λ f. claim_list (claim_at shared f)) fs

-- the goal follows from the laws, the hypotheses and the given statement
abbrev pub IsDerivable : Claim → Type 0
IsDerivable c = Derivable c.declarations c.given c.goal

-- each in a line of its own
abbrev pub step_lines : List Step → List ℕ
step_lines [] = []
step_lines (s ∷ ss) = step_bytes s ++ (10 ∷ step_lines ss)

abbrev pub given_line : Option Statement → List ℕ
given_line None = []
given_line (Some s) = given_bytes s ++ (10 ∷ [])

abbrev pub entry_bytes : (number : ℕ) → (given : Option Statement) → List Step → List ℕ
entry_bytes number given steps = goal_bytes number ++ (10 ∷ (given_line given ++ (step_lines steps ++ codes "end\n")))

-- what the proof of a claim may rest on: the lemmas are those of the library
abbrev pub theory_for : Claim → Theory
theory_for c = record { declarations = c.declarations; lemmas = lemma_table; given = c.given }

-- what a proof may take as given: a well sorted statement of at most 2^20 nodes
pub record MayBeGiven (ds : List Declaration) (s : Statement) : Type 0 where
  pub sorted : IsStatement ds s
  pub small : node_count s.lhs + node_count s.rhs ≤ 2 ^ 20

-- the entry for a claim, in the grammar of certificates: its lines are valid for the goal
pub record IsEntry (number : ℕ) (claim : Claim) (bytes : List ℕ) : Type 0 where
  pub steps : List Step
  pub valid : IsValid (theory_for claim) steps claim.goal
  pub given : IfSome claim.given (MayBeGiven claim.declarations)
  -- the grammar has texts for all of it
  pub numbered : (1 ≤ number) × (number ≤ max_number)
  pub given_spelled : IfSome claim.given StatementHasSpelling
  pub steps_spelled : All HasSpelling steps
  pub spelled : bytes ≡ entry_bytes number claim.given steps

abbrev pub goals_in : Finding → ℕ
goals_in (of_goal label g j) = 1
goals_in (of_fault line cause) = 0

-- how many goals there are
abbrev pub goals_of : List Finding → ℕ
goals_of [] = 0
goals_of (f ∷ fs) = goals_in f + goals_of fs

-- what is proved has an entry with this number, and nothing else has one
abbrev pub IsEntryOf : ℕ → Option Claim → List ℕ → Type 0
IsEntryOf number None bytes = bytes ≡ []
IsEntryOf number (Some c) bytes = IsEntry number c bytes

-- the same of all, the next goal having this number
abbrev pub AreEntries : List Declaration → ℕ → List Finding → List ℕ → Type 0
AreEntries shared number [] bytes = bytes ≡ []
AreEntries shared number (f ∷ fs) bytes =
    (first : List ℕ) × (rest : List ℕ) × IsEntryOf number (claim_at shared f) first × AreEntries shared (number + goals_in f) fs rest × (bytes ≡ first ++ rest)

-- the first line, and an entry for each goal that is closed or open, in order; goals are numbered from 1
pub record IsCertificate (shared : List Declaration) (fs : List Finding) (bytes : List ℕ) : Type 0 where
  pub entries : List ℕ
  pub are : AreEntries shared 1 fs entries
  pub spelled : bytes ≡ header ++ entries
