-- The events of a run, in order, and how far it came.
use Rattle.std.specs.Prelude.{◌≡◌, ℕ, ◌+◌, List, [], ◌∷◌, ◌++◌, ◌⊎◌, Bool, true, false, Option, None, Some, is_some, Result, OnOk}
use Rattle.alg_law.specs.Declarations.{Declaration}
use Rattle.alg_kernel.specs.Claims.{Claim}
use Rattle.alg_host.specs.Host.{Told, Call, IsPrefix, Creates}
use Rattle.alg_certificate.specs.Grammar.{header}
use Rattle.alg_report.specs.Effects.{Effects, nothing, asks, creates, appends, says, hands_over, and_then, Does}
use Rattle.alg_report.specs.Report.{Finding, entry_text, entry_texts, last_line_of}
use Rattle.alg_report.specs.Certificate.{IsEntry, IsDerivable, claim_at, goals_in}

-- what a run does to the host
pub data Event : Type 0 where
  -- the file for the certificate is created
  Starts : (path : List ℕ) → Event
  Appends : (bytes : List ℕ) → Event
  -- an entry for the goal of this number is appended
  Certifies : (number : ℕ) → Claim → Event
  HandsOver : Claim → Event
  Says : (bytes : List ℕ) → Event

-- the whole event; what is handed over is derivable
abbrev pub IsWhole : Event → Effects → Type 0
IsWhole (Starts path) d = d ≡ creates path
IsWhole (Appends bytes) d = d ≡ appends bytes
IsWhole (Certifies number claim) d = (bytes : List ℕ) × IsEntry number claim bytes × (d ≡ appends bytes)
IsWhole (HandsOver claim) d = IsDerivable claim × (d ≡ hands_over claim)
IsWhole (Says bytes) d = d ≡ says bytes

-- all of these, in order
abbrev pub AreWhole : List Event → Effects → Type 0
AreWhole [] d = d ≡ nothing
AreWhole (e ∷ es) d = (first : Effects) × (rest : Effects) × IsWhole e first × AreWhole es rest × (d ≡ and_then first rest)

-- a part of the event, or nothing of it
abbrev pub IsPart : Event → Effects → Type 0
IsPart (Starts path) d = (d ≡ nothing) ⊎ (d ≡ asks (Creates path false))
IsPart (Appends bytes) d = (part : List ℕ) × IsPrefix part bytes × (d ≡ appends part)
IsPart (Certifies number claim) d = (d ≡ nothing) ⊎ ((bytes : List ℕ) × (part : List ℕ) × IsEntry number claim bytes × IsPrefix part bytes × (d ≡ appends part))
IsPart (HandsOver claim) d = d ≡ nothing
IsPart (Says bytes) d = (part : List ℕ) × IsPrefix part bytes × (d ≡ says part)

-- the first of these events, the last of them perhaps in part
abbrev pub Reached : List Event → Effects → Type 0
Reached [] d = d ≡ nothing
Reached (e ∷ es) d = IsPart e d ⊎ ((first : Effects) × (rest : Effects) × IsWhole e first × Reached es rest × (d ≡ and_then first rest))

-- a call did a beginning of this plan, and all of it where it answered Ok
pub record Did {T E : Type 0} (before now : Option Told) (plan : List Event) (result : Result T E) : Type 0 where
  pub effects : Effects
  pub does : Does before now effects
  pub reached : Reached plan effects
  pub all : OnOk result (AreWhole plan effects)

-- whether a certificate is written, and whether the entries of the report are said
pub record Manner : Type 0 where
  pub certified : Bool
  pub aloud : Bool

-- the number of an entry, where a certificate is written
abbrev pub numbered : Bool → ℕ → Option ℕ
numbered true number = Some number
numbered false number = None

abbrev pub certifies : Option ℕ → Claim → List Event
certifies None claim = []
certifies (Some number) claim = Certifies number claim ∷ []

-- what is proved of a goal is certified, where that is wanted, and handed over
abbrev pub proof_events : Option ℕ → Option Claim → List Event
proof_events number None = []
proof_events number (Some claim) = certifies number claim ++ HandsOver claim ∷ []

abbrev pub said_if : Bool → (text : List ℕ) → List Event
said_if true text = Says text ∷ []
said_if false text = []

-- and then the entry is said
abbrev pub events_at : Manner → List Declaration → ℕ → Finding → List Event
events_at m shared number f = proof_events (numbered m.certified number) (claim_at shared f) ++ said_if m.aloud (entry_text shared f)

-- the next goal has this number
abbrev pub events_from : Manner → List Declaration → ℕ → List Finding → List Event
events_from m shared number [] = []
events_from m shared number (f ∷ fs) = events_at m shared number f ++ events_from m shared (number + goals_in f) fs

abbrev pub start_of : Option (List ℕ) → List Event
start_of None = []
start_of (Some path) = Starts path ∷ Appends header ∷ []

-- the file for a certificate is created, where one is wanted
abbrev pub creation_of : Option (List ℕ) → List Call
creation_of None = []
creation_of (Some path) = Creates path true ∷ []

-- all entries, and the last line
abbrev pub report_plan : Manner → List Declaration → List Finding → List Event
report_plan m shared fs = events_from m shared 1 fs ++ Says (last_line_of fs) ∷ []

abbrev pub manner_of : Option (List ℕ) → (aloud : Bool) → Manner
manner_of cert aloud = record { certified = is_some cert; aloud = aloud }

-- the plan of a run that finds this of a file, with the path of the certificate where one is wanted
abbrev pub plan_over : (cert : Option (List ℕ)) → (aloud : Bool) → List Declaration → List Finding → List Event
plan_over cert aloud shared fs = start_of cert ++ report_plan (manner_of cert aloud) shared fs

-- what is said of the entries
abbrev pub entries_said : (aloud : Bool) → List Declaration → List Finding → List ℕ
entries_said true shared fs = entry_texts shared fs
entries_said false shared fs = []

-- and in all: the report, or its last line alone
abbrev pub text_said : (aloud : Bool) → List Declaration → List Finding → List ℕ
text_said aloud shared fs = entries_said aloud shared fs ++ last_line_of fs
