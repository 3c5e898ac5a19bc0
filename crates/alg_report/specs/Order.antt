-- The order in which goals are certified, handed over and reported, wherever a run stops.
use Rattle.std.specs.Prelude.{◌≡◌, ◌<◌, ◌⊎◌, ℕ, ◌+◌, ⊤, List, [], ◌∷◌, ◌++◌, length, All, Bool, true, false, Option, None, Some}
use Rattle.alg_law.specs.Declarations.{Declaration}
use Rattle.alg_host.specs.Host.{IsPrefix}
use Rattle.alg_certificate.specs.Grammar.{header}
use Rattle.alg_report.specs.Effects.{Effects}
use Rattle.alg_report.specs.Report.{Finding}
use Rattle.alg_report.specs.Certificate.{IsEntryOf, AreEntries, IsCertificate, IsDerivable, claim_at, claims_of, goals_of}
use Rattle.alg_report.specs.Plan.{entries_said}

-- the first list is a beginning of the second
abbrev pub IsBeginning : {A : Type 0} → List A → List A → Type 0
IsBeginning {A} front whole = (rest : List A) × (whole ≡ front ++ rest)

-- a part of the next entry, or nothing of it
abbrev pub IsPartOfNext : List Declaration → ℕ → List Finding → List ℕ → Type 0
IsPartOfNext shared number [] part = part ≡ []
IsPartOfNext shared number (f ∷ fs) part = (part ≡ []) ⊎ ((bytes : List ℕ) × IsEntryOf number (claim_at shared f) bytes × IsPrefix part bytes)

-- whole entries of the first of these, none skipped, and perhaps a part of the next
pub record EntriesBegun (shared : List Declaration) (number : ℕ) (fs : List Finding) (bytes : List ℕ) : Type 0 where
  pub front : List Finding
  pub back : List Finding
  pub all : fs ≡ front ++ back
  pub entries : List ℕ
  pub are : AreEntries shared number front entries
  pub part : List ℕ
  pub next : IsPartOfNext shared (number + goals_of front) back part
  pub spelled : bytes ≡ entries ++ part

-- a part of the first line of a certificate, or that and the first entries
abbrev pub HasBegun : List Declaration → List Finding → List ℕ → Type 0
HasBegun shared fs bytes = IsPrefix bytes header ⊎ ((entries : List ℕ) × EntriesBegun shared 1 fs entries × (bytes ≡ header ++ entries))

-- the file for the certificate isn't there yet, or was created and has a beginning of it
abbrev pub CertificateBegun : List Declaration → List Finding → Effects → Type 0
CertificateBegun shared fs d = ((d.created ≡ false) × (d.appended ≡ [])) ⊎ ((d.created ≡ true) × HasBegun shared fs d.appended)

-- nothing is appended where no certificate is wanted
abbrev pub IsAppended : (cert : Option (List ℕ)) → List Declaration → List Finding → Effects → Type 0
IsAppended None shared fs d = (d.created ≡ false) × (d.appended ≡ [])
IsAppended (Some path) shared fs d = CertificateBegun shared fs d

-- a certificate was written, where one is wanted, and else nothing was appended
abbrev pub IsCertified : Option (List ℕ) → List Declaration → List Finding → Effects → Type 0
IsCertified None shared fs d = (d.created ≡ false) × (d.appended ≡ [])
IsCertified (Some path) shared fs d = (d.created ≡ true) × IsCertificate shared fs d.appended

-- where a certificate is wanted, its file was created and has whole entries of these
abbrev pub AreCertified : (cert : Option (List ℕ)) → List Declaration → List Finding → Effects → Type 0
AreCertified None shared fs d = ⊤
AreCertified (Some path) shared fs d = (d.created ≡ true) × ((entries : List ℕ) × AreEntries shared 1 fs entries × IsPrefix (header ++ entries) d.appended)

-- what of these is closed or open was certified, where that is wanted, and handed over
pub record AreSettled (cert : Option (List ℕ)) (shared : List Declaration) (fs : List Finding) (d : Effects) : Type 0 where
  pub certified : AreCertified cert shared fs d
  pub handed : IsBeginning (claims_of shared fs) d.proved

pub record InOrder (cert : Option (List ℕ)) (aloud : Bool) (shared : List Declaration) (fs : List Finding) (d : Effects) : Type 0 where
  -- the goals that were handed over are the first that are closed or open, in the order of the file, and each follows
  -- from the laws, its hypotheses and, where it is open, what is left of it
  pub handed : IsBeginning d.proved (claims_of shared fs)
  pub derivable : All IsDerivable d.proved
  pub appended : IsAppended cert shared fs d
  -- an entry is said, even in part, only after the goals up to it were settled, its own too
  pub behind : (front : List Finding) → (f : Finding) → (back : List Finding) → fs ≡ front ++ f ∷ back
      → length (entries_said aloud shared front) < length d.said → AreSettled cert shared (front ++ f ∷ []) d
  -- and so is the last line
  pub last : length (entries_said aloud shared fs) < length d.said → AreSettled cert shared fs d
