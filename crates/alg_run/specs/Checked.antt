-- What the check of a certificate does.
use Rattle.std.specs.Prelude.{◌≡◌, ◌↔◌, ℕ, List, Option, Bool, Result, IfOk, IsTrue}
use Rattle.std.specs.Str.{IsUtf8}
use Rattle.alg_lemma.specs.Lemmas.{lemma_table}
use Rattle.alg_law.specs.Declarations.{Declaration}
use Rattle.alg_host.specs.Host.{Told, Adds, IsPrefix, adds_said}
use Rattle.alg_parse.specs.Told as parsed
use Rattle.alg_parse.specs.FileTrees.{Tells}
use Rattle.alg_certificate.specs.Reader.{coming_of}
use Rattle.alg_check.specs.Checking.{SaysOnly}
use Rattle.alg_check.specs.Entries.{Entry, AreEntriesOf}
use Rattle.alg_check.specs.Entries.{SomeEntries}
use Rattle.alg_check.specs.Findings.{Finding, findings, tally_of}
use Rattle.alg_check.specs.Goals.{goals_of}
use Rattle.alg_check.specs.Text.{whole_text}
use Rattle.alg_steps.specs.Stepped.{Steps}
use Rattle.alg_report.specs.Report.{findings_of}
use Rattle.alg_report.specs.Certificate.{IsCertificate}
use Rattle.alg_report.specs.Effects.{Effects, nothing, says}
use Rattle.alg_run.specs.Loaded.{BothLoaded}
use Rattle.alg_run.specs.declared.events.Stop.{Stop}

-- what is found of the entries, against the goals of a file that tells this
abbrev pub found_of : List Declaration → List parsed.Told → List Entry → List Finding
found_of shared told es = findings lemma_table (goals_of shared told) es

-- all that is said of the entries of a certificate
abbrev pub text_of : List Declaration → List parsed.Told → (certificate : List ℕ) → List Entry → List ℕ
text_of shared told certificate es = whole_text (found_of shared told es) (coming_of certificate).fault

-- none of them is refused, and the certificate ends where it may
abbrev pub IsAllAccepted : List Declaration → List parsed.Told → (certificate : List ℕ) → List Entry → Type 0
IsAllAccepted shared told certificate es = (tally_of (found_of shared told es) (coming_of certificate).fault).refused ≡ 0

-- both files were loaded, and the whole text was said, whichever entries the certificate's lines are read as; what
-- certifies the file is accepted, whatever the procedures answer
pub record Checked (file cert : List ℕ) (all_closed : Bool) (t : Told) (d : Effects) : Type 0 where
  pub bytes : List ℕ
  pub certificate : List ℕ
  pub utf8 : IsUtf8 bytes
  pub told : List parsed.Told
  pub tells : Tells bytes told
  pub said : List ℕ
  pub loaded : BothLoaded file cert bytes certificate t (says said) d
  pub some : SomeEntries (coming_of certificate).lines
  pub whole : (es : List Entry) → AreEntriesOf (coming_of certificate).lines es → said ≡ text_of tells.end.shared told certificate es
  pub closed : (es : List Entry) → AreEntriesOf (coming_of certificate).lines es → IsTrue all_closed ↔ IsAllAccepted tells.end.shared told certificate es
  pub accepts : (f : Steps) → IsCertificate tells.end.shared (findings_of f tells.end.shared told) certificate → IsTrue all_closed

-- both files were loaded, and a beginning of it was said
pub record CheckBegun (file cert : List ℕ) (t : Told) (d : Effects) : Type 0 where
  pub bytes : List ℕ
  pub certificate : List ℕ
  pub utf8 : IsUtf8 bytes
  pub told : List parsed.Told
  pub tells : Tells bytes told
  pub said : List ℕ
  pub loaded : BothLoaded file cert bytes certificate t (says said) d
  pub some : SomeEntries (coming_of certificate).lines
  pub beginning : (es : List Entry) → AreEntriesOf (coming_of certificate).lines es → IsPrefix said (text_of tells.end.shared told certificate es)

-- both files were loaded, and nothing else was done
pub record Unchecked (file cert : List ℕ) (t : Told) (d : Effects) : Type 0 where
  pub bytes : List ℕ
  pub certificate : List ℕ
  pub loaded : BothLoaded file cert bytes certificate t nothing d

-- both files were loaded, the first isn't UTF-8, and nothing else was done
pub record CheckNotText (file cert : List ℕ) (t : Told) (d : Effects) : Type 0 where
  pub bytes : List ℕ
  pub certificate : List ℕ
  pub loaded : BothLoaded file cert bytes certificate t nothing d
  pub not_text : ¬ (IsUtf8 bytes)

-- the file's text was read, and the certificate was checked against it: its lines are those of some entries, and what
-- certifies the file is accepted
pub record DidCheck (text certificate : List ℕ) (before now : Option Told) (result : Result Bool Stop) : Type 0 where
  pub utf8 : IsUtf8 text
  pub told : List parsed.Told
  pub tells : Tells text told
  pub only : SaysOnly before now
  pub some : SomeEntries (coming_of certificate).lines
  pub said : (es : List Entry) → AreEntriesOf (coming_of certificate).lines es → Adds adds_said (text_of tells.end.shared told certificate es) result before now
  pub closed : (es : List Entry) → AreEntriesOf (coming_of certificate).lines es → IfOk result (λ all. IsTrue all ↔ IsAllAccepted tells.end.shared told certificate es)
  pub accepts : (f : Steps) → IsCertificate tells.end.shared (findings_of f tells.end.shared told) certificate → IfOk result IsTrue
