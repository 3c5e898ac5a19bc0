-- What the top call does, by its answer.
use Rattle.std.specs.Prelude.{◌≡◌, ◌≤◌, ◌<◌, ◌⊎◌, ◌↔◌, ⊤, ℕ, List, [], length, Option, None, Some, Bool, true, false, if◌then◌else◌, IsTrue, codes}
use Rattle.std.specs.Str.{IsUtf8}
use Rattle.alg_host.specs.Host.{Told, Loads, IsPrefix, adds_complained}
use Rattle.alg_parse.specs.Told as parsed
use Rattle.alg_parse.specs.FileTrees.{Tells}
use Rattle.alg_words.specs.Jobs.{Job, Usage, Prove, Check, Demo}
use Rattle.alg_steps.specs.Stepped.{Steps}
use Rattle.alg_report.specs.Effects.{Effects, nothing, asks, after}
use Rattle.alg_report.specs.Report.{findings_of, IsAllClosed}
use Rattle.alg_report.specs.Certificate.{claims_of}
use Rattle.alg_report.specs.Plan.{Reached, creation_of, plan_over, text_said}
use Rattle.alg_report.specs.Order.{IsCertified, InOrder}
use Rattle.alg_run.specs.Complaining.{Complains}
use Rattle.alg_run.specs.Loaded.{Loaded, most_bytes, most_certificate_bytes, CertificateRefused, CertificateTooLong}
use Rattle.alg_run.specs.Checked.{Checked, CheckBegun, Unchecked, CheckNotText}
use Rattle.alg_run.specs.Demonstration.{demonstration_text}
use Rattle.alg_run.specs.declared.status.Ending.{Ending}
use Rattle.alg_run.specs.declared.status.Ending.TheVariants as ending
use Rattle.alg_run.specs.declared.status.Status.{Status}
use Rattle.alg_run.specs.declared.status.Status.TheVariants as status

-- the whole work on these bytes was done: each goal as what its script makes of it, in the order of the plan
pub record Whole (f : Steps) (cert : Option (List ℕ)) (aloud : Bool) (bytes : List ℕ) (all_closed : Bool) (d : Effects) : Type 0 where
  pub utf8 : IsUtf8 bytes
  pub told : List parsed.Told
  pub tells : Tells bytes told
  pub calls : d.calls ≡ creation_of cert
  pub said : d.said ≡ text_said aloud tells.end.shared (findings_of f tells.end.shared told)
  pub proved : d.proved ≡ claims_of tells.end.shared (findings_of f tells.end.shared told)
  pub certified : IsCertified cert tells.end.shared (findings_of f tells.end.shared told) d
  pub closed : IsTrue all_closed ↔ IsAllClosed (findings_of f tells.end.shared told)
  -- each goal that was handed over follows from the laws, its hypotheses and, where it is open, what is left of it
  pub order : InOrder cert aloud tells.end.shared (findings_of f tells.end.shared told) d

-- a beginning of it was done
pub record Begun (f : Steps) (cert : Option (List ℕ)) (aloud : Bool) (bytes : List ℕ) (d : Effects) : Type 0 where
  pub utf8 : IsUtf8 bytes
  pub told : List parsed.Told
  pub tells : Tells bytes told
  pub reached : Reached (plan_over cert aloud tells.end.shared (findings_of f tells.end.shared told)) d
  pub said : IsPrefix d.said (text_said aloud tells.end.shared (findings_of f tells.end.shared told))
  pub order : InOrder cert aloud tells.end.shared (findings_of f tells.end.shared told) d

-- the file was loaded, and the whole work on it was done
pub record Reported (f : Steps) (file : List ℕ) (cert : Option (List ℕ)) (all_closed : Bool) (t : Told) (d : Effects) : Type 0 where
  pub bytes : List ℕ
  pub rest : Effects
  pub loaded : Loaded file bytes t rest d
  pub whole : Whole f cert true bytes all_closed rest

-- the file was loaded, and a beginning of the work on it was done
pub record Stopped (f : Steps) (file : List ℕ) (cert : Option (List ℕ)) (t : Told) (d : Effects) : Type 0 where
  pub bytes : List ℕ
  pub rest : Effects
  pub loaded : Loaded file bytes t rest d
  pub begun : Begun f cert true bytes rest

-- the file was loaded, and nothing else was done
pub record Unread (file : List ℕ) (t : Told) (d : Effects) : Type 0 where
  pub bytes : List ℕ
  pub loaded : Loaded file bytes t nothing d

-- the file was loaded and isn't UTF-8, and nothing else was done
pub record NotText (file : List ℕ) (t : Told) (d : Effects) : Type 0 where
  pub bytes : List ℕ
  pub loaded : Loaded file bytes t nothing d
  pub not_text : ¬ (IsUtf8 bytes)

-- the file couldn't be loaded, and nothing else was done
abbrev pub IsRefused : (file : List ℕ) → Effects → Type 0
IsRefused file d = d ≡ asks (Loads file false)

-- the file is longer than what is read, and nothing was done
pub record TooLong (file : List ℕ) (t : Told) (d : Effects) : Type 0 where
  pub bytes : List ℕ
  pub found : t.files file ≡ Some bytes
  pub beyond : most_bytes < length bytes
  pub refused : IsRefused file d

-- the words ask for nothing: the usage is told, or there is no memory to read them
abbrev pub Declines : Ending → Effects → Type 0
Declines ending.Usage d = d ≡ nothing
Declines ending.Memory d = d ≡ nothing
Declines _ d = ⊥

-- what was done, by the answer, where the host told t before: for the goals of a file
abbrev pub Proves : Steps → (file : List ℕ) → (cert : Option (List ℕ)) → Ending → Told → Effects → Type 0
Proves f file cert (ending.Done all_closed) t d = Reported f file cert all_closed t d
Proves f file cert ending.Usage t d = ⊥
Proves f file cert ending.HostFailed t d = Stopped f file cert t d ⊎ IsRefused file d
Proves f file cert ending.TooLong t d = TooLong file t d
Proves f file cert ending.NotText t d = NotText file t d
Proves f file cert ending.Memory t d = Stopped f file cert t d ⊎ (Unread file t d ⊎ (d ≡ nothing))

-- for a certificate
abbrev pub Checks : (file cert : List ℕ) → Ending → Told → Effects → Type 0
Checks file cert (ending.Done all_closed) t d = Checked file cert all_closed t d
Checks file cert ending.Usage t d = ⊥
Checks file cert ending.HostFailed t d = CheckBegun file cert t d ⊎ (CertificateRefused file cert t d ⊎ IsRefused file d)
Checks file cert ending.TooLong t d = TooLong file t d ⊎ CertificateTooLong file cert t d
Checks file cert ending.NotText t d = CheckNotText file cert t d
Checks file cert ending.Memory t d = CheckBegun file cert t d ⊎ (Unchecked file cert t d ⊎ (Unread file t d ⊎ (d ≡ nothing)))

-- for the demonstration, of which the last line alone is said
abbrev pub Demonstrates : Steps → (count : ℕ) → Ending → Effects → Type 0
Demonstrates f count (ending.Done all_closed) d = Whole f None false (demonstration_text count) all_closed d
Demonstrates f count ending.Usage d = ⊥
Demonstrates f count ending.HostFailed d = Begun f None false (demonstration_text count) d
Demonstrates f count ending.TooLong d = ⊥
Demonstrates f count ending.NotText d = ⊥
Demonstrates f count ending.Memory d = Begun f None false (demonstration_text count) d ⊎ (d ≡ nothing)

-- for what the words ask for, where procedures answer this under each list of extensions
abbrev pub Answers : (Option (List ℕ) → Steps) → Job → Ending → Told → Effects → Type 0
Answers steps Usage e t d = Declines e d
Answers steps (Check file cert) e t d = Checks file cert e t d
Answers steps (Prove file cert without) e t d = Proves (steps without) file cert e t d
Answers steps (Demo count without) e t d = Demonstrates (steps without) count e d

-- Where the host tells t before the call, it tells afterwards what some effects make of it, and P holds of these.
abbrev pub Works : Option Told → Option Told → (Told → Effects → Type 0) → Type 0
Works None now P = ⊤
Works (Some t) now P = (d : Effects) × (now ≡ Some (after d t)) × P t d

abbrev pub status_of : Ending → Status
status_of (ending.Done all_closed) = status.Done all_closed
status_of ending.Usage = status.Usage
status_of ending.HostFailed = status.HostFailed
status_of ending.TooLong = status.BadInput
status_of ending.NotText = status.BadInput
status_of ending.Memory = status.Memory

-- the line on standard error
abbrev pub complaint_of : Ending → List ℕ
complaint_of (ending.Done all_closed) = []
complaint_of ending.Usage = codes "usage: algebra prove FILE [--cert OUT] [--without LIST] | check FILE CERT | demo N [--without LIST]\n"
complaint_of ending.HostFailed = codes "algebra: cannot read or write\n"
complaint_of ending.TooLong = codes "algebra: input too long\n"
complaint_of ending.NotText = codes "algebra: input is not UTF-8\n"
complaint_of ending.Memory = codes "algebra: out of memory\n"

-- how a run ended, with what was done and then complained; the counts are those of failed complaints
pub record Ended (steps : Option (List ℕ) → Steps) (job : Job) (s : Status) (before now : ℕ) (t : Told) (later : Option Told) : Type 0 where
  pub ending : Ending
  pub is : s ≡ status_of ending
  pub done : Effects
  pub answers : Answers steps job ending t done
  pub complaint : List ℕ
  pub complains : Complains (complaint_of ending) before now complaint
  pub told : later ≡ Some (adds_complained complaint (after done t))

-- the same where the host tells
abbrev pub Ends : (Option (List ℕ) → Steps) → Job → Status → (before now : ℕ) → Option Told → Option Told → Type 0
Ends steps job s before now None later = ⊤
Ends steps job s before now (Some t) later = Ended steps job s before now t later

-- the words ask for nothing
abbrev pub AsksNothing : Job → Type 0
AsksNothing Usage = ⊤
AsksNothing (Check file cert) = ⊥
AsksNothing (Prove file cert without) = ⊥
AsksNothing (Demo count without) = ⊥

-- a file that there is, that isn't too long, and that is UTF-8
pub record IsFile (t : Told) (file : List ℕ) : Type 0 where
  pub bytes : List ℕ
  pub found : t.files file ≡ Some bytes
  pub within : length bytes ≤ most_bytes
  pub utf8 : IsUtf8 bytes

-- a certificate that there is, and that isn't too long
pub record IsCertificateFile (t : Told) (cert : List ℕ) : Type 0 where
  pub bytes : List ℕ
  pub found : t.files cert ≡ Some bytes
  pub within : length bytes ≤ most_certificate_bytes

-- what the words ask for can be done
abbrev pub IsReady : Job → Told → Type 0
IsReady Usage t = ⊥
IsReady (Check file cert) t = IsFile t file × IsCertificateFile t cert
IsReady (Prove file cert without) t = IsFile t file
IsReady (Demo count without) t = ⊤

-- a file that is too long or isn't UTF-8
pub record IsBadFile (t : Told) (file : List ℕ) : Type 0 where
  pub bytes : List ℕ
  pub found : t.files file ≡ Some bytes
  pub bad : (most_bytes < length bytes) ⊎ (¬ (IsUtf8 bytes))

-- a certificate that is too long
pub record IsBadCertificate (t : Told) (cert : List ℕ) : Type 0 where
  pub bytes : List ℕ
  pub found : t.files cert ≡ Some bytes
  pub bad : most_certificate_bytes < length bytes

-- what is to be read can't be
abbrev pub IsBad : Job → Told → Type 0
IsBad Usage t = ⊥
IsBad (Check file cert) t = IsBadFile t file ⊎ IsBadCertificate t cert
IsBad (Prove file cert without) t = IsBadFile t file
IsBad (Demo count without) t = ⊥

-- the work was done, or memory ran out
abbrev pub IsDone : Status → Type 0
IsDone (status.Done all_closed) = ⊤
IsDone status.Memory = ⊤
IsDone _ = ⊥

-- the exit status
abbrev pub code_of : Status → ℕ
code_of (status.Done all_closed) = if all_closed then 0 else 1
code_of status.Usage = 2
code_of status.HostFailed = 3
code_of status.Memory = 4
code_of status.BadInput = 5
