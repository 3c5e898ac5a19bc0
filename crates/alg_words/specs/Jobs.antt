-- What the words on the command line ask for.
use Rattle.std.specs.Prelude.{ℕ, ◌≤◌, ⊤, List, [], ◌∷◌, Option, Some, None, codes, if◌then◌else◌}
use Rattle.std.specs.Str.{bytes_eq}
use Rattle.clap.specs.Words.{Text, fault_of}
use Rattle.clap.specs.Kinds.{Kinds}
use Rattle.alg_words.specs.Counts.{count_of}
use Rattle.alg_words.specs.Words.{algebra, value_at, text_in}
use Rattle.alg_words.specs.declared.job.Job as code
use Rattle.alg_words.specs.declared.job.Job.TheVariants as code_job

pub data Job : Type 0 where
  -- the words ask for nothing that there is
  Usage : Job
  -- to prove the goals of a file, and to write a certificate where a path for it is given; without the extensions that a
  -- list names, where there is one
  Prove : (file : Text) → (cert without : Option Text) → Job
  -- to check a certificate for a file
  Check : (file : Text) → (cert : Text) → Job
  -- to prove the goals of the demonstration with so many lines
  Demo : (count : ℕ) → (without : Option Text) → Job

abbrev pub prove_job : (file : Text) (second cert without : Option Text) → Job
prove_job file None cert without = Prove file cert without
prove_job file (Some second) cert without = Usage

abbrev pub check_job : (file : Text) (second cert without : Option Text) → Job
check_job file second (Some out) without = Usage
check_job file second None (Some list) = Usage
check_job file (Some cert) None None = Check file cert
check_job file None None None = Usage

abbrev pub demo_by : Option ℕ → (without : Option Text) → Job
demo_by None without = Usage
demo_by (Some n) without = Demo n without

abbrev pub demo_job : (first : Text) (second cert without : Option Text) → Job
demo_job first (Some second) cert without = Usage
demo_job first None (Some out) without = Usage
demo_job first None None without = demo_by (count_of first) without

abbrev pub job_in_mode : (mode first : Text) (second cert without : Option Text) → Job
job_in_mode mode first second cert without =
    if bytes_eq mode (codes "prove") then prove_job first second cert without
    else (if bytes_eq mode (codes "check") then check_job first second cert without
    else (if bytes_eq mode (codes "demo") then demo_job first second cert without else Usage))

abbrev pub job_with : (mode first second cert without : Option Text) → Job
job_with None first second cert without = Usage
job_with (Some mode) None second cert without = Usage
job_with (Some mode) (Some first) second cert without = job_in_mode mode first second cert without

-- what the command refuses asks for nothing
abbrev pub job_unless : Kinds → Job → Job
job_unless [] job = job
job_unless (fault ∷ faults) job = Usage

-- the words begin with the program's name
abbrev pub job_of : List Text → Job
job_of words =
    job_unless (fault_of algebra words)
    (job_with (value_at (codes "mode") words) (value_at (codes "first") words) (value_at (codes "second") words) (value_at (codes "cert") words) (value_at (codes "without") words))

abbrev pub job_seen : code.Job → Job
job_seen code_job.Usage = Usage
job_seen (code_job.Prove file cert without) = Prove file.now (text_in cert) (text_in without)
job_seen (code_job.Check file cert) = Check file.now cert.now
job_seen (code_job.Demo count without) = Demo count (text_in without)

-- a demonstration has at most 10,000 lines
abbrev pub IsShort : code.Job → Type 0
IsShort (code_job.Demo count without) = count ≤ 10000
IsShort code_job.Usage = ⊤
IsShort (code_job.Prove file cert without) = ⊤
IsShort (code_job.Check file cert) = ⊤
