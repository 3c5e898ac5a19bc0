-- What a host tells of itself, and what its calls do to that.
use Rattle.std.specs.Prelude.{◌≡◌, ◌≤◌, ◌+◌, ◌-◌, ◌^◌, ℕ, List, ◌∷◌, [], ◌++◌, Bool, true, false, Option, Result, Ok, Err, OnOk, min}
use Rattle.std.specs.Option.{option_map}
use Rattle.alg_expr.specs.declared.memory.Memory.{Memory}
use Rattle.alg_kernel.specs.Claims.{Claim}
use Rattle.alg_host.specs.declared.host.Failed.{Failed}
use Rattle.alg_host.specs.declared.host.LoadFault.{LoadFault}
use Rattle.alg_host.specs.declared.host.LoadFault.TheVariants as load
use Rattle.alg_host.specs.declared.host.CreateFault.{CreateFault}
use Rattle.alg_host.specs.declared.host.CreateFault.TheVariants as create

-- a call that loads or creates a file: its path, and whether it answered Ok
pub data Call : Type 0 where
  Loads : (path : List ℕ) → (ok : Bool) → Call
  Creates : (path : List ℕ) → (ok : Bool) → Call

-- what a host may tell
pub record Told : Type 0 where
  -- the bytes of each file, by its path
  pub files : List ℕ → Option (List ℕ)
  -- the calls that load or create, the first one first
  pub calls : List Call
  -- the bytes appended to the created file
  pub appended : List ℕ
  -- the bytes on standard output
  pub said : List ℕ
  -- the bytes on standard error
  pub complained : List ℕ
  -- the checked goals that were handed over, the first one first
  pub proved : List Claim

-- a count of 64 bits has risen, or stands at its end
pub record HasRisen (before now : ℕ) : Type 0 where
  pub not_fallen : before ≤ now
  pub risen : min (before + 1) (2 ^ 64 - 1) ≤ now

-- the count rises where a call fails, and stays elsewhere
abbrev pub Counts : {T : Type 0} → ℕ → ℕ → Result T Failed → Type 0
Counts before now (Ok _) = now ≡ before
Counts before now (Err _) = HasRisen before now

-- the same of a call that loads: a file that is too long, or want of memory, is no failure
abbrev pub CountsLoad : {T : Type 0} → ℕ → ℕ → Result T LoadFault → Type 0
CountsLoad before now (Err load.Failed) = HasRisen before now
CountsLoad before now _ = now ≡ before

-- the same of a call that creates
abbrev pub CountsCreate : {T : Type 0} → ℕ → ℕ → Result T CreateFault → Type 0
CountsCreate before now (Err create.Failed) = HasRisen before now
CountsCreate before now _ = now ≡ before

abbrev pub IsPrefix : List ℕ → List ℕ → Type 0
IsPrefix part whole = (rest : List ℕ) × (whole ≡ part ++ rest)

abbrev pub called : Call → Told → Told
called call t = record t { calls = t.calls ++ call ∷ [] }

-- a call that loads is told, but for want of memory
abbrev pub after_load : {V : Type 0} → List ℕ → Result V LoadFault → Option Told → Option Told
after_load path (Ok _) t = option_map (called (Loads path true)) t
after_load path (Err load.Memory) t = t
after_load path (Err _) t = option_map (called (Loads path false)) t

-- nothing is appended to a file that was just created
abbrev pub created : List ℕ → Told → Told
created path t = record (called (Creates path true) t) { appended = [] }

-- a call that creates is told, but for want of memory
abbrev pub after_create : {V : Type 0} → List ℕ → Result V CreateFault → Option Told → Option Told
after_create path (Ok _) t = option_map (created path) t
after_create path (Err create.Memory) t = t
after_create path (Err create.Failed) t = option_map (called (Creates path false)) t

abbrev pub adds_appended : List ℕ → Told → Told
adds_appended bytes t = record t { appended = t.appended ++ bytes }

abbrev pub adds_said : List ℕ → Told → Told
adds_said bytes t = record t { said = t.said ++ bytes }

abbrev pub adds_complained : List ℕ → Told → Told
adds_complained bytes t = record t { complained = t.complained ++ bytes }

-- a call that adds a piece adds all of it, or fails and adds a prefix of it
abbrev pub Adds : {T E : Type 0} → (List ℕ → Told → Told) → List ℕ → Result T E → Option Told → Option Told → Type 0
Adds adds piece result before now = (part : List ℕ) × IsPrefix part piece × OnOk result (part ≡ piece) × (now ≡ option_map (adds part) before)

abbrev pub adds_proved : Claim → Told → Told
adds_proved claim t = record t { proved = t.proved ++ claim ∷ [] }

-- a checked goal that is handed over is told, but for want of memory
abbrev pub after_proved : {V : Type 0} → Claim → Result V Memory → Option Told → Option Told
after_proved claim (Ok _) t = option_map (adds_proved claim) t
after_proved claim (Err _) t = t
