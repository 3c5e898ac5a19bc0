-- What a host in memory tells, and which of its calls fail.
use Rattle.std.specs.Prelude.{ℕ, List, [], map, false, Option, IsNone, IsTrue, Result, Err, string_bytes, Contains, ◌≡◌, ◌⊎◌, ◌+◌, ◌-◌, ◌^◌, ◌<◌, min, length}
use Rattle.std.specs.Option.{option_map}
use Rattle.std.specs.BTreeMap.{BTreeMap, get_by_text}
use Rattle.std.specs.declared.alloc.Global.{Global}
use Rattle.std.specs.declared.string.String.{String}
use Rattle.std.specs.declared.vec.Vec.{Vec}
use Rattle.alg_host.specs.declared.buffer.Buffer.{Buffer}
use Rattle.alg_host.specs.declared.host.LoadFault.{LoadFault}
use Rattle.alg_host.specs.declared.host.LoadFault.TheVariants as load
use Rattle.alg_host.specs.declared.host.CreateFault.{CreateFault}
use Rattle.alg_host.specs.declared.host.CreateFault.TheVariants as create
use Rattle.alg_host.specs.Host.{Told, Call, Loads, Creates}
use Rattle.alg_host.specs.declared.memory_host.MemoryHost.{MemoryHost}
use Rattle.alg_host.specs.declared.memory_host.FileCall.{FileCall}
use Rattle.alg_host.specs.declared.memory_host.FileCall.TheVariants as call

-- the bytes of each file, by its path
abbrev pub files_of : BTreeMap (String Global) (Vec ℕ Global) → List ℕ → Option (List ℕ)
files_of files path = option_map (λ v. v.items) (get_by_text files path)

abbrev pub call_of : FileCall → Call
call_of (call.Load path ok) = Loads (string_bytes path) ok
call_of (call.Create path ok) = Creates (string_bytes path) ok

abbrev pub told_of : MemoryHost → Told
told_of m = record {
  files = files_of m.files;
  calls = map call_of m.calls.items;
  appended = m.created.bytes.items;
  said = m.said.bytes.items;
  complained = m.complained.bytes.items;
  proved = m.proved.items;
}

-- calls are numbered from 1, up to the end of 64 bits
abbrev pub next_number : ℕ → ℕ
next_number n = min (n + 1) (2 ^ 64 - 1)

-- a call that answers want of memory takes no number
abbrev pub number_after_load : {V : Type 0} → Result V LoadFault → ℕ → ℕ
number_after_load (Err load.Memory) n = n
number_after_load _ n = next_number n

abbrev pub number_after_create : {V : Type 0} → Result V CreateFault → ℕ → ℕ
number_after_create (Err create.Memory) n = n
number_after_create _ n = next_number n

-- the next call is on the list of those that fail
abbrev pub IsToFail : MemoryHost → Type 0
IsToFail m = Contains m.failing.items (next_number m.number)

-- the next call fails where it loads this path: it is on the list, or there is no such file
abbrev pub FailsToLoad : MemoryHost → List ℕ → Type 0
FailsToLoad m path = IsToFail m ⊎ IsNone (files_of m.files path)

-- the next call fails where it creates: it is on the list, or a file was created before
abbrev pub FailsToCreate : MemoryHost → Type 0
FailsToCreate m = IsToFail m ⊎ IsTrue m.made

-- the next call fails where it adds this piece: it is on the list, or the room that is left is too small
abbrev pub FailsToAdd : MemoryHost → Buffer → List ℕ → Type 0
FailsToAdd m buffer piece = IsToFail m ⊎ (buffer.room < length buffer.bytes.items + length piece)

-- the two hosts have room for as many bytes, and the same list of calls that fail
pub record HasSameLimits (m n : MemoryHost) : Type 0 where
  pub failing : n.failing ≡ m.failing
  pub created : n.created.room ≡ m.created.room
  pub said : n.said.room ≡ m.said.room
  pub complained : n.complained.room ≡ m.complained.room

-- a host that no call was made on
pub record IsNew (files : BTreeMap (String Global) (Vec ℕ Global)) (numbers : List ℕ) (limit : ℕ) (m : MemoryHost) : Type 0 where
  pub told : told_of m ≡ record { files = files_of files; calls = []; appended = []; said = []; complained = []; proved = [] }
  pub number : m.number ≡ 0
  pub faults : m.faults ≡ 0
  pub complaint_faults : m.complaint_faults ≡ 0
  pub made : m.made ≡ false
  pub failing : m.failing.items ≡ numbers
  pub created : m.created.room ≡ limit
  pub said : m.said.room ≡ limit
  pub complained : m.complained.room ≡ limit
