-- What a run adds to that which a host tells.
use Rattle.std.specs.Prelude.{◌≡◌, ℕ, List, [], ◌∷◌, ◌++◌, Bool, true, false, ◌||◌, Option, if◌then◌else◌}
use Rattle.std.specs.Option.{option_map}
use Rattle.alg_kernel.specs.Claims.{Claim}
use Rattle.alg_host.specs.Host.{Told, Call, Creates}

pub record Effects : Type 0 where
  -- the calls that load or create
  pub calls : List Call
  -- a file was created
  pub created : Bool
  -- the bytes appended, since the file was created if it was
  pub appended : List ℕ
  pub said : List ℕ
  -- the checked goals that were handed over
  pub proved : List Claim

abbrev pub nothing : Effects
nothing = record { calls = []; created = false; appended = []; said = []; proved = [] }

-- a call that changes nothing else
abbrev pub asks : Call → Effects
asks call = record nothing { calls = call ∷ [] }

abbrev pub creates : List ℕ → Effects
creates path = record nothing { calls = Creates path true ∷ []; created = true }

abbrev pub appends : List ℕ → Effects
appends bytes = record nothing { appended = bytes }

abbrev pub says : List ℕ → Effects
says bytes = record nothing { said = bytes }

abbrev pub hands_over : Claim → Effects
hands_over claim = record nothing { proved = claim ∷ [] }

-- what is appended counts from the last creation on
abbrev pub since_created : Bool → List ℕ → List ℕ → List ℕ
since_created created before added = if created then added else before ++ added

abbrev pub and_then : Effects → Effects → Effects
and_then d e = record {
  calls = d.calls ++ e.calls;
  created = d.created || e.created;
  appended = since_created e.created d.appended e.appended;
  said = d.said ++ e.said;
  proved = d.proved ++ e.proved;
}

abbrev pub after : Effects → Told → Told
after e t = record t {
  calls = t.calls ++ e.calls;
  appended = since_created e.created t.appended e.appended;
  said = t.said ++ e.said;
  proved = t.proved ++ e.proved;
}

-- what the host tells now is what it told before, and then e
abbrev pub Does : Option Told → Option Told → Effects → Type 0
Does before now e = now ≡ option_map (after e) before
