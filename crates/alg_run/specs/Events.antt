-- What the end of a script asks of the host.
use Rattle.std.specs.Prelude.{ℕ, ◌+◌, ⊤, Bool, IsTrue, Option, None, Some}
use Rattle.alg_kernel.specs.Claims.{Claim}
use Rattle.alg_report.specs.declared.tally.Tally.{Tally}
use Rattle.alg_scripts.specs.declared.fates.End.{End}
use Rattle.alg_scripts.specs.declared.fates.End.TheVariants as end
use Rattle.alg_scripts.specs.Fates.{IsEntryFor}

-- what the kernel has checked
abbrev pub claim_in : End → Option Claim
claim_in (end.Closed proof) = Some proof.proved
claim_in (end.Open proof text) = Some proof.proved
claim_in (end.Failed step cause) = None

-- a proof comes with the entry that is wanted
abbrev pub HasEntry : Option ℕ → End → Type 0
HasEntry number (end.Closed proof) = IsEntryFor number proof.proved proof.entry
HasEntry number (end.Open proof text) = IsEntryFor number proof.proved proof.entry
HasEntry number (end.Failed step cause) = ⊤

-- a certificate may be appended to, where one is wanted
abbrev pub MayAppend : Option ℕ → Bool → Type 0
MayAppend None made = ⊤
MayAppend (Some number) made = IsTrue made

abbrev pub with_end : Tally → End → Tally
with_end t (end.Closed proof) = record t { closed = t.closed + 1 }
with_end t (end.Open proof text) = record t { left = t.left + 1 }
with_end t (end.Failed step cause) = record t { failed = t.failed + 1 }
