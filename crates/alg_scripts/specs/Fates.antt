-- What became of a goal in the code.
use Rattle.std.specs.Prelude.{◌≡◌, ◌≤◌, ℕ, ⊤, List, [], ◌++◌, All, Option, None, Some, IfSome, codes, string_bytes}
use Rattle.std.specs.Global.{Vec}
use Rattle.alg_terms.specs.Tree.{Statement}
use Rattle.alg_law.specs.Declarations.{Declaration}
use Rattle.alg_proof.specs.Steps.{Step}
use Rattle.alg_certificate.specs.Numbers.{max_number}
use Rattle.alg_certificate.specs.InRange.{StepInRange, StatementInRange}
use Rattle.alg_kernel.specs.Claims.{Claim}
use Rattle.alg_show.specs.Text.{shown_text}
use Rattle.alg_report.specs.Judged.{Verdict, Closed, Open, Failed, Judged}
use Rattle.alg_report.specs.Texts.{notes_text, open_text, failed_text}
use Rattle.alg_report.specs.declared.causes.FailCause.TheVariants.{NoGoals}
use Rattle.alg_report.specs.Certificate.{IsEntry, entry_bytes, claims}
use Rattle.alg_scripts.specs.declared.entries.Proof.{Proof}
use Rattle.alg_scripts.specs.declared.fates.End.{End}
use Rattle.alg_scripts.specs.declared.fates.End.TheVariants as end
use Rattle.alg_scripts.specs.declared.fates.Fate.{Fate}

-- a number that a certificate may name
abbrev pub MayNumber : Option ℕ → Type 0
MayNumber None = ⊤
MayNumber (Some number) = (1 ≤ number) × (number ≤ max_number)

-- the bytes of the entry with these steps, whose numbers are in range
abbrev pub IsWritten : Option ℕ → (given : Option Statement) → List Step → Option (Vec ℕ) → Type 0
IsWritten None given steps o = ⊤
IsWritten (Some number) given steps None = ⊥
IsWritten (Some number) given steps (Some bytes) = All StepInRange steps × IfSome given StatementInRange × (bytes.items ≡ entry_bytes number given steps)

-- the bytes of a certificate's entry, where the number of one is given
abbrev pub IsEntryFor : Option ℕ → Claim → Option (Vec ℕ) → Type 0
IsEntryFor None claim o = ⊤
IsEntryFor (Some number) claim None = ⊥
IsEntryFor (Some number) claim (Some bytes) = IsEntry number claim bytes.items

-- the proof is of the claim
abbrev pub IsProofOf : Option ℕ → Claim → Proof → Type 0
IsProofOf number claim p = (p.proved ≡ claim) × IsEntryFor number claim p.entry

-- a goal over these declarations ended so: a closed one with a proof, an open one with a proof from what is left of it
abbrev pub IsEnd : Option ℕ → List Declaration → (goal : Statement) → End → Verdict → Type 0
IsEnd number ds goal (end.Closed proof) v = (v ≡ Closed) × IsProofOf number (claims ds None goal) proof
IsEnd number ds goal (end.Open proof text) v = (s : Statement) × (v ≡ Open s) × IsProofOf number (claims ds (Some s) goal) proof × (string_bytes text ≡ shown_text ds s)
IsEnd number ds goal (end.Failed step cause) v = v ≡ Failed step cause

pub record IsFateOf (number : Option ℕ) (ds : List Declaration) (goal : Statement) (j : Judged) (f : Fate) : Type 0 where
  pub notes : f.notes.items ≡ j.notes
  pub end : IsEnd number ds goal f.end j.verdict

-- what is said of it
abbrev pub end_text : (label : List ℕ) → End → List ℕ
end_text label (end.Closed proof) = label ++ codes ": closed\n"
end_text label (end.Open proof text) = open_text label (string_bytes text)
end_text label (end.Failed step cause) = failed_text label step cause

abbrev pub fate_text : (label : List ℕ) → Fate → List ℕ
fate_text label f = notes_text label f.notes.items ++ end_text label f.end

-- a goal without a procedure
abbrev pub IsWithout : Fate → Type 0
IsWithout f = (f.notes.items ≡ []) × (f.end ≡ end.Failed 1 NoGoals)
