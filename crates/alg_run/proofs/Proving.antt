-- What is done for the goals of a file, from what its parts did.
use Rattle.std.proofs.Common.{◌≡◌, ℕ, ◌<◌, ◌≤◌, List, length, refl, sym, ◌∙◌, Bool, true, false, Some, None, inl, inr, subst}
use Rattle.std.specs.Prelude.{Option, Result, Ok, Err, IsErrOf, IfSome, IsSomeAnd}
use Rattle.std.specs.Str.{IsUtf8}
use Rattle.std.specs.Option.{option_map}
use Rattle.alg_host.specs.Host.{Told, Loads, called}
use Rattle.alg_host.specs.declared.host.LoadFault.{LoadFault}
use Rattle.alg_host.specs.declared.host.LoadFault.TheVariants as load
use Rattle.alg_steps.specs.Stepped.{Steps}
use Rattle.alg_report.specs.Effects.{Effects, nothing, asks, after, and_then, Does}
use Rattle.alg_report.specs.Report.{findings_of}
use Rattle.alg_report.specs.Plan.{AreWhole, plan_over}
use Rattle.alg_report.proofs.Doing.{does_nothing, does_ask, does_then}
use Rattle.alg_report.proofs.Reaching.{then_nothing}
use Rattle.alg_report.proofs.Telling.{all_said, all_handed, all_called, begun_said}
use Rattle.alg_report.proofs.Certifying.{all_certified}
use Rattle.alg_report.proofs.Ordering.{in_order}
use Rattle.alg_run.specs.Run.{Works, Proves, Demonstrates, Whole, Begun, Stopped}
use Rattle.alg_run.specs.Loaded.{Loaded, most_bytes}
use Rattle.alg_run.specs.Work.{DidRead, DidText}
use Rattle.alg_run.specs.Demonstration.{demonstration_text}
use Rattle.alg_run.specs.declared.events.Stop.{Stop}
use Rattle.alg_run.specs.declared.events.Stop.TheVariants as stop
use Rattle.alg_run.specs.declared.status.Ending.TheVariants as ending

-- a text was read

pub was_read : (f : Steps) (cert : Option (List ℕ)) (aloud : Bool) (text : List ℕ) (m b : Option Told) (r : Result Bool Stop) → (r ≡ Err stop.Memory → ⊥) → DidText f cert aloud text m b r → DidRead f cert aloud text m b r
was_read f cert aloud text m b r other (inl did) = did
was_read f cert aloud text m b r other (inr wanting) = absurd (other wanting.0)

pub begun : (f : Steps) (cert : Option (List ℕ)) (aloud : Bool) (text : List ℕ) (m b : Option Told) (r : Result Bool Stop) → (did : DidRead f cert aloud text m b r) → Begun f cert aloud text did.did.effects
begun f cert aloud text m b r did = record {
  utf8 = did.utf8;
  told = did.told;
  tells = did.tells;
  reached = did.did.reached;
  said = begun_said cert aloud did.tells.end.shared (findings_of f did.tells.end.shared did.told) did.did.effects did.did.reached;
  order = in_order cert aloud did.tells.end.shared (findings_of f did.tells.end.shared did.told) did.did.effects did.did.reached;
}

pub whole : (f : Steps) (cert : Option (List ℕ)) (aloud : Bool) (text : List ℕ) (m b : Option Told) (all : Bool) (r : Result Bool Stop) → r ≡ Ok all → (did : DidRead f cert aloud text m b r) → Whole f cert aloud text all did.did.effects
whole f cert aloud text m b all r is did =
    let shared = did.tells.end.shared in
    let fs = findings_of f shared did.told in
    let done : AreWhole (plan_over cert aloud shared fs) did.did.effects = rw is at did.did.all in
    record {
      utf8 = did.utf8;
      told = did.told;
      tells = did.tells;
      calls = all_called cert aloud shared fs did.did.effects done;
      said = all_said cert aloud shared fs did.did.effects done;
      proved = all_handed cert aloud shared fs did.did.effects done;
      certified = all_certified cert aloud shared fs did.did.effects done;
      closed = rw is at did.closed;
      order = in_order cert aloud shared fs did.did.effects did.did.reached;
    }

-- the file isn't loaded

pub no_load : (a b : Option Told) (f : Steps) (file : List ℕ) (cert : Option (List ℕ)) → b ≡ option_map (called (Loads file false)) a → Works a b (Proves f file cert ending.HostFailed)
no_load None b f file cert e = tt
no_load (Some t) b f file cert e = (asks (Loads file false), does_ask (Loads file false) (Some t) b e, inr refl)

pub no_memory_to_load : (a b : Option Told) (f : Steps) (file : List ℕ) (cert : Option (List ℕ)) → b ≡ a → Works a b (Proves f file cert ending.Memory)
no_memory_to_load None b f file cert e = tt
no_memory_to_load (Some t) b f file cert e = (nothing, e ∙ does_nothing (Some t), inr (inr refl))

some_and : (o : Option (List ℕ)) (P : List ℕ → Type 0) → IsSomeAnd o P → (bytes : List ℕ) × (o ≡ Some bytes) × P bytes
some_and None P h = absurd h
some_and (Some bytes) P h = (bytes, refl, h)

pub too_long : (T : Type 0) (a b : Option Told) (f : Steps) (file : List ℕ) (cert : Option (List ℕ)) → b ≡ option_map (called (Loads file false)) a
    → IfSome a (λ t. IsErrOf {T = T} {E = LoadFault} (Err load.TooLong) load.TooLong → IsSomeAnd (t.files file) (λ bytes. most_bytes < length bytes)) → Works a b (Proves f file cert ending.TooLong)
too_long T None b f file cert e h = tt
too_long T (Some t) b f file cert e h =
    let long = some_and (t.files file) (λ bytes. most_bytes < length bytes) (h refl) in
    (asks (Loads file false), does_ask (Loads file false) (Some t) b e, record { bytes = long.0; found = long.1; beyond = long.2; refused = refl })

-- it is, and nothing else is done

loaded_only : (file bytes : List ℕ) (t : Told) → t.files file ≡ Some bytes → length bytes ≤ most_bytes → Loaded file bytes t nothing (asks (Loads file true))
loaded_only file bytes t found within = record { found = found; within = within; both = sym (then_nothing _) }

pub not_text : (a m : Option Told) (f : Steps) (file bytes : List ℕ) (cert : Option (List ℕ)) → m ≡ option_map (called (Loads file true)) a → IfSome a (λ t. t.files file ≡ Some bytes) → length bytes ≤ most_bytes → ¬ (IsUtf8 bytes)
    → Works a m (Proves f file cert ending.NotText)
not_text None m f file bytes cert e found within bad = tt
not_text (Some t) m f file bytes cert e found within bad =
    (asks (Loads file true), does_ask (Loads file true) (Some t) m e, record { bytes = bytes; loaded = loaded_only file bytes t found within; not_text = bad })

-- it is, and then read

does_after_load : (file : List ℕ) (t : Told) (m b : Option Told) (rest : Effects) → m ≡ Some (called (Loads file true) t) → Does m b rest → b ≡ Some (after (and_then (asks (Loads file true)) rest) t)
does_after_load file t m b rest e does = does_then (Some t) m b (asks (Loads file true)) rest (does_ask (Loads file true) (Some t) m e) does

stopped : (file bytes : List ℕ) (f : Steps) (cert : Option (List ℕ)) (t : Told) (m b : Option Told) (r : Result Bool Stop) → t.files file ≡ Some bytes → length bytes ≤ most_bytes → (did : DidRead f cert true bytes m b r)
    → Stopped f file cert t (and_then (asks (Loads file true)) did.did.effects)
stopped file bytes f cert t m b r found within did = record {
  bytes = bytes;
  rest = did.did.effects;
  loaded = record { found = found; within = within; both = refl };
  begun = begun f cert true bytes m b r did;
}

pub host_failed : (a m b : Option Told) (f : Steps) (file bytes : List ℕ) (cert : Option (List ℕ)) (r : Result Bool Stop) → m ≡ option_map (called (Loads file true)) a → IfSome a (λ t. t.files file ≡ Some bytes) → length bytes ≤ most_bytes
    → r ≡ Err stop.HostFailed → DidText f cert true bytes m b r → Works a b (Proves f file cert ending.HostFailed)
host_failed None m b f file bytes cert r e found within is did = tt
host_failed (Some t) m b f file bytes cert r e found within is did =
    let done = was_read f cert true bytes m b r (λ h. cc) did in
    (and_then (asks (Loads file true)) done.did.effects, does_after_load file t m b done.did.effects e done.did.does, inl (stopped file bytes f cert t m b r found within done))

pub no_memory : (a m b : Option Told) (f : Steps) (file bytes : List ℕ) (cert : Option (List ℕ)) (r : Result Bool Stop) → m ≡ option_map (called (Loads file true)) a → IfSome a (λ t. t.files file ≡ Some bytes) → length bytes ≤ most_bytes
    → DidText f cert true bytes m b r → Works a b (Proves f file cert ending.Memory)
no_memory None m b f file bytes cert r e found within did = tt
no_memory (Some t) m b f file bytes cert r e found within (inl did) =
    (and_then (asks (Loads file true)) did.did.effects, does_after_load file t m b did.did.effects e did.did.does, inl (stopped file bytes f cert t m b r found within did))
no_memory (Some t) m b f file bytes cert r e found within (inr wanting) =
    (asks (Loads file true), wanting.1 ∙ does_ask (Loads file true) (Some t) m e, inr (inl (record { bytes = bytes; loaded = loaded_only file bytes t found within })))

pub done : (a m b : Option Told) (f : Steps) (file bytes : List ℕ) (cert : Option (List ℕ)) (all : Bool) (r : Result Bool Stop) → m ≡ option_map (called (Loads file true)) a → IfSome a (λ t. t.files file ≡ Some bytes) → length bytes ≤ most_bytes
    → r ≡ Ok all → DidText f cert true bytes m b r → Works a b (Proves f file cert (ending.Done all))
done None m b f file bytes cert all r e found within is did = tt
done (Some t) m b f file bytes cert all r e found within is did =
    let read = was_read f cert true bytes m b r (λ h. cc) did in (
      and_then (asks (Loads file true)) read.did.effects,
      does_after_load file t m b read.did.effects e read.did.does,
      record { bytes = bytes; rest = read.did.effects; loaded = record { found = found; within = within; both = refl }; whole = whole f cert true bytes m b all r is read },
    )

-- the demonstration

of_text : (f : Steps) (count : ℕ) (text : List ℕ) (a b : Option Told) (r : Result Bool Stop) → text ≡ demonstration_text count → DidText f None false text a b r → DidText f None false (demonstration_text count) a b r
of_text f count text a b r e did = subst (λ (t : List ℕ). DidText f None false t a b r) e did

pub demo_done : (a b : Option Told) (f : Steps) (count : ℕ) (text : List ℕ) (all : Bool) (r : Result Bool Stop) → text ≡ demonstration_text count → r ≡ Ok all → DidText f None false text a b r
    → Works a b (λ t d. Demonstrates f count (ending.Done all) d)
demo_done None b f count text all r e is did = tt
demo_done (Some t) b f count text all r e is did =
    let read = was_read f None false (demonstration_text count) (Some t) b r (λ h. cc) (of_text f count text (Some t) b r e did) in
    (read.did.effects, read.did.does, whole f None false (demonstration_text count) (Some t) b all r is read)

pub demo_failed : (a b : Option Told) (f : Steps) (count : ℕ) (text : List ℕ) (r : Result Bool Stop) → text ≡ demonstration_text count → r ≡ Err stop.HostFailed → DidText f None false text a b r
    → Works a b (λ t d. Demonstrates f count ending.HostFailed d)
demo_failed None b f count text r e is did = tt
demo_failed (Some t) b f count text r e is did =
    let read = was_read f None false (demonstration_text count) (Some t) b r (λ h. cc) (of_text f count text (Some t) b r e did) in
    (read.did.effects, read.did.does, begun f None false (demonstration_text count) (Some t) b r read)

demo_by : (t : Told) (b : Option Told) (f : Steps) (count : ℕ) (r : Result Bool Stop) → DidText f None false (demonstration_text count) (Some t) b r → Works (Some t) b (λ t d. Demonstrates f count ending.Memory d)
demo_by t b f count r (inl did) = (did.did.effects, did.did.does, inl (begun f None false (demonstration_text count) (Some t) b r did))
demo_by t b f count r (inr wanting) = (nothing, wanting.1 ∙ does_nothing (Some t), inr refl)

pub demo_no_memory : (a b : Option Told) (f : Steps) (count : ℕ) (text : List ℕ) (r : Result Bool Stop) → text ≡ demonstration_text count → DidText f None false text a b r → Works a b (λ t d. Demonstrates f count ending.Memory d)
demo_no_memory None b f count text r e did = tt
demo_no_memory (Some t) b f count text r e did = demo_by t b f count r (of_text f count text (Some t) b r e did)

pub demo_no_text : (a : Option Told) (f : Steps) (count : ℕ) → Works a a (λ t d. Demonstrates f count ending.Memory d)
demo_no_text None f count = tt
demo_no_text (Some t) f count = (nothing, does_nothing (Some t), inr refl)
