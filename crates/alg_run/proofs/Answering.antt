-- What the top call answers, from what its parts did.
use Rattle.std.proofs.Common.{◌≡◌, ℕ, ◌<◌, ◌≤◌, List, length, map, refl, ap, ap₂, sym, ◌∙◌, Bool, false, Some, None, inl, inr, arith, subst}
use Rattle.std.specs.Prelude.{◌≢◌, ◌↔◌, ◌⊎◌, Option, Ok, IfSome}
use Rattle.std.specs.Str.{IsUtf8}
use Rattle.std.specs.Option.{option_map}
use Rattle.alg_host.specs.Host.{Told, HasRisen, adds_complained}
use Rattle.alg_words.specs.Jobs.{Job, Usage, Prove, Check, Demo}
use Rattle.alg_steps.specs.Stepped.{Steps}
use Rattle.alg_report.specs.Effects.{Effects, nothing}
use Rattle.alg_report.proofs.Doing.{does_nothing}
use Rattle.alg_terms.specs.declared.symbols.Sym.{Sym}
use Rattle.alg_exts.specs.Covers.{Cover}
use Rattle.alg_exts.specs.Lists.{listed, Switched}
use Rattle.alg_exts.specs.declared.lists.Switches.{Switches}
use Rattle.alg_steps.specs.Calling.{cover_of}
use Rattle.alg_run.specs.Asking.{asked, asked_if, known_among, steps_under}
use Rattle.alg_run.specs.Complaining.{Complaint}
use Rattle.alg_run.specs.Run.{Works, Proves, Demonstrates, Answers, IsFile, IsReady, IsBadFile, IsBadCertificate, IsBad, IsDone, Ends, status_of, complaint_of}
use Rattle.alg_run.specs.Loaded.{most_bytes, most_certificate_bytes}
use Rattle.alg_run.specs.declared.status.Status.{Status}
use Rattle.alg_run.specs.declared.status.Status.TheVariants as status
use Rattle.alg_run.specs.declared.status.Ending.{Ending}
use Rattle.alg_run.specs.declared.status.Ending.TheVariants as ending

-- the words ask for nothing

nothing_done : (a : Option Told) (steps : Option (List ℕ) → Steps) (job : Job) (e : Ending) → ((t : Told) → Answers steps job e t nothing) → Works a a (Answers steps job e)
nothing_done None steps job e h = tt
nothing_done (Some t) steps job e h = (nothing, does_nothing (Some t), h t)

pub declined : (a : Option Told) (steps : Option (List ℕ) → Steps) (job : Job) → job ≡ Usage → Works a a (Answers steps job ending.Usage)
declined a steps job e = nothing_done a steps job ending.Usage (rw e (λ t. refl))

no_memory_for : (steps : Option (List ℕ) → Steps) (job : Job) (t : Told) → Answers steps job ending.Memory t nothing
no_memory_for steps Usage t = refl
no_memory_for steps (Check file cert) t = inr (inr (inr refl))
no_memory_for steps (Prove file cert without) t = inr (inr refl)
no_memory_for steps (Demo count without) t = inr refl

pub no_memory_for_words : (a : Option Told) (steps : Option (List ℕ) → Steps) (job : Job) → Works a a (Answers steps job ending.Memory)
no_memory_for_words a steps job = nothing_done a steps job ending.Memory (no_memory_for steps job)

-- the words ask for nothing, and are asked for under a list
pub asked_nothing : (a : Option Told) (steps : Option (List ℕ) → Steps) (known : Option (List ℕ) → Bool) (job : Job) → Usage ≡ job → Works a a (Answers steps (asked known job) ending.Usage)
asked_nothing a steps known job e = declined a steps (asked known job) (sym (ap (asked known) e))

-- a list that is known, or isn't

left : {N S : Type 0} (step : Cover → Steps) (num_title : N → List ℕ) (covers : N → Sym → Bool) (sign_title : S → List ℕ) (handles : S → Sym → Bool) (num : List N) (sign : List S) (without : Option (List ℕ)) (on handled : List Bool) (s : Switches)
    → on ≡ s.num.items → handled ≡ s.sign.items → Switched (Ok s) (listed without) (map num_title num) (map sign_title sign)
    → step (cover_of covers handles num on sign handled) ≡ steps_under step num_title covers sign_title handles num sign without
left step num_title covers sign_title handles num sign without on handled s e f h = ap₂ (λ x y. step (cover_of covers handles num x sign y)) (e ∙ h.1) (f ∙ h.2)

pub proves_left : {N S : Type 0} (step : Cover → Steps) (num_title : N → List ℕ) (covers : N → Sym → Bool) (sign_title : S → List ℕ) (handles : S → Sym → Bool) (num : List N) (sign : List S) (without : Option (List ℕ)) (on handled : List Bool) (s : Switches)
    (a b : Option Told) (file : List ℕ) (cert : Option (List ℕ)) (e : Ending) → on ≡ s.num.items → handled ≡ s.sign.items → Switched (Ok s) (listed without) (map num_title num) (map sign_title sign)
    → Works a b (Proves (step (cover_of covers handles num on sign handled)) file cert e)
    → Works a b (Answers (steps_under step num_title covers sign_title handles num sign) (asked (known_among (map num_title num) (map sign_title sign)) (Prove file cert without)) e)
proves_left step num_title covers sign_title handles num sign without on handled s a b file cert e f g h works =
    let same = left step num_title covers sign_title handles num sign without on handled s f g h in
    subst (λ (k : Bool). Works a b (Answers (steps_under step num_title covers sign_title handles num sign) (asked_if k (Prove file cert without)) e)) (sym h.0) (subst (λ (f : Steps). Works a b (Proves f file cert e)) same works)

pub demonstrates_left : {N S : Type 0} (step : Cover → Steps) (num_title : N → List ℕ) (covers : N → Sym → Bool) (sign_title : S → List ℕ) (handles : S → Sym → Bool) (num : List N) (sign : List S) (without : Option (List ℕ)) (on handled : List Bool) (s : Switches)
    (a b : Option Told) (count : ℕ) (e : Ending) → on ≡ s.num.items → handled ≡ s.sign.items → Switched (Ok s) (listed without) (map num_title num) (map sign_title sign)
    → Works a b (λ t d. Demonstrates (step (cover_of covers handles num on sign handled)) count e d)
    → Works a b (Answers (steps_under step num_title covers sign_title handles num sign) (asked (known_among (map num_title num) (map sign_title sign)) (Demo count without)) e)
demonstrates_left step num_title covers sign_title handles num sign without on handled s a b count e f g h works =
    let same = left step num_title covers sign_title handles num sign without on handled s f g h in
    subst (λ (k : Bool). Works a b (Answers (steps_under step num_title covers sign_title handles num sign) (asked_if k (Demo count without)) e)) (sym h.0) (subst (λ (f : Steps). Works a b (λ t d. Demonstrates f count e d)) same works)

pub proves_nothing : (a : Option Told) (steps : Option (List ℕ) → Steps) (known : Option (List ℕ) → Bool) (file : List ℕ) (cert without : Option (List ℕ)) → known without ≡ false
    → Works a a (Answers steps (asked known (Prove file cert without)) ending.Usage)
proves_nothing a steps known file cert without is = declined a steps (asked known (Prove file cert without)) (ap (λ k. asked_if k (Prove file cert without)) is)

pub demonstrates_nothing : (a : Option Told) (steps : Option (List ℕ) → Steps) (known : Option (List ℕ) → Bool) (count : ℕ) (without : Option (List ℕ)) → known without ≡ false
    → Works a a (Answers steps (asked known (Demo count without)) ending.Usage)
demonstrates_nothing a steps known count without is = declined a steps (asked known (Demo count without)) (ap (λ k. asked_if k (Demo count without)) is)

-- the complaint comes last

pub ended : (a m b : Option Told) (steps : Option (List ℕ) → Steps) (job : Job) (e : Ending) (s : Status) (before middle now : ℕ) → s ≡ status_of e → middle ≡ before → Works a m (Answers steps job e) → Complaint (complaint_of e) middle now m b
    → Ends steps job s before now a b
ended None m b steps job e s before middle now is same works c = tt
ended (Some t) m b steps job e s before middle now is same works c = record {
  ending = e;
  is = is;
  done = works.0;
  answers = works.2;
  complaint = c.part;
  complains = rw same at c.complains;
  told = c.told ∙ ap (option_map (adds_complained c.part)) works.1;
}

-- bad input

same_bytes : (x y : List ℕ) (o : Option (List ℕ)) → o ≡ Some x → o ≡ Some y → x ≡ y
same_bytes x y o e f = cc

not_too_long : (x y : List ℕ) (most : ℕ) → x ≡ y → most < length x → length y ≤ most → ⊥
not_too_long x y most e l m = omega (arith, (rw e at l), m)

-- a file that was loaded, and is UTF-8, isn't bad
good_file : (t : Told) (file bytes : List ℕ) → t.files file ≡ Some bytes → length bytes ≤ most_bytes → IsUtf8 bytes → IsBadFile t file → ⊥
good_file t file bytes found within utf8 h = by_cause h.bad
  where
    by_cause : (most_bytes < length h.bytes) ⊎ (¬ (IsUtf8 h.bytes)) → ⊥
    by_cause (inl long) = not_too_long h.bytes bytes most_bytes (same_bytes h.bytes bytes (t.files file) h.found found) long within
    by_cause (inr bad) = bad (subst (λ (l : List ℕ). IsUtf8 l) (same_bytes bytes h.bytes (t.files file) found h.found) utf8)

good_certificate : (t : Told) (cert bytes : List ℕ) → t.files cert ≡ Some bytes → length bytes ≤ most_certificate_bytes → IsBadCertificate t cert → ⊥
good_certificate t cert bytes found within h = not_too_long h.bytes bytes most_certificate_bytes (same_bytes h.bytes bytes (t.files cert) h.found found) h.bad within

neither : {A B : Type 0} → (A → ⊥) → (B → ⊥) → A ⊎ B → ⊥
neither f g (inl a) = f a
neither f g (inr b) = g b

not_bad : (s : Status) (P : Type 0) → (s ≡ status.BadInput → ⊥) → (P → ⊥) → s ≡ status.BadInput ↔ P
not_bad s P other none = (λ e. absurd (other e), λ p. absurd (none p))

is_bad : (s : Status) (P : Type 0) → s ≡ status.BadInput → P → s ≡ status.BadInput ↔ P
is_bad s P e p = (λ h. p, λ h. e)

bad_by : (steps : Option (List ℕ) → Steps) (job : Job) (e : Ending) (t : Told) (d : Effects) → Answers steps job e t d → status_of e ≢ status.HostFailed → status_of e ≢ status.Memory → status_of e ≡ status.BadInput ↔ IsBad job t
bad_by steps job ending.HostFailed t d answers failed memory = absurd (failed refl)
bad_by steps job ending.Memory t d answers failed memory = absurd (memory refl)
bad_by steps Usage ending.Usage t d answers failed memory = not_bad status.Usage ⊥ (λ e. cc) (λ h. h)
bad_by steps Usage (ending.Done all) t d answers failed memory = absurd answers
bad_by steps Usage ending.TooLong t d answers failed memory = absurd answers
bad_by steps Usage ending.NotText t d answers failed memory = absurd answers
bad_by steps (Check file cert) ending.Usage t d answers failed memory = absurd answers
bad_by steps (Check file cert) (ending.Done all) t d c failed memory =
    not_bad (status.Done all) (IsBadFile t file ⊎ IsBadCertificate t cert) (λ e. cc) (neither (good_file t file c.bytes c.loaded.loaded.found c.loaded.loaded.within c.utf8) (good_certificate t cert c.certificate c.loaded.found c.loaded.within))
bad_by steps (Check file cert) ending.TooLong t d (inl long) failed memory = is_bad status.BadInput (IsBadFile t file ⊎ IsBadCertificate t cert) refl (inl (record { bytes = long.bytes; found = long.found; bad = inl long.beyond }))
bad_by steps (Check file cert) ending.TooLong t d (inr long) failed memory = is_bad status.BadInput (IsBadFile t file ⊎ IsBadCertificate t cert) refl (inr (record { bytes = long.certificate; found = long.found; bad = long.beyond }))
bad_by steps (Check file cert) ending.NotText t d bad failed memory = is_bad status.BadInput (IsBadFile t file ⊎ IsBadCertificate t cert) refl (inl (record { bytes = bad.bytes; found = bad.loaded.loaded.found; bad = inr bad.not_text }))
bad_by steps (Prove file cert without) ending.Usage t d answers failed memory = absurd answers
bad_by steps (Prove file cert without) (ending.Done all) t d r failed memory = not_bad (status.Done all) (IsBadFile t file) (λ e. cc) (good_file t file r.bytes r.loaded.found r.loaded.within r.whole.utf8)
bad_by steps (Prove file cert without) ending.TooLong t d long failed memory = is_bad status.BadInput (IsBadFile t file) refl (record { bytes = long.bytes; found = long.found; bad = inl long.beyond })
bad_by steps (Prove file cert without) ending.NotText t d bad failed memory = is_bad status.BadInput (IsBadFile t file) refl (record { bytes = bad.bytes; found = bad.loaded.found; bad = inr bad.not_text })
bad_by steps (Demo count without) ending.Usage t d answers failed memory = absurd answers
bad_by steps (Demo count without) (ending.Done all) t d w failed memory = not_bad (status.Done all) ⊥ (λ e. cc) (λ h. h)
bad_by steps (Demo count without) ending.TooLong t d answers failed memory = absurd answers
bad_by steps (Demo count without) ending.NotText t d answers failed memory = absurd answers

pub bad_input : (a m : Option Told) (steps : Option (List ℕ) → Steps) (job : Job) (e : Ending) (s : Status) → s ≡ status_of e → Works a m (Answers steps job e)
    → IfSome a (λ t. s ≢ status.HostFailed → s ≢ status.Memory → (s ≡ status.BadInput ↔ IsBad job t))
bad_input None m steps job e s is works = tt
bad_input (Some t) m steps job e s is works = rw is (bad_by steps job e t works.0 works.2)

-- completeness

ready_file : (t : Told) (file : List ℕ) → IsFile t file → IsBadFile t file → ⊥
ready_file t file ready bad = good_file t file ready.bytes ready.found ready.within ready.utf8 bad

is_done : (steps : Option (List ℕ) → Steps) (job : Job) (e : Ending) (t : Told) (d : Effects) (before now : ℕ) → Answers steps job e t d → (e ≡ ending.HostFailed → HasRisen before now) → IsReady job t → ¬ (HasRisen before now) → IsDone (status_of e)
is_done steps job ending.Memory t d before now answers failed ready calm = tt
is_done steps job ending.HostFailed t d before now answers failed ready calm = absurd (calm (failed refl))
is_done steps job (ending.Done all) t d before now answers failed ready calm = tt
is_done steps Usage ending.Usage t d before now answers failed ready calm = absurd ready
is_done steps Usage ending.TooLong t d before now answers failed ready calm = absurd ready
is_done steps Usage ending.NotText t d before now answers failed ready calm = absurd ready
is_done steps (Check file cert) ending.Usage t d before now answers failed ready calm = absurd answers
is_done steps (Check file cert) ending.TooLong t d before now (inl long) failed ready calm = absurd (ready_file t file ready.0 (record { bytes = long.bytes; found = long.found; bad = inl long.beyond }))
is_done steps (Check file cert) ending.TooLong t d before now (inr long) failed ready calm =
    absurd (good_certificate t cert ready.1.bytes ready.1.found ready.1.within (record { bytes = long.certificate; found = long.found; bad = long.beyond }))
is_done steps (Check file cert) ending.NotText t d before now bad failed ready calm = absurd (ready_file t file ready.0 (record { bytes = bad.bytes; found = bad.loaded.loaded.found; bad = inr bad.not_text }))
is_done steps (Prove file cert without) ending.Usage t d before now answers failed ready calm = absurd answers
is_done steps (Prove file cert without) ending.TooLong t d before now long failed ready calm = absurd (ready_file t file ready (record { bytes = long.bytes; found = long.found; bad = inl long.beyond }))
is_done steps (Prove file cert without) ending.NotText t d before now bad failed ready calm = absurd (ready_file t file ready (record { bytes = bad.bytes; found = bad.loaded.found; bad = inr bad.not_text }))
is_done steps (Demo count without) ending.Usage t d before now answers failed ready calm = absurd answers
is_done steps (Demo count without) ending.TooLong t d before now answers failed ready calm = absurd answers
is_done steps (Demo count without) ending.NotText t d before now answers failed ready calm = absurd answers

pub complete : (a m : Option Told) (steps : Option (List ℕ) → Steps) (job : Job) (e : Ending) (s : Status) (before middle now : ℕ) → s ≡ status_of e → now ≡ middle → Works a m (Answers steps job e) → (e ≡ ending.HostFailed → HasRisen before middle)
    → IfSome a (λ t. IsReady job t → ¬ (HasRisen before now) → IsDone s)
complete None m steps job e s before middle now is same works failed = tt
complete (Some t) m steps job e s before middle now is same works failed = λ ready calm. rw is (is_done steps job e t works.0 before middle works.2 failed ready (λ h. calm (rw same h)))
