-- What the check of a certificate did.
use Rattle.std.proofs.Common.{◌≡◌, ℕ, ◌<◌, ◌≤◌, List, [], length, refl, ap, sym, ◌∙◌, Bool, true, false, Some, None, Ok, Err, inl, inr, subst}
use Rattle.std.specs.Prelude.{Option, Result, OnOk, IsErrOf, ◌⊎◌, ◌↔◌, IsTrue, IfSome, IsSomeAnd}
use Rattle.std.specs.Str.{IsUtf8}
use Rattle.std.specs.Option.{option_map}
use Rattle.std.proofs.lemmas.List.{append_cancel_left}
use Rattle.alg_law.specs.Rows.{Row}
use Rattle.alg_lemma.specs.Lemmas.{lemma_table}
use Rattle.alg_host.specs.Host.{Told, Loads, IsPrefix, called, adds_said}
use Rattle.alg_host.specs.declared.host.LoadFault.{LoadFault}
use Rattle.alg_host.specs.declared.host.LoadFault.TheVariants as load
use Rattle.alg_parse.specs.declared.file_trees.FileTree.{FileTree}
use Rattle.alg_parse.specs.FileTrees.{IsRead}
use Rattle.alg_steps.specs.Stepped.{Steps}
use Rattle.alg_certificate.specs.Reader.{coming_of}
use Rattle.alg_check.specs.Checking.{Checks, SaysOnly}
use Rattle.alg_check.specs.Entries.{Entry, AreEntriesOf}
use Rattle.alg_check.specs.Entries.{SomeEntries}
use Rattle.alg_check.specs.Goals.{Goal, goals_of, goals_seen}
use Rattle.alg_check.proofs.GoalLaws.{goals_seen-told}
use Rattle.alg_check.specs.Text.{whole_text}
use Rattle.alg_check.specs.declared.tallies.Tally.{Tally}
use Rattle.alg_check.specs.declared.stops.Stop.{Stop as CheckStop}
use Rattle.alg_report.specs.Effects.{Effects, nothing, asks, says, after, and_then, Does}
use Rattle.alg_run.specs.Loaded.{Loaded, BothLoaded, CertificateRefused, most_bytes, most_certificate_bytes}
use Rattle.alg_report.specs.Report.{findings_of}
use Rattle.alg_report.specs.Certificate.{IsCertificate}
use Rattle.alg_run.specs.Checked.{text_of, IsAllAccepted, CheckBegun, DidCheck}
use Rattle.alg_run.specs.Run.{Works, Checks as ChecksFile}
use Rattle.alg_run.specs.declared.events.Stop.{Stop}
use Rattle.alg_run.specs.declared.events.Stop.TheVariants as stop
use Rattle.alg_run.specs.declared.status.Ending.TheVariants as ending
use Rattle.alg_report.proofs.Accepting.{read_room, certifying, nothing_refused}
use Rattle.alg_report.proofs.Doing.{does_nothing, does_ask, does_say, does_then}
use Rattle.alg_report.proofs.Reaching.{then_nothing}

-- over the goals that the file's commands tell

told_checks : (text certificate : List ℕ) (f : FileTree) (rows : List Row) (a b : Option Told) (r : Result Tally CheckStop) (read : IsRead text f) → rows ≡ lemma_table → Checks whole_text rows (goals_seen f) (coming_of certificate) a b r
    → Checks whole_text lemma_table (goals_of read.tells.end.shared read.told) (coming_of certificate) a b r
told_checks text certificate f rows a b r read is checks =
    let same : goals_of read.tells.end.shared read.told ≡ goals_seen f = ap (λ ds. goals_of ds read.told) (sym read.shared) ∙ sym (goals_seen-told f.arena f.shared f.commands read.told read.commands_told) in
    subst (λ (gs : List Goal). Checks whole_text lemma_table gs (coming_of certificate) a b r) (sym same) (subst (λ (rows : List Row). Checks whole_text rows (goals_seen f) (coming_of certificate) a b r) is checks)

on_ok : {T E : Type 0} (r : Result T E) (x : T) (P : Type 0) → r ≡ Ok x → OnOk r P → P
on_ok r x P e p = rw e at p

-- what certifies the file is accepted
certified : (text certificate : List ℕ) (f : FileTree) (all : Bool) (steps : Steps) (read : IsRead text f)
    → ((es : List Entry) → AreEntriesOf (coming_of certificate).lines es → IsTrue all ↔ IsAllAccepted read.tells.end.shared read.told certificate es)
    → IsCertificate read.tells.end.shared (findings_of steps read.tells.end.shared read.told) certificate → IsTrue all
certified text certificate f all steps read closed certifies =
    let c = certifying steps read.tells.end.shared read.told certificate (read_room text f read) certifies in
    (closed c.entries c.are).1 (nothing_refused read.tells.end.shared read.told certificate c)

pub checked : (text certificate : List ℕ) (f : FileTree) (rows : List Row) (a b : Option Told) (r : Result Tally CheckStop) (tally : Tally) (all : Bool) → IsUtf8 text → IsRead text f → rows ≡ lemma_table → SaysOnly a b
    → SomeEntries (coming_of certificate).lines → Checks whole_text rows (goals_seen f) (coming_of certificate) a b r → r ≡ Ok tally → (IsTrue all ↔ tally.refused ≡ 0) → DidCheck text certificate a b (Ok all)
checked text certificate f rows a b r tally all utf8 read rows_are only some checks is accepts =
    let done = told_checks text certificate f rows a b r read rows_are checks in
    let closed : (es : List Entry) → AreEntriesOf (coming_of certificate).lines es → IsTrue all ↔ IsAllAccepted read.tells.end.shared read.told certificate es =
    λ es h. subst (λ (x : Tally). IsTrue all ↔ x.refused ≡ 0) (rw is at (done es h).1) accepts in
    record {
      utf8 = utf8;
      told = read.told;
      tells = read.tells;
      only = only;
      some = some;
      said = λ es h. ((done es h).0.0, (done es h).0.1, on_ok r tally _ is (done es h).0.2, (done es h).0.3);
      closed = closed;
      accepts = λ steps certifies. certified text certificate f all steps read closed certifies;
    }

pub cut_short : (text certificate : List ℕ) (f : FileTree) (rows : List Row) (a b : Option Told) (r : Result Tally CheckStop) (s : Stop) → IsUtf8 text → IsRead text f → rows ≡ lemma_table → SaysOnly a b
    → SomeEntries (coming_of certificate).lines → Checks whole_text rows (goals_seen f) (coming_of certificate) a b r → DidCheck text certificate a b (Err s)
cut_short text certificate f rows a b r s utf8 read rows_are only some checks =
    let done = told_checks text certificate f rows a b r read rows_are checks in
    record {
      utf8 = utf8;
      told = read.told;
      tells = read.tells;
      only = only;
      some = some;
      said = λ es h. ((done es h).0.0, (done es h).0.1, tt, (done es h).0.3);
      closed = λ es h. tt;
      accepts = λ steps certifies. tt;
    }

-- the file isn't loaded

pub no_load : (a b : Option Told) (file cert : List ℕ) → b ≡ option_map (called (Loads file false)) a → Works a b (ChecksFile file cert ending.HostFailed)
no_load None b file cert e = tt
no_load (Some t) b file cert e = (asks (Loads file false), does_ask (Loads file false) (Some t) b e, inr (inr refl))

pub no_memory_to_load : (a b : Option Told) (file cert : List ℕ) → b ≡ a → Works a b (ChecksFile file cert ending.Memory)
no_memory_to_load None b file cert e = tt
no_memory_to_load (Some t) b file cert e = (nothing, e ∙ does_nothing (Some t), inr (inr (inr refl)))

some_and : (o : Option (List ℕ)) (P : List ℕ → Type 0) → IsSomeAnd o P → (bytes : List ℕ) × (o ≡ Some bytes) × P bytes
some_and None P h = absurd h
some_and (Some bytes) P h = (bytes, refl, h)

pub too_long : (T : Type 0) (a b : Option Told) (file cert : List ℕ) → b ≡ option_map (called (Loads file false)) a
    → IfSome a (λ t. IsErrOf {T = T} {E = LoadFault} (Err load.TooLong) load.TooLong → IsSomeAnd (t.files file) (λ bytes. most_bytes < length bytes)) → Works a b (ChecksFile file cert ending.TooLong)
too_long T None b file cert e h = tt
too_long T (Some t) b file cert e h =
    let long = some_and (t.files file) (λ bytes. most_bytes < length bytes) (h refl) in
    (asks (Loads file false), does_ask (Loads file false) (Some t) b e, inl (record { bytes = long.0; found = long.1; beyond = long.2; refused = refl }))

-- the file is loaded, and the certificate isn't

pub record First (a m : Option Told) (file bytes : List ℕ) : Type 0 where
  pub told : m ≡ option_map (called (Loads file true)) a
  pub found : IfSome a (λ t. t.files file ≡ Some bytes)
  pub within : length bytes ≤ most_bytes

pub first_of : (a m : Option Told) (file bytes : List ℕ) → m ≡ option_map (called (Loads file true)) a → IfSome a (λ t. t.files file ≡ Some bytes) → length bytes ≤ most_bytes → First a m file bytes
first_of a m file bytes told found within = record { told = told; found = found; within = within }

first_loaded : (t : Told) (m : Option Told) (file bytes : List ℕ) (rest : Effects) → First (Some t) m file bytes → Loaded file bytes t rest (and_then (asks (Loads file true)) rest)
first_loaded t m file bytes rest h = record { found = h.found; within = h.within; both = refl }

first_done : (t : Told) (m b : Option Told) (file bytes : List ℕ) (rest : Effects) → First (Some t) m file bytes → Does m b rest → b ≡ Some (after (and_then (asks (Loads file true)) rest) t)
first_done t m b file bytes rest h does = does_then (Some t) m b (asks (Loads file true)) rest (does_ask (Loads file true) (Some t) m h.told) does

refused : (t : Told) (m : Option Told) (file cert bytes : List ℕ) → First (Some t) m file bytes → CertificateRefused file cert t (and_then (asks (Loads file true)) (asks (Loads cert false)))
refused t m file cert bytes h = record { bytes = bytes; loaded = first_loaded t m file bytes (asks (Loads cert false)) h }

pub no_certificate : (a m b : Option Told) (file cert bytes : List ℕ) → First a m file bytes → b ≡ option_map (called (Loads cert false)) m → Works a b (ChecksFile file cert ending.HostFailed)
no_certificate None m b file cert bytes h e = tt
no_certificate (Some t) m b file cert bytes h e =
    (and_then (asks (Loads file true)) (asks (Loads cert false)), first_done t m b file bytes (asks (Loads cert false)) h (does_ask (Loads cert false) m b e), inr (inl (refused t m file cert bytes h)))

pub no_memory_for_certificate : (a m b : Option Told) (file cert bytes : List ℕ) → First a m file bytes → b ≡ m → Works a b (ChecksFile file cert ending.Memory)
no_memory_for_certificate None m b file cert bytes h e = tt
no_memory_for_certificate (Some t) m b file cert bytes h e = (
  asks (Loads file true),
  e ∙ does_ask (Loads file true) (Some t) m h.told,
  inr (inr (inl (record { bytes = bytes; loaded = record { found = h.found; within = h.within; both = sym (then_nothing _) } }))),
)

pub certificate_too_long : (T : Type 0) (a m b : Option Told) (file cert bytes : List ℕ) → First a m file bytes → b ≡ option_map (called (Loads cert false)) m
    → IfSome m (λ t. IsErrOf {T = T} {E = LoadFault} (Err load.TooLong) load.TooLong → IsSomeAnd (t.files cert) (λ bytes. most_certificate_bytes < length bytes)) → Works a b (ChecksFile file cert ending.TooLong)
certificate_too_long T None m b file cert bytes h e long = tt
certificate_too_long T (Some t) m b file cert bytes h e long =
    let found = some_and (t.files cert) (λ bytes. most_certificate_bytes < length bytes) ((rw h.told at long) refl) in (
      and_then (asks (Loads file true)) (asks (Loads cert false)),
      first_done t m b file bytes (asks (Loads cert false)) h (does_ask (Loads cert false) m b e),
      inr (record { refused = refused t m file cert bytes h; certificate = found.0; found = found.1; beyond = found.2 }),
    )

-- both are loaded

pub record Both (a m n : Option Told) (file cert bytes certificate : List ℕ) : Type 0 where
  pub first : First a m file bytes
  pub told : n ≡ option_map (called (Loads cert true)) m
  pub found : IfSome m (λ t. t.files cert ≡ Some certificate)
  pub within : length certificate ≤ most_certificate_bytes

pub both_of : (a m n : Option Told) (file cert bytes certificate : List ℕ) → First a m file bytes → n ≡ option_map (called (Loads cert true)) m → IfSome m (λ t. t.files cert ≡ Some certificate) → length certificate ≤ most_certificate_bytes
    → Both a m n file cert bytes certificate
both_of a m n file cert bytes certificate loaded told found within = record { first = loaded; told = told; found = found; within = within }

abbrev all_done : (file cert : List ℕ) → Effects → Effects
all_done file cert rest = and_then (asks (Loads file true)) (and_then (asks (Loads cert true)) rest)

both_loaded : (t : Told) (m n : Option Told) (file cert bytes certificate : List ℕ) (rest : Effects) → Both (Some t) m n file cert bytes certificate → BothLoaded file cert bytes certificate t rest (all_done file cert rest)
both_loaded t m n file cert bytes certificate rest h = record { found = rw h.first.told at h.found; within = h.within; loaded = first_loaded t m file bytes (and_then (asks (Loads cert true)) rest) h.first }

both_done : (t : Told) (m n b : Option Told) (file cert bytes certificate : List ℕ) (rest : Effects) → Both (Some t) m n file cert bytes certificate → Does n b rest → b ≡ Some (after (all_done file cert rest) t)
both_done t m n b file cert bytes certificate rest h does =
    first_done t m b file bytes (and_then (asks (Loads cert true)) rest) h.first (does_then m n b (asks (Loads cert true)) rest (does_ask (Loads cert true) m n h.told) does)

pub not_text : (a m n : Option Told) (file cert bytes certificate : List ℕ) → Both a m n file cert bytes certificate → ¬ (IsUtf8 bytes) → Works a n (ChecksFile file cert ending.NotText)
not_text None m n file cert bytes certificate h bad = tt
not_text (Some t) m n file cert bytes certificate h bad = (
  all_done file cert nothing,
  both_done t m n n file cert bytes certificate nothing h (does_nothing n),
  record { bytes = bytes; certificate = certificate; loaded = both_loaded t m n file cert bytes certificate nothing h; not_text = bad },
)

abbrev said_in : Option Told → List ℕ
said_in None = []
said_in (Some t) = t.said

same_part : (u : Told) (n b : Option Told) (p q : List ℕ) → n ≡ Some u → b ≡ option_map (adds_said p) n → b ≡ option_map (adds_said q) n → p ≡ q
same_part u n b p q is e f = append_cancel_left u.said p q (ap said_in (sym (rw is at e) ∙ (rw is at f)))

both_told : (t : Told) (m n : Option Told) (file cert bytes certificate : List ℕ) → Both (Some t) m n file cert bytes certificate → n ≡ Some (called (Loads cert true) (called (Loads file true) t))
both_told t m n file cert bytes certificate h = h.told ∙ ap (option_map (called (Loads cert true))) h.first.told

-- the text was read and checked, or there was no memory for that
abbrev pub DidText : (text certificate : List ℕ) (before now : Option Told) → Result Bool Stop → Type 0
DidText text certificate before now r = DidCheck text certificate before now r ⊎ ((r ≡ Err stop.Memory) × (now ≡ before))

not_both : {T E : Type 0} (r : Result T E) (x : T) (e : E) → r ≡ Ok x → r ≡ Err e → ⊥
not_both r x e p q = cc

other_stop : {T : Type 0} (r : Result T Stop) → r ≡ Err stop.HostFailed → r ≡ Err stop.Memory → ⊥
other_stop r p q = cc

-- what was said is the part of the text for the entries
same_said : (t : Told) (m n b : Option Told) (file cert bytes certificate : List ℕ) (r : Result Bool Stop) → Both (Some t) m n file cert bytes certificate → (did : DidCheck bytes certificate n b r)
    → (es : List Entry) → (are : AreEntriesOf (coming_of certificate).lines es) → did.only.0 ≡ (did.said es are).0
same_said t m n b file cert bytes certificate r h did es are = same_part _ n b did.only.0 (did.said es are).0 (both_told t m n file cert bytes certificate h) did.only.1 (did.said es are).3

pub done : (a m n b : Option Told) (file cert bytes certificate : List ℕ) (all : Bool) (r : Result Bool Stop) → Both a m n file cert bytes certificate → r ≡ Ok all → DidText bytes certificate n b r
    → Works a b (ChecksFile file cert (ending.Done all))
done None m n b file cert bytes certificate all r h is did = tt
done (Some t) m n b file cert bytes certificate all r h is (inr wanting) = absurd (not_both r all stop.Memory is wanting.0)
done (Some t) m n b file cert bytes certificate all r h is (inl did) = (
  all_done file cert (says did.only.0),
  both_done t m n b file cert bytes certificate (says did.only.0) h (does_say did.only.0 n b did.only.1),
  record {
    bytes = bytes;
    certificate = certificate;
    utf8 = did.utf8;
    told = did.told;
    tells = did.tells;
    said = did.only.0;
    loaded = both_loaded t m n file cert bytes certificate (says did.only.0) h;
    some = did.some;
    whole = λ es are. same_said t m n b file cert bytes certificate r h did es are ∙ on_ok r all _ is (did.said es are).2;
    closed = λ es are. rw is at (did.closed es are);
    accepts = λ steps certifies. rw is at (did.accepts steps certifies);
  },
)

begun : (t : Told) (m n b : Option Told) (file cert bytes certificate : List ℕ) (r : Result Bool Stop) → Both (Some t) m n file cert bytes certificate → (did : DidCheck bytes certificate n b r)
    → CheckBegun file cert t (all_done file cert (says did.only.0))
begun t m n b file cert bytes certificate r h did = record {
  bytes = bytes;
  certificate = certificate;
  utf8 = did.utf8;
  told = did.told;
  tells = did.tells;
  said = did.only.0;
  loaded = both_loaded t m n file cert bytes certificate (says did.only.0) h;
  some = did.some;
  beginning = λ es are. subst (λ (p : List ℕ). IsPrefix p (text_of did.tells.end.shared did.told certificate es)) (sym (same_said t m n b file cert bytes certificate r h did es are)) (did.said es are).1;
}

pub host_failed : (a m n b : Option Told) (file cert bytes certificate : List ℕ) (r : Result Bool Stop) → Both a m n file cert bytes certificate → r ≡ Err stop.HostFailed → DidText bytes certificate n b r
    → Works a b (ChecksFile file cert ending.HostFailed)
host_failed None m n b file cert bytes certificate r h is did = tt
host_failed (Some t) m n b file cert bytes certificate r h is (inr wanting) = absurd (other_stop r is wanting.0)
host_failed (Some t) m n b file cert bytes certificate r h is (inl did) =
    (all_done file cert (says did.only.0), both_done t m n b file cert bytes certificate (says did.only.0) h (does_say did.only.0 n b did.only.1), inl (begun t m n b file cert bytes certificate r h did))

pub no_memory : (a m n b : Option Told) (file cert bytes certificate : List ℕ) (r : Result Bool Stop) → Both a m n file cert bytes certificate → DidText bytes certificate n b r → Works a b (ChecksFile file cert ending.Memory)
no_memory None m n b file cert bytes certificate r h did = tt
no_memory (Some t) m n b file cert bytes certificate r h (inl did) =
    (all_done file cert (says did.only.0), both_done t m n b file cert bytes certificate (says did.only.0) h (does_say did.only.0 n b did.only.1), inl (begun t m n b file cert bytes certificate r h did))
no_memory (Some t) m n b file cert bytes certificate r h (inr wanting) = (
  all_done file cert nothing,
  wanting.1 ∙ both_done t m n n file cert bytes certificate nothing h (does_nothing n),
  inr (inl (record { bytes = bytes; certificate = certificate; loaded = both_loaded t m n file cert bytes certificate nothing h })),
)
