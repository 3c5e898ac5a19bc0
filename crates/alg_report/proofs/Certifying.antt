-- What a whole plan appends is a certificate.
use Rattle.std.proofs.Common.{◌≡◌, ℕ, ◌+◌, List, [], ◌∷◌, ◌++◌, refl, ap, sym, ◌∙◌, Bool, true, false, append-nil, Some, None, subst}
use Rattle.std.specs.Prelude.{Option}
use Rattle.alg_law.specs.Declarations.{Declaration}
use Rattle.alg_kernel.specs.Claims.{Claim}
use Rattle.alg_certificate.specs.Grammar.{header}
use Rattle.alg_report.specs.Effects.{Effects, nothing, and_then, appends, says, hands_over, creates}
use Rattle.alg_report.specs.Report.{Finding, entry_text, last_line_of}
use Rattle.alg_report.specs.Certificate.{claim_at, goals_in, IsEntryOf, AreEntries, IsCertificate}
use Rattle.alg_report.specs.Plan.{Event, Starts, Appends, HandsOver, Says, AreWhole, Manner, proof_events, said_if, events_at, events_from, plan_over}
use Rattle.alg_report.specs.Order.{IsCertified}
use Rattle.alg_report.proofs.Reaching.{then_assoc, nothing_then}

-- these bytes are appended, and no file is created
abbrev pub Adds : Effects → List ℕ → Type 0
Adds d bytes = (d.created ≡ false) × (d.appended ≡ bytes)

pub adds_then : (d e : Effects) (a b : List ℕ) → Adds d a → Adds e b → Adds (and_then d e) (a ++ b)
adds_then d e a b p q = (rw (p.0, q.0) refl, rw (q.0, p.1, q.1) refl)

pub adds_of : (d e : Effects) (a : List ℕ) → d ≡ e → Adds e a → Adds d a
adds_of d e a is p = rw is p

-- and nothing more
adds_last : (d e : Effects) (a : List ℕ) → Adds d a → Adds e [] → Adds (and_then d e) a
adds_last d e a p q = subst (λ l. Adds (and_then d e) l) (append-nil a) (adds_then d e a [] p q)

pub record Split (xs ys : List Event) (d : Effects) : Type 0 where
  pub front : Effects
  pub back : Effects
  pub front_whole : AreWhole xs front
  pub back_whole : AreWhole ys back
  pub both : d ≡ and_then front back

pub split : (xs ys : List Event) (d : Effects) → AreWhole (xs ++ ys) d → Split xs ys d
split [] ys d w = record { front = nothing; back = d; front_whole = refl; back_whole = w; both = sym (nothing_then d) }
split (x ∷ xs) ys d w =
    let s = split xs ys w.1 w.3 in
    record {
      front = and_then w.0 s.front;
      back = s.back;
      front_whole = (w.0, s.front, w.2, s.front_whole, refl);
      back_whole = s.back_whole;
      both = w.4 ∙ ap (λ e. and_then w.0 e) s.both ∙ sym (then_assoc w.0 s.front s.back);
    }

said_adds : (text : List ℕ) (d : Effects) → AreWhole (Says text ∷ []) d → Adds d []
said_adds text d w = adds_of d _ [] (w.4 ∙ ap (λ e. and_then e w.1) w.2 ∙ ap (λ e. and_then (says text) e) w.3) (refl, refl)

if_adds : (aloud : Bool) (text : List ℕ) (d : Effects) → AreWhole (said_if aloud text) d → Adds d []
if_adds true text d w = said_adds text d w
if_adds false text d w = adds_of d nothing [] w (refl, refl)

handed_adds : (claim : Claim) (d : Effects) → AreWhole (HandsOver claim ∷ []) d → Adds d []
handed_adds claim d w = adds_of d _ [] (w.4 ∙ ap (λ e. and_then e w.1) w.2.1 ∙ ap (λ e. and_then (hands_over claim) e) w.3) (refl, refl)

-- with a certificate

pub record Entry (n : ℕ) (c : Option Claim) (d : Effects) : Type 0 where
  pub bytes : List ℕ
  pub is : IsEntryOf n c bytes
  pub adds : Adds d bytes

pub proof_adds : (n : ℕ) (c : Option Claim) (d : Effects) → AreWhole (proof_events (Some n) c) d → Entry n c d
proof_adds n None d w = record { bytes = []; is = refl; adds = adds_of d nothing [] w (refl, refl) }
proof_adds n (Some claim) d w = record {
  bytes = w.2.0;
  is = w.2.1;
  adds = adds_of d _ w.2.0 (w.4 ∙ ap (λ e. and_then e w.1) w.2.2) (adds_last (appends w.2.0) w.1 w.2.0 (refl, refl) (handed_adds claim w.1 w.3));
}

at_adds : (aloud : Bool) (shared : List Declaration) (n : ℕ) (f : Finding) (d : Effects) → AreWhole (events_at (record { certified = true; aloud = aloud }) shared n f) d → Entry n (claim_at shared f) d
at_adds aloud shared n f d w =
    let s = split (proof_events (Some n) (claim_at shared f)) (said_if aloud (entry_text shared f)) d w in
    let entry = proof_adds n (claim_at shared f) s.front s.front_whole in
    record { bytes = entry.bytes; is = entry.is; adds = adds_of d _ entry.bytes s.both (adds_last s.front s.back entry.bytes entry.adds (if_adds aloud (entry_text shared f) s.back s.back_whole)) }

pub record Entries (shared : List Declaration) (n : ℕ) (fs : List Finding) (d : Effects) : Type 0 where
  pub bytes : List ℕ
  pub are : AreEntries shared n fs bytes
  pub adds : Adds d bytes

pub from_adds : (aloud : Bool) (shared : List Declaration) (n : ℕ) (fs : List Finding) (d : Effects) → AreWhole (events_from (record { certified = true; aloud = aloud }) shared n fs) d → Entries shared n fs d
from_adds aloud shared n [] d w = record { bytes = []; are = refl; adds = adds_of d nothing [] w (refl, refl) }
from_adds aloud shared n (f ∷ fs) d w =
    let m : Manner = record { certified = true; aloud = aloud } in
    let s = split (events_at m shared n f) (events_from m shared (n + goals_in f) fs) d w in
    let first = at_adds aloud shared n f s.front s.front_whole in
    let rest = from_adds aloud shared (n + goals_in f) fs s.back s.back_whole in
    record {
      bytes = first.bytes ++ rest.bytes;
      are = (first.bytes, rest.bytes, first.is, rest.are, refl);
      adds = adds_of d _ _ s.both (adds_then s.front s.back first.bytes rest.bytes first.adds rest.adds);
    }

report_adds : (aloud : Bool) (shared : List Declaration) (fs : List Finding) (text : List ℕ) (d : Effects) → AreWhole (events_from (record { certified = true; aloud = aloud }) shared 1 fs ++ Says text ∷ []) d → Entries shared 1 fs d
report_adds aloud shared fs text d w =
    let s = split (events_from (record { certified = true; aloud = aloud }) shared 1 fs) (Says text ∷ []) d w in
    let entries = from_adds aloud shared 1 fs s.front s.front_whole in
    record { bytes = entries.bytes; are = entries.are; adds = adds_of d _ _ s.both (adds_last s.front s.back entries.bytes entries.adds (said_adds text s.back s.back_whole)) }

-- without one

proof_quiet : (c : Option Claim) (d : Effects) → AreWhole (proof_events None c) d → Adds d []
proof_quiet None d w = adds_of d nothing [] w (refl, refl)
proof_quiet (Some claim) d w = handed_adds claim d w

at_quiet : (aloud : Bool) (shared : List Declaration) (n : ℕ) (f : Finding) (d : Effects) → AreWhole (events_at (record { certified = false; aloud = aloud }) shared n f) d → Adds d []
at_quiet aloud shared n f d w =
    let s = split (proof_events None (claim_at shared f)) (said_if aloud (entry_text shared f)) d w in
    adds_of d _ _ s.both (adds_then s.front s.back [] [] (proof_quiet (claim_at shared f) s.front s.front_whole) (if_adds aloud (entry_text shared f) s.back s.back_whole))

from_quiet : (aloud : Bool) (shared : List Declaration) (n : ℕ) (fs : List Finding) (d : Effects) → AreWhole (events_from (record { certified = false; aloud = aloud }) shared n fs) d → Adds d []
from_quiet aloud shared n [] d w = adds_of d nothing [] w (refl, refl)
from_quiet aloud shared n (f ∷ fs) d w =
    let m : Manner = record { certified = false; aloud = aloud } in
    let s = split (events_at m shared n f) (events_from m shared (n + goals_in f) fs) d w in
    adds_of d _ _ s.both (adds_then s.front s.back [] [] (at_quiet aloud shared n f s.front s.front_whole) (from_quiet aloud shared (n + goals_in f) fs s.back s.back_whole))

report_quiet : (aloud : Bool) (shared : List Declaration) (fs : List Finding) (text : List ℕ) (d : Effects) → AreWhole (events_from (record { certified = false; aloud = aloud }) shared 1 fs ++ Says text ∷ []) d → Adds d []
report_quiet aloud shared fs text d w =
    let s = split (events_from (record { certified = false; aloud = aloud }) shared 1 fs) (Says text ∷ []) d w in
    adds_of d _ _ s.both (adds_then s.front s.back [] [] (from_quiet aloud shared 1 fs s.front s.front_whole) (said_adds text s.back s.back_whole))

-- the whole plan

pub start_is : (path : List ℕ) (d : Effects) → AreWhole (Starts path ∷ Appends header ∷ []) d → d ≡ and_then (creates path) (and_then (appends header) nothing)
start_is path d w = w.4 ∙ ap (λ e. and_then e w.1) w.2 ∙ ap (λ e. and_then (creates path) e) (w.3.4 ∙ ap (λ e. and_then e w.3.1) w.3.2 ∙ ap (λ e. and_then (appends header) e) w.3.3)

certificate : (path : List ℕ) (shared : List Declaration) (fs : List Finding) (d e f : Effects) → f ≡ and_then d e → d ≡ and_then (creates path) (and_then (appends header) nothing) → Entries shared 1 fs e
    → (f.created ≡ true) × IsCertificate shared fs f.appended
certificate path shared fs d e f both start entries =
    let created : f.created ≡ true = rw (both, start) refl in
    let spelled : f.appended ≡ header ++ entries.bytes = rw (both, entries.adds.0, entries.adds.1, start) refl in
    (created, record { entries = entries.bytes; are = entries.are; spelled = spelled })

pub all_certified : (cert : Option (List ℕ)) (aloud : Bool) (shared : List Declaration) (fs : List Finding) (d : Effects) → AreWhole (plan_over cert aloud shared fs) d → IsCertified cert shared fs d
all_certified None aloud shared fs d w = report_quiet aloud shared fs (last_line_of fs) d w
all_certified (Some path) aloud shared fs d w =
    let s = split (Starts path ∷ Appends header ∷ []) (events_from (record { certified = true; aloud = aloud }) shared 1 fs ++ Says (last_line_of fs) ∷ []) d w in
    certificate path shared fs s.front s.back d s.both (start_is path s.front s.front_whole) (report_adds aloud shared fs (last_line_of fs) s.back s.back_whole)
