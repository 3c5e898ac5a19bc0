-- What the events of a plan say, hand over and call.
use Rattle.std.proofs.Common.{◌≡◌, ℕ, ◌+◌, List, [], ◌∷◌, ◌++◌, refl, ap, sym, ◌∙◌, Bool, true, false, append_assoc, append-nil, Some, None, inl, inr, subst}
use Rattle.std.specs.Prelude.{Option, All}
use Rattle.std.specs.List.{flat_map}
use Rattle.std.proofs.lemmas.Grind.{flat_map-append}
use Rattle.std.proofs.lemmas.List.Elements.{All-nil, All-cons, All-append}
use Rattle.alg_law.specs.Declarations.{Declaration}
use Rattle.alg_kernel.specs.Claims.{Claim}
use Rattle.alg_host.specs.Host.{Call, Creates}
use Rattle.alg_report.specs.Effects.{Effects, nothing, and_then}
use Rattle.alg_report.specs.Report.{Finding, entry_text, last_line_of}
use Rattle.alg_report.specs.Certificate.{IsDerivable, claim_at, claim_list, claims_of, goals_in}
use Rattle.alg_report.specs.Plan.{Event, Starts, Appends, Certifies, HandsOver, Says, IsWhole, AreWhole, IsPart, Reached, Manner, numbered, proof_events, said_if, events_at, events_from, start_of, creation_of, report_plan, manner_of, plan_over, entries_said, text_said}
use Rattle.alg_report.specs.Order.{IsBeginning}

-- lists that whole events add to, one after another
pub whole_list : {A : Type 0} (of : Effects → List A) (by : Event → List A) → of nothing ≡ [] → ((d e : Effects) → of (and_then d e) ≡ of d ++ of e) → ((x : Event) (d : Effects) → IsWhole x d → of d ≡ by x)
    → (xs : List Event) (d : Effects) → AreWhole xs d → of d ≡ flat_map by xs
whole_list of by none both one [] d w = ap of w ∙ none
whole_list of by none both one (x ∷ xs) d w =
    ap of w.4 ∙ both w.0 w.1 ∙ ap (λ l. l ++ of w.1) (one x w.0 w.2) ∙ ap (λ l. by x ++ l) (whole_list of by none both one xs w.1 w.3)

-- and that events add to which were reached

begins-more : {A : Type 0} (part whole more : List A) → IsBeginning part whole → IsBeginning part (whole ++ more)
begins-more part whole more p = (p.0 ++ more, ap (λ l. l ++ more) p.1 ∙ append_assoc part p.0 more)

begins-then : {A : Type 0} (front part whole : List A) → IsBeginning part whole → IsBeginning (front ++ part) (front ++ whole)
begins-then front part whole p = (p.0, ap (λ l. front ++ l) p.1 ∙ sym (append_assoc front part p.0))

begins-is : {A : Type 0} (part other whole : List A) → part ≡ other → IsBeginning other whole → IsBeginning part whole
begins-is part other whole e p = (p.0, p.1 ∙ ap (λ l. l ++ p.0) (sym e))

reached_list : {A : Type 0} (of : Effects → List A) (by : Event → List A) → of nothing ≡ [] → ((d e : Effects) → of (and_then d e) ≡ of d ++ of e) → ((x : Event) (d : Effects) → IsWhole x d → of d ≡ by x)
    → ((x : Event) (d : Effects) → IsPart x d → IsBeginning (of d) (by x)) → (xs : List Event) (d : Effects) → Reached xs d → IsBeginning (of d) (flat_map by xs)
reached_list of by none both one part [] d r = ([], sym (ap (λ l. l ++ []) (ap of r ∙ none)))
reached_list of by none both one part (x ∷ xs) d (inl p) = begins-more (of d) (by x) (flat_map by xs) (part x d p)
reached_list of by none both one part (x ∷ xs) d (inr r) =
    begins-is (of d) (by x ++ of r.1) (by x ++ flat_map by xs) (ap of r.4 ∙ both r.0 r.1 ∙ ap (λ l. l ++ of r.1) (one x r.0 r.2))
    (begins-then (by x) (of r.1) (flat_map by xs) (reached_list of by none both one part xs r.1 r.3))

abbrev pub said_by : Event → List ℕ
said_by (Starts path) = []
said_by (Appends bytes) = []
said_by (Certifies number claim) = []
said_by (HandsOver claim) = []
said_by (Says bytes) = bytes

abbrev pub handed_by : Event → List Claim
handed_by (Starts path) = []
handed_by (Appends bytes) = []
handed_by (Certifies number claim) = []
handed_by (HandsOver claim) = claim ∷ []
handed_by (Says bytes) = []

abbrev pub called_by : Event → List Call
called_by (Starts path) = Creates path true ∷ []
called_by (Appends bytes) = []
called_by (Certifies number claim) = []
called_by (HandsOver claim) = []
called_by (Says bytes) = []

pub event_said : (x : Event) (d : Effects) → IsWhole x d → d.said ≡ said_by x
event_said (Starts path) d w = rw w refl
event_said (Appends bytes) d w = rw w refl
event_said (Certifies number claim) d w = rw w.2 refl
event_said (HandsOver claim) d w = rw w.1 refl
event_said (Says bytes) d w = rw w refl

event_handed : (x : Event) (d : Effects) → IsWhole x d → d.proved ≡ handed_by x
event_handed (Starts path) d w = rw w refl
event_handed (Appends bytes) d w = rw w refl
event_handed (Certifies number claim) d w = rw w.2 refl
event_handed (HandsOver claim) d w = rw w.1 refl
event_handed (Says bytes) d w = rw w refl

event_called : (x : Event) (d : Effects) → IsWhole x d → d.calls ≡ called_by x
event_called (Starts path) d w = rw w refl
event_called (Appends bytes) d w = rw w refl
event_called (Certifies number claim) d w = rw w.2 refl
event_called (HandsOver claim) d w = rw w.1 refl
event_called (Says bytes) d w = rw w refl

pub part_said : (x : Event) (d : Effects) → IsPart x d → IsBeginning d.said (said_by x)
part_said (Starts path) d (inl p) = ([], rw p refl)
part_said (Starts path) d (inr p) = ([], rw p refl)
part_said (Appends bytes) d p = ([], rw p.2 refl)
part_said (Certifies number claim) d (inl p) = ([], rw p refl)
part_said (Certifies number claim) d (inr p) = ([], rw p.4 refl)
part_said (HandsOver claim) d p = ([], rw p refl)
part_said (Says bytes) d p = rw p.2 p.1

part_handed : (x : Event) (d : Effects) → IsPart x d → IsBeginning d.proved (handed_by x)
part_handed (Starts path) d (inl p) = ([], rw p refl)
part_handed (Starts path) d (inr p) = ([], rw p refl)
part_handed (Appends bytes) d p = ([], rw p.2 refl)
part_handed (Certifies number claim) d (inl p) = ([], rw p refl)
part_handed (Certifies number claim) d (inr p) = ([], rw p.4 refl)
part_handed (HandsOver claim) d p = (claim ∷ [], rw p refl)
part_handed (Says bytes) d p = ([], rw p.2 refl)

pub whole_said : (xs : List Event) (d : Effects) → AreWhole xs d → d.said ≡ flat_map said_by xs
whole_said xs d w = whole_list (λ (e : Effects). e.said) said_by refl (λ d e. refl) event_said xs d w

pub whole_handed : (xs : List Event) (d : Effects) → AreWhole xs d → d.proved ≡ flat_map handed_by xs
whole_handed xs d w = whole_list (λ (e : Effects). e.proved) handed_by refl (λ d e. refl) event_handed xs d w

whole_called : (xs : List Event) (d : Effects) → AreWhole xs d → d.calls ≡ flat_map called_by xs
whole_called xs d w = whole_list (λ (e : Effects). e.calls) called_by refl (λ d e. refl) event_called xs d w

pub reached_said : (xs : List Event) (d : Effects) → Reached xs d → IsBeginning d.said (flat_map said_by xs)
reached_said xs d r = reached_list (λ (e : Effects). e.said) said_by refl (λ d e. refl) event_said part_said xs d r

reached_handed : (xs : List Event) (d : Effects) → Reached xs d → IsBeginning d.proved (flat_map handed_by xs)
reached_handed xs d r = reached_list (λ (e : Effects). e.proved) handed_by refl (λ d e. refl) event_handed part_handed xs d r

-- what is handed over is derivable

part_none : (x : Event) (d : Effects) → IsPart x d → d.proved ≡ []
part_none (Starts path) d (inl p) = rw p refl
part_none (Starts path) d (inr p) = rw p refl
part_none (Appends bytes) d p = rw p.2 refl
part_none (Certifies number claim) d (inl p) = rw p refl
part_none (Certifies number claim) d (inr p) = rw p.4 refl
part_none (HandsOver claim) d p = rw p refl
part_none (Says bytes) d p = rw p.2 refl

none_derivable : (cs : List Claim) → cs ≡ [] → All IsDerivable cs
none_derivable cs e = subst (λ (l : List Claim). All IsDerivable l) (sym e) (All-nil IsDerivable)

event_derivable : (x : Event) (d : Effects) → IsWhole x d → All IsDerivable d.proved
event_derivable (Starts path) d w = none_derivable d.proved (rw w refl)
event_derivable (Appends bytes) d w = none_derivable d.proved (rw w refl)
event_derivable (Certifies number claim) d w = none_derivable d.proved (rw w.2 refl)
event_derivable (HandsOver claim) d w = subst (λ (e : Effects). All IsDerivable e.proved) (sym w.1) (All-cons IsDerivable claim [] w.0 (All-nil IsDerivable))
event_derivable (Says bytes) d w = none_derivable d.proved (rw w refl)

pub reached_derivable : (xs : List Event) (d : Effects) → Reached xs d → All IsDerivable d.proved
reached_derivable [] d r = none_derivable d.proved (rw r refl)
reached_derivable (x ∷ xs) d (inl p) = none_derivable d.proved (part_none x d p)
reached_derivable (x ∷ xs) d (inr r) =
    subst (λ (e : Effects). All IsDerivable e.proved) (sym r.4) (All-append IsDerivable r.0.proved r.1.proved (event_derivable x r.0 r.2) (reached_derivable xs r.1 r.3))

-- what the plan of a file says

start_said : (cert : Option (List ℕ)) → flat_map said_by (start_of cert) ≡ []
start_said None = refl
start_said (Some path) = refl

proof_said : (number : Option ℕ) (claim : Option Claim) → flat_map said_by (proof_events number claim) ≡ []
proof_said number None = refl
proof_said None (Some claim) = refl
proof_said (Some number) (Some claim) = refl

abbrev text_if : Bool → List ℕ → List ℕ
text_if true text = text
text_if false text = []

if_said : (aloud : Bool) (text : List ℕ) → flat_map said_by (said_if aloud text) ≡ text_if aloud text
if_said true text = append-nil text
if_said false text = refl

at_said : (m : Manner) (shared : List Declaration) (n : ℕ) (f : Finding) → flat_map said_by (events_at m shared n f) ≡ text_if m.aloud (entry_text shared f)
at_said m shared n f =
    flat_map-append said_by (proof_events (numbered m.certified n) (claim_at shared f)) (said_if m.aloud (entry_text shared f))
    ∙ ap (λ l. l ++ flat_map said_by (said_if m.aloud (entry_text shared f))) (proof_said (numbered m.certified n) (claim_at shared f)) ∙ if_said m.aloud (entry_text shared f)

said_more : (aloud : Bool) (shared : List Declaration) (f : Finding) (fs : List Finding) → text_if aloud (entry_text shared f) ++ entries_said aloud shared fs ≡ entries_said aloud shared (f ∷ fs)
said_more true shared f fs = refl
said_more false shared f fs = refl

said_none : (aloud : Bool) (shared : List Declaration) → [] ≡ entries_said aloud shared []
said_none true shared = refl
said_none false shared = refl

pub from_said : (m : Manner) (shared : List Declaration) (n : ℕ) (fs : List Finding) → flat_map said_by (events_from m shared n fs) ≡ entries_said m.aloud shared fs
from_said m shared n [] = said_none m.aloud shared
from_said m shared n (f ∷ fs) =
    flat_map-append said_by (events_at m shared n f) (events_from m shared (n + goals_in f) fs)
    ∙ ap (λ l. l ++ flat_map said_by (events_from m shared (n + goals_in f) fs)) (at_said m shared n f) ∙ ap (λ l. text_if m.aloud (entry_text shared f) ++ l) (from_said m shared (n + goals_in f) fs)
    ∙ said_more m.aloud shared f fs

-- nothing is said by what settles a goal
pub proof_says : (number : Option ℕ) (claim : Option Claim) → flat_map said_by (proof_events number claim) ≡ []
proof_says number claim = proof_said number claim

pub start_says : (cert : Option (List ℕ)) → flat_map said_by (start_of cert) ≡ []
start_says cert = start_said cert

report_said : (m : Manner) (shared : List Declaration) (fs : List Finding) → flat_map said_by (report_plan m shared fs) ≡ text_said m.aloud shared fs
report_said m shared fs =
    flat_map-append said_by (events_from m shared 1 fs) (Says (last_line_of fs) ∷ []) ∙ ap (λ l. l ++ (last_line_of fs ++ [])) (from_said m shared 1 fs)
    ∙ ap (λ l. entries_said m.aloud shared fs ++ l) (append-nil (last_line_of fs))

pub plan_said : (cert : Option (List ℕ)) (aloud : Bool) (shared : List Declaration) (fs : List Finding) → flat_map said_by (plan_over cert aloud shared fs) ≡ text_said aloud shared fs
plan_said cert aloud shared fs =
    let report : List Event = report_plan (manner_of cert aloud) shared fs in
    flat_map-append said_by (start_of cert) report ∙ ap (λ l. l ++ flat_map said_by report) (start_said cert) ∙ report_said (manner_of cert aloud) shared fs

-- what it hands over

start_handed : (cert : Option (List ℕ)) → flat_map handed_by (start_of cert) ≡ []
start_handed None = refl
start_handed (Some path) = refl

pub proof_handed : (number : Option ℕ) (claim : Option Claim) → flat_map handed_by (proof_events number claim) ≡ claim_list claim
proof_handed number None = refl
proof_handed None (Some claim) = refl
proof_handed (Some number) (Some claim) = refl

if_handed : (aloud : Bool) (text : List ℕ) → flat_map handed_by (said_if aloud text) ≡ []
if_handed true text = refl
if_handed false text = refl

at_handed : (m : Manner) (shared : List Declaration) (n : ℕ) (f : Finding) → flat_map handed_by (events_at m shared n f) ≡ claim_list (claim_at shared f)
at_handed m shared n f =
    flat_map-append handed_by (proof_events (numbered m.certified n) (claim_at shared f)) (said_if m.aloud (entry_text shared f))
    ∙ ap (λ l. flat_map handed_by (proof_events (numbered m.certified n) (claim_at shared f)) ++ l) (if_handed m.aloud (entry_text shared f)) ∙ append-nil (flat_map handed_by (proof_events (numbered m.certified n) (claim_at shared f)))
    ∙ proof_handed (numbered m.certified n) (claim_at shared f)

pub from_handed : (m : Manner) (shared : List Declaration) (n : ℕ) (fs : List Finding) → flat_map handed_by (events_from m shared n fs) ≡ claims_of shared fs
from_handed m shared n [] = refl
from_handed m shared n (f ∷ fs) =
    flat_map-append handed_by (events_at m shared n f) (events_from m shared (n + goals_in f) fs)
    ∙ ap (λ l. l ++ flat_map handed_by (events_from m shared (n + goals_in f) fs)) (at_handed m shared n f) ∙ ap (λ l. claim_list (claim_at shared f) ++ l) (from_handed m shared (n + goals_in f) fs)

plan_handed : (cert : Option (List ℕ)) (aloud : Bool) (shared : List Declaration) (fs : List Finding) → flat_map handed_by (plan_over cert aloud shared fs) ≡ claims_of shared fs
plan_handed cert aloud shared fs =
    let m : Manner = manner_of cert aloud in
    let events : List Event = events_from m shared 1 fs in
    flat_map-append handed_by (start_of cert) (report_plan m shared fs) ∙ ap (λ l. l ++ flat_map handed_by (report_plan m shared fs)) (start_handed cert)
    ∙ flat_map-append handed_by events (Says (last_line_of fs) ∷ []) ∙ append-nil (flat_map handed_by events) ∙ from_handed m shared 1 fs

-- and which file it creates

start_called : (cert : Option (List ℕ)) → flat_map called_by (start_of cert) ≡ creation_of cert
start_called None = refl
start_called (Some path) = refl

proof_called : (number : Option ℕ) (claim : Option Claim) → flat_map called_by (proof_events number claim) ≡ []
proof_called number None = refl
proof_called None (Some claim) = refl
proof_called (Some number) (Some claim) = refl

if_called : (aloud : Bool) (text : List ℕ) → flat_map called_by (said_if aloud text) ≡ []
if_called true text = refl
if_called false text = refl

at_called : (m : Manner) (shared : List Declaration) (n : ℕ) (f : Finding) → flat_map called_by (events_at m shared n f) ≡ []
at_called m shared n f =
    flat_map-append called_by (proof_events (numbered m.certified n) (claim_at shared f)) (said_if m.aloud (entry_text shared f))
    ∙ ap (λ l. l ++ flat_map called_by (said_if m.aloud (entry_text shared f))) (proof_called (numbered m.certified n) (claim_at shared f)) ∙ if_called m.aloud (entry_text shared f)

from_called : (m : Manner) (shared : List Declaration) (n : ℕ) (fs : List Finding) → flat_map called_by (events_from m shared n fs) ≡ []
from_called m shared n [] = refl
from_called m shared n (f ∷ fs) =
    flat_map-append called_by (events_at m shared n f) (events_from m shared (n + goals_in f) fs)
    ∙ ap (λ l. l ++ flat_map called_by (events_from m shared (n + goals_in f) fs)) (at_called m shared n f) ∙ from_called m shared (n + goals_in f) fs

plan_called : (cert : Option (List ℕ)) (aloud : Bool) (shared : List Declaration) (fs : List Finding) → flat_map called_by (plan_over cert aloud shared fs) ≡ creation_of cert
plan_called cert aloud shared fs =
    let m : Manner = manner_of cert aloud in
    let events : List Event = events_from m shared 1 fs in
    flat_map-append called_by (start_of cert) (report_plan m shared fs) ∙ ap (λ l. l ++ flat_map called_by (report_plan m shared fs)) (start_called cert)
    ∙ ap (λ l. creation_of cert ++ l) (flat_map-append called_by events (Says (last_line_of fs) ∷ []) ∙ append-nil (flat_map called_by events) ∙ from_called m shared 1 fs) ∙ append-nil (creation_of cert)

-- a whole plan, and a beginning of it

pub all_said : (cert : Option (List ℕ)) (aloud : Bool) (shared : List Declaration) (fs : List Finding) (d : Effects) → AreWhole (plan_over cert aloud shared fs) d → d.said ≡ text_said aloud shared fs
all_said cert aloud shared fs d w = whole_said (plan_over cert aloud shared fs) d w ∙ plan_said cert aloud shared fs

pub all_handed : (cert : Option (List ℕ)) (aloud : Bool) (shared : List Declaration) (fs : List Finding) (d : Effects) → AreWhole (plan_over cert aloud shared fs) d → d.proved ≡ claims_of shared fs
all_handed cert aloud shared fs d w = whole_handed (plan_over cert aloud shared fs) d w ∙ plan_handed cert aloud shared fs

pub all_called : (cert : Option (List ℕ)) (aloud : Bool) (shared : List Declaration) (fs : List Finding) (d : Effects) → AreWhole (plan_over cert aloud shared fs) d → d.calls ≡ creation_of cert
all_called cert aloud shared fs d w = whole_called (plan_over cert aloud shared fs) d w ∙ plan_called cert aloud shared fs

pub begun_said : (cert : Option (List ℕ)) (aloud : Bool) (shared : List Declaration) (fs : List Finding) (d : Effects) → Reached (plan_over cert aloud shared fs) d → IsBeginning d.said (text_said aloud shared fs)
begun_said cert aloud shared fs d r = subst (λ l. IsBeginning d.said l) (plan_said cert aloud shared fs) (reached_said (plan_over cert aloud shared fs) d r)

pub begun_handed : (cert : Option (List ℕ)) (aloud : Bool) (shared : List Declaration) (fs : List Finding) (d : Effects) → Reached (plan_over cert aloud shared fs) d → IsBeginning d.proved (claims_of shared fs)
begun_handed cert aloud shared fs d r = subst (λ (l : List Claim). IsBeginning d.proved l) (plan_handed cert aloud shared fs) (reached_handed (plan_over cert aloud shared fs) d r)
