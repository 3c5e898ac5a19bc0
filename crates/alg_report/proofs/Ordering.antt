-- In which order things are done, wherever a run stops.
use Rattle.std.proofs.Common.{◌≡◌, ℕ, ◌+◌, ◌<◌, List, [], ◌∷◌, ◌++◌, length, refl, ap, sym, ◌∙◌, Bool, true, false, append_assoc, append-nil, add-zero, Some, None, inl, inr, subst, arith, length-append}
use Rattle.std.specs.Prelude.{◌⊎◌, ⊤, Option, is_some}
use Rattle.std.specs.List.{flat_map}
use Rattle.std.proofs.lemmas.Grind.{flat_map-append}
use Rattle.alg_law.specs.Declarations.{Declaration}
use Rattle.alg_kernel.specs.Claims.{Claim}
use Rattle.alg_host.specs.Host.{IsPrefix}
use Rattle.alg_certificate.specs.Grammar.{header}
use Rattle.alg_report.specs.Effects.{Effects, nothing, and_then, appends, creates, since_created}
use Rattle.alg_report.specs.Report.{Finding, entry_text, last_line_of}
use Rattle.alg_report.specs.Certificate.{IsEntryOf, AreEntries, claim_at, claim_list, claims_of, goals_in, goals_of}
use Rattle.alg_report.specs.Plan.{Event, Starts, Appends, Certifies, HandsOver, Says, IsWhole, AreWhole, IsPart, Reached, Manner, numbered, proof_events, said_if, events_at, events_from, start_of, report_plan, manner_of, plan_over, entries_said}
use Rattle.alg_report.specs.Order.{IsBeginning, IsPartOfNext, EntriesBegun, CertificateBegun, IsAppended, AreCertified, AreSettled, InOrder}
use Rattle.alg_report.proofs.Reaching.{then_assoc, nothing_then}
use Rattle.alg_report.proofs.Telling.{said_by, handed_by, event_said, part_said, reached_derivable, whole_handed, begun_handed, from_said, from_handed, proof_says, proof_handed, start_says}
use Rattle.alg_report.proofs.Certifying.{Adds, adds_of, adds_then, split, Entry, proof_adds, from_adds, start_is}

-- a plan in two parts: the first was reached, or it is whole and the second was reached

pub record Past (xs ys : List Event) (d : Effects) : Type 0 where
  pub front : Effects
  pub back : Effects
  pub whole : AreWhole xs front
  pub reached : Reached ys back
  pub both : d ≡ and_then front back

data Half (xs ys : List Event) (d : Effects) : Type 0 where
  in_first : Reached xs d → Half xs ys d
  in_second : Past xs ys d → Half xs ys d

past_more : (x : Event) (xs ys : List Event) (first rest d : Effects) → IsWhole x first → d ≡ and_then first rest → Past xs ys rest → Past (x ∷ xs) ys d
past_more x xs ys first rest d w e p = record {
  front = and_then first p.front;
  back = p.back;
  whole = (first, p.front, w, p.whole, refl);
  reached = p.reached;
  both = e ∙ ap (λ r. and_then first r) p.both ∙ sym (then_assoc first p.front p.back);
}

halves : (xs ys : List Event) (d : Effects) → Reached (xs ++ ys) d → Half xs ys d
halves [] ys d r = in_second (record { front = nothing; back = d; whole = refl; reached = r; both = sym (nothing_then d) })
halves (x ∷ xs) ys d (inl p) = in_first (inl p)
halves (x ∷ xs) ys d (inr r) = elim (halves xs ys r.1 r.3) [
  | in_first q ↦ in_first (inr (r.0, r.1, r.2, q, r.4))
  | in_second q ↦ in_second (past_more x xs ys r.0 r.1 d r.2 r.4 q)
]

-- what is said beyond the first part shows that it is whole

not_beyond : (part whole more : List ℕ) → IsBeginning part whole → length (whole ++ more) < length part → ⊥
not_beyond part whole more p l = omega (arith, l, ap length p.1, length-append part p.0, length-append whole more)

beyond_rest : (a b said : List ℕ) (front : List ℕ) → said ≡ front ++ b → front ≡ a → (more : List ℕ) → length (a ++ more) < length said → length more < length b
beyond_rest a b said front e f more l = omega (arith, l, ap length e, ap length f, length-append front b, length-append a more)

pub beyond : (xs ys : List Event) (d : Effects) → Reached (xs ++ ys) d → length (flat_map said_by xs) < length d.said → Past xs ys d
beyond [] ys d r l = record { front = nothing; back = d; whole = refl; reached = r; both = sym (nothing_then d) }
beyond (x ∷ xs) ys d (inl p) l = absurd (not_beyond d.said (said_by x) (flat_map said_by xs) (part_said x d p) l)
beyond (x ∷ xs) ys d (inr r) l =
    let rest : length (flat_map said_by xs) < length r.1.said =
    beyond_rest (said_by x) r.1.said d.said r.0.said (ap (λ (e : Effects). e.said) r.4) (event_said x r.0 r.2) (flat_map said_by xs) l in
    past_more x xs ys r.0 r.1 d r.2 r.4 (beyond xs ys r.1 r.3 rest)

-- events that create no file

abbrev IsLater : Event → Type 0
IsLater (Starts path) = ⊥
IsLater (Appends bytes) = ⊤
IsLater (Certifies number claim) = ⊤
IsLater (HandsOver claim) = ⊤
IsLater (Says bytes) = ⊤

part_later : (x : Event) (d : Effects) → IsLater x → IsPart x d → d.created ≡ false
part_later (Starts path) d l p = absurd l
part_later (Appends bytes) d l p = rw p.2 refl
part_later (Certifies number claim) d l (inl p) = rw p refl
part_later (Certifies number claim) d l (inr p) = rw p.4 refl
part_later (HandsOver claim) d l p = rw p refl
part_later (Says bytes) d l p = rw p.2 refl

whole_later : (x : Event) (d : Effects) → IsLater x → IsWhole x d → d.created ≡ false
whole_later (Starts path) d l w = absurd l
whole_later (Appends bytes) d l w = rw w refl
whole_later (Certifies number claim) d l w = rw w.2 refl
whole_later (HandsOver claim) d l w = rw w.1 refl
whole_later (Says bytes) d l w = rw w refl

abbrev AreLater : List Event → Type 0
AreLater [] = ⊤
AreLater (x ∷ xs) = IsLater x × AreLater xs

later_then : (xs ys : List Event) → AreLater xs → AreLater ys → AreLater (xs ++ ys)
later_then [] ys a b = b
later_then (x ∷ xs) ys a b = (a.0, later_then xs ys a.1 b)

created_then : (d e : Effects) → d.created ≡ false → e.created ≡ false → (and_then d e).created ≡ false
created_then d e p q = rw (p, q) refl

reached_later : (xs : List Event) (d : Effects) → AreLater xs → Reached xs d → d.created ≡ false
reached_later [] d l r = rw r refl
reached_later (x ∷ xs) d l (inl p) = part_later x d l.0 p
reached_later (x ∷ xs) d l (inr r) = rw r.4 (created_then r.0 r.1 (whole_later x r.0 l.0 r.2) (reached_later xs r.1 l.1 r.3))

later_proof : (number : Option ℕ) (claim : Option Claim) → AreLater (proof_events number claim)
later_proof number None = tt
later_proof None (Some claim) = (tt, tt)
later_proof (Some number) (Some claim) = (tt, (tt, tt))

later_said : (aloud : Bool) (text : List ℕ) → AreLater (said_if aloud text)
later_said true text = (tt, tt)
later_said false text = tt

later_at : (m : Manner) (shared : List Declaration) (n : ℕ) (f : Finding) → AreLater (events_at m shared n f)
later_at m shared n f = later_then (proof_events (numbered m.certified n) (claim_at shared f)) (said_if m.aloud (entry_text shared f)) (later_proof (numbered m.certified n) (claim_at shared f)) (later_said m.aloud (entry_text shared f))

later_from : (m : Manner) (shared : List Declaration) (n : ℕ) (fs : List Finding) → AreLater (events_from m shared n fs)
later_from m shared n [] = tt
later_from m shared n (f ∷ fs) = later_then (events_at m shared n f) (events_from m shared (n + goals_in f) fs) (later_at m shared n f) (later_from m shared (n + goals_in f) fs)

-- events that append nothing

abbrev IsQuiet : Event → Type 0
IsQuiet (Starts path) = ⊥
IsQuiet (Appends bytes) = ⊥
IsQuiet (Certifies number claim) = ⊥
IsQuiet (HandsOver claim) = ⊤
IsQuiet (Says bytes) = ⊤

abbrev AreQuiet : List Event → Type 0
AreQuiet [] = ⊤
AreQuiet (x ∷ xs) = IsQuiet x × AreQuiet xs

quiet_then : (xs ys : List Event) → AreQuiet xs → AreQuiet ys → AreQuiet (xs ++ ys)
quiet_then [] ys a b = b
quiet_then (x ∷ xs) ys a b = (a.0, quiet_then xs ys a.1 b)

part_quiet : (x : Event) (d : Effects) → IsQuiet x → IsPart x d → Adds d []
part_quiet (Starts path) d q p = absurd q
part_quiet (Appends bytes) d q p = absurd q
part_quiet (Certifies number claim) d q p = absurd q
part_quiet (HandsOver claim) d q p = adds_of d nothing [] p (refl, refl)
part_quiet (Says bytes) d q p = adds_of d _ [] p.2 (refl, refl)

whole_quiet : (x : Event) (d : Effects) → IsQuiet x → IsWhole x d → Adds d []
whole_quiet (Starts path) d q w = absurd q
whole_quiet (Appends bytes) d q w = absurd q
whole_quiet (Certifies number claim) d q w = absurd q
whole_quiet (HandsOver claim) d q w = adds_of d _ [] w.1 (refl, refl)
whole_quiet (Says bytes) d q w = adds_of d _ [] w (refl, refl)

reached_quiet : (xs : List Event) (d : Effects) → AreQuiet xs → Reached xs d → Adds d []
reached_quiet [] d q r = adds_of d nothing [] r (refl, refl)
reached_quiet (x ∷ xs) d q (inl p) = part_quiet x d q.0 p
reached_quiet (x ∷ xs) d q (inr r) = adds_of d _ [] r.4 (adds_then r.0 r.1 [] [] (whole_quiet x r.0 q.0 r.2) (reached_quiet xs r.1 q.1 r.3))

quiet_proof : (claim : Option Claim) → AreQuiet (proof_events None claim)
quiet_proof None = tt
quiet_proof (Some claim) = (tt, tt)

quiet_said : (aloud : Bool) (text : List ℕ) → AreQuiet (said_if aloud text)
quiet_said true text = (tt, tt)
quiet_said false text = tt

quiet_at : (aloud : Bool) (shared : List Declaration) (n : ℕ) (f : Finding) → AreQuiet (events_at (record { certified = false; aloud = aloud }) shared n f)
quiet_at aloud shared n f = quiet_then (proof_events None (claim_at shared f)) (said_if aloud (entry_text shared f)) (quiet_proof (claim_at shared f)) (quiet_said aloud (entry_text shared f))

quiet_from : (aloud : Bool) (shared : List Declaration) (n : ℕ) (fs : List Finding) → AreQuiet (events_from (record { certified = false; aloud = aloud }) shared n fs)
quiet_from aloud shared n [] = tt
quiet_from aloud shared n (f ∷ fs) =
    let m : Manner = record { certified = false; aloud = aloud } in
    quiet_then (events_at m shared n f) (events_from m shared (n + goals_in f) fs) (quiet_at aloud shared n f) (quiet_from aloud shared (n + goals_in f) fs)

-- what is appended of the entries

record Begun (shared : List Declaration) (n : ℕ) (fs : List Finding) (d : Effects) : Type 0 where
  bytes : List ℕ
  begun : EntriesBegun shared n fs bytes
  adds : Adds d bytes

-- of one entry
record Part (n : ℕ) (c : Option Claim) (d : Effects) : Type 0 where
  part : List ℕ
  is : (part ≡ []) ⊎ ((bytes : List ℕ) × IsEntryOf n c bytes × IsPrefix part bytes)
  adds : Adds d part

adds_nothing : (d e : Effects) (a : List ℕ) → Adds d a → Adds e [] → Adds (and_then d e) a
adds_nothing d e a p q = subst (λ l. Adds (and_then d e) l) (append-nil a) (adds_then d e a [] p q)

-- all of an entry, and then nothing that appends
entry_then : (n : ℕ) (claim : Claim) (ys : List Event) (d : Effects) → AreQuiet ys → Reached (Certifies n claim ∷ ys) d → Part n (Some claim) d
entry_then n claim ys d q (inl (inl p)) = record { part = []; is = inl refl; adds = adds_of d nothing [] p (refl, refl) }
entry_then n claim ys d q (inl (inr p)) = record { part = p.1; is = inr (p.0, p.2, p.3); adds = adds_of d _ p.1 p.4 (refl, refl) }
entry_then n claim ys d q (inr r) = record {
  part = r.2.0;
  is = inr (r.2.0, r.2.1, ([], sym (append-nil r.2.0)));
  adds = adds_of d _ r.2.0 (r.4 ∙ ap (λ e. and_then e r.1) r.2.2) (adds_nothing (appends r.2.0) r.1 r.2.0 (refl, refl) (reached_quiet ys r.1 q r.3));
}

part_at : (aloud : Bool) (text : List ℕ) (n : ℕ) (c : Option Claim) (d : Effects) → Reached (proof_events (Some n) c ++ said_if aloud text) d → Part n c d
part_at aloud text n None d r = record { part = []; is = inl refl; adds = reached_quiet (said_if aloud text) d (quiet_said aloud text) r }
part_at aloud text n (Some claim) d r = entry_then n claim (HandsOver claim ∷ said_if aloud text) d (tt, quiet_said aloud text) r

entry_at : (aloud : Bool) (text : List ℕ) (n : ℕ) (c : Option Claim) (d : Effects) → AreWhole (proof_events (Some n) c ++ said_if aloud text) d → Entry n c d
entry_at aloud text n c d w =
    let s = split (proof_events (Some n) c) (said_if aloud text) d w in
    let entry = proof_adds n c s.front s.front_whole in
    record { bytes = entry.bytes; is = entry.is; adds = adds_of d _ entry.bytes s.both (adds_nothing s.front s.back entry.bytes entry.adds (whole_said_adds aloud text s.back s.back_whole)) }
  where
    whole_said_adds : (aloud : Bool) (text : List ℕ) (d : Effects) → AreWhole (said_if aloud text) d → Adds d []
    whole_said_adds true text d w = adds_of d _ [] (w.4 ∙ ap (λ e. and_then e w.1) w.2 ∙ ap (λ e. and_then (record nothing { said = text }) e) w.3) (refl, refl)
    whole_said_adds false text d w = adds_of d nothing [] w (refl, refl)

begun_later : (shared : List Declaration) (n : ℕ) (f : Finding) (fs : List Finding) (d e : Effects) → Entry n (claim_at shared f) d → Begun shared (n + goals_in f) fs e → Begun shared n (f ∷ fs) (and_then d e)
begun_later shared n f fs d e entry rest =
    let same : n + goals_in f + goals_of rest.begun.front ≡ n + (goals_in f + goals_of rest.begun.front) = omega arith in
    record {
      bytes = entry.bytes ++ rest.bytes;
      begun = record {
        front = f ∷ rest.begun.front;
        back = rest.begun.back;
        all = ap (λ l. f ∷ l) rest.begun.all;
        entries = entry.bytes ++ rest.begun.entries;
        are = (entry.bytes, rest.begun.entries, entry.is, rest.begun.are, refl);
        part = rest.begun.part;
        next = subst (λ (k : ℕ). IsPartOfNext shared k rest.begun.back rest.begun.part) same rest.begun.next;
        spelled = ap (λ l. entry.bytes ++ l) rest.begun.spelled ∙ sym (append_assoc entry.bytes rest.begun.entries rest.begun.part);
      };
      adds = adds_then d e entry.bytes rest.bytes entry.adds rest.adds;
    }

begun_of : (shared : List Declaration) (n : ℕ) (fs : List Finding) (d e : Effects) → d ≡ e → Begun shared n fs e → Begun shared n fs d
begun_of shared n fs d e is b = record { bytes = b.bytes; begun = b.begun; adds = adds_of d e b.bytes is b.adds }

begun_here : (shared : List Declaration) (n : ℕ) (f : Finding) (fs : List Finding) (d : Effects) → Part n (claim_at shared f) d → Begun shared n (f ∷ fs) d
begun_here shared n f fs d p = record {
  bytes = p.part;
  begun = record {
    front = [];
    back = f ∷ fs;
    all = refl;
    entries = [];
    are = refl;
    part = p.part;
    next = subst (λ (k : ℕ). IsPartOfNext shared k (f ∷ fs) p.part) (sym (add-zero n)) p.is;
    spelled = refl;
  };
  adds = p.adds;
}

begun_from : (aloud : Bool) (shared : List Declaration) (n : ℕ) (fs : List Finding) (tail : List Event) (d : Effects) → AreQuiet tail → Reached (events_from (record { certified = true; aloud = aloud }) shared n fs ++ tail) d → Begun shared n fs d
begun_from aloud shared n [] tail d q r = record {
  bytes = [];
  begun = record { front = []; back = []; all = refl; entries = []; are = refl; part = []; next = refl; spelled = refl };
  adds = reached_quiet tail d q r;
}
begun_from aloud shared n (f ∷ fs) tail d q r =
    let m : Manner = record { certified = true; aloud = aloud } in
    let later : List Event = events_from m shared (n + goals_in f) fs in
    let again : Reached (events_at m shared n f ++ (later ++ tail)) d = subst (λ (xs : List Event). Reached xs d) (append_assoc (events_at m shared n f) later tail) r in
    elim (halves (events_at m shared n f) (later ++ tail) d again) [
      | in_first p ↦ begun_here shared n f fs d (part_at aloud (entry_text shared f) n (claim_at shared f) d p)
      | in_second p ↦ begun_of shared n (f ∷ fs) d (and_then p.front p.back) p.both
          (begun_later shared n f fs p.front p.back (entry_at aloud (entry_text shared f) n (claim_at shared f) p.front p.whole) (begun_from aloud shared (n + goals_in f) fs tail p.back q p.reached))
    ]

-- the whole of what is appended

after_start : (path : List ℕ) (d e f : Effects) (bytes : List ℕ) → f ≡ and_then d e → d ≡ and_then (creates path) (and_then (appends header) nothing) → Adds e bytes → f.appended ≡ header ++ bytes
after_start path d e f bytes both start adds = rw (both, adds.0, adds.1, start) refl

start_created : (path : List ℕ) (d e f : Effects) → f ≡ and_then d e → d ≡ and_then (creates path) (and_then (appends header) nothing) → f.created ≡ true
start_created path d e f both start = rw (both, start) refl

started_part : (path : List ℕ) (shared : List Declaration) (fs : List Finding) (d : Effects) → Reached (Starts path ∷ Appends header ∷ []) d → CertificateBegun shared fs d
started_part path shared fs d (inl (inl p)) = inl (rw p refl, rw p refl)
started_part path shared fs d (inl (inr p)) = inl (rw p refl, rw p refl)
started_part path shared fs d (inr (first, rest, w, inl p, e)) =
    let appended : d.appended ≡ p.0 = ap (λ (x : Effects). x.appended) (e ∙ ap (λ x. and_then x rest) w ∙ ap (λ x. and_then (creates path) x) p.2) in
    let created : d.created ≡ true = ap (λ (x : Effects). x.created) (e ∙ ap (λ x. and_then x rest) w) in
    inr (created, inl (subst (λ (l : List ℕ). IsPrefix l header) (sym appended) p.1))
started_part path shared fs d (inr (first, rest, w, inr r, e)) =
    let whole : AreWhole (Starts path ∷ Appends header ∷ []) d = (first, rest, w, (r.0, r.1, r.2, r.3, r.4), e) in
    let appended : d.appended ≡ header = ap (λ (x : Effects). x.appended) (start_is path d whole) in
    inr (ap (λ (x : Effects). x.created) (start_is path d whole), inl ([], sym (append-nil d.appended ∙ appended)))

pub begun_appended : (cert : Option (List ℕ)) (aloud : Bool) (shared : List Declaration) (fs : List Finding) (d : Effects) → Reached (plan_over cert aloud shared fs) d → IsAppended cert shared fs d
begun_appended None aloud shared fs d r =
    reached_quiet (report_plan (manner_of None aloud) shared fs) d (quiet_then (events_from (manner_of None aloud) shared 1 fs) (Says (last_line_of fs) ∷ []) (quiet_from aloud shared 1 fs) (tt, tt)) r
begun_appended (Some path) aloud shared fs d r =
    elim (halves (Starts path ∷ Appends header ∷ []) (report_plan (manner_of (Some path) aloud) shared fs) d r) [
      | in_first p ↦ started_part path shared fs d p
      | in_second p ↦
          let b = begun_from aloud shared 1 fs (Says (last_line_of fs) ∷ []) p.back (tt, tt) p.reached in
          inr (start_created path p.front p.back d p.both (start_is path p.front p.whole), inr (b.bytes, b.begun, after_start path p.front p.back d b.bytes p.both (start_is path p.front p.whole) b.adds))
    ]

-- what was settled before something is said

pub events_append : (m : Manner) (shared : List Declaration) (n : ℕ) (fs gs : List Finding)
    → events_from m shared n (fs ++ gs) ≡ events_from m shared n fs ++ events_from m shared (n + goals_of fs) gs
events_append m shared n [] gs = rw (add-zero n) refl
events_append m shared n (f ∷ fs) gs =
    let number : n + goals_in f + goals_of fs ≡ n + (goals_in f + goals_of fs) = omega arith in
    ap (λ l. events_at m shared n f ++ l) (events_append m shared (n + goals_in f) fs gs ∙ ap (λ k. events_from m shared (n + goals_in f) fs ++ events_from m shared k gs) number)
    ∙ sym (append_assoc (events_at m shared n f) (events_from m shared (n + goals_in f) fs) (events_from m shared (n + (goals_in f + goals_of fs)) gs))

entries_append : (shared : List Declaration) (n : ℕ) (fs : List Finding) (g : Finding) (a b : List ℕ) → AreEntries shared n fs a → IsEntryOf (n + goals_of fs) (claim_at shared g) b → AreEntries shared n (fs ++ g ∷ []) (a ++ b)
entries_append shared n [] g a b are is =
    (b, [], subst (λ (k : ℕ). IsEntryOf k (claim_at shared g) b) (add-zero n) is, refl, ap (λ l. l ++ b) are ∙ sym (append-nil b))
entries_append shared n (f ∷ fs) g a b are is =
    let number : n + (goals_in f + goals_of fs) ≡ n + goals_in f + goals_of fs = omega arith in
    let more = entries_append shared (n + goals_in f) fs g are.1 b are.3 (subst (λ (k : ℕ). IsEntryOf k (claim_at shared g) b) number is) in
    (are.0, are.1 ++ b, are.2, more, ap (λ l. l ++ b) are.4 ∙ append_assoc are.0 are.1 b)

claims-append : (shared : List Declaration) (fs : List Finding) (g : Finding) → claims_of shared (fs ++ g ∷ []) ≡ claims_of shared fs ++ claim_list (claim_at shared g)
claims-append shared fs g = flat_map-append (λ f. claim_list (claim_at shared f)) fs (g ∷ []) ∙ ap (λ l. claims_of shared fs ++ l) (append-nil (claim_list (claim_at shared g)))

-- the events that settle these goals: those of the front, and what is done with the proof of the next
abbrev settling : (cert : Option (List ℕ)) (aloud : Bool) → List Declaration → (front : List Finding) → (next : List Event) → List Event
settling cert aloud shared front next = start_of cert ++ (events_from (manner_of cert aloud) shared 1 front ++ next)

begins_then : (d front back : Effects) (cs : List Claim) → d ≡ and_then front back → front.proved ≡ cs → IsBeginning cs d.proved
begins_then d front back cs both e = (back.proved, ap (λ (x : Effects). x.proved) both ∙ ap (λ l. l ++ back.proved) e)

prefix_then : (d front back : Effects) (bytes : List ℕ) → d ≡ and_then front back → back.created ≡ false → front.appended ≡ bytes → IsPrefix bytes d.appended
prefix_then d front back bytes both later e =
    (back.appended, ap (λ (x : Effects). x.appended) both ∙ ap (λ c. since_created c front.appended back.appended) later ∙ ap (λ l. l ++ back.appended) e)

created_first : (d front back : Effects) → d ≡ and_then front back → front.created ≡ true → d.created ≡ true
created_first d front back both e = rw (both, e) refl

-- with what the front appended
certified_front : (cert : Option (List ℕ)) (aloud : Bool) (shared : List Declaration) (front : List Finding) (d whole back : Effects) → d ≡ and_then whole back → back.created ≡ false
    → AreWhole (settling cert aloud shared front []) whole → AreCertified cert shared front d
certified_front None aloud shared front d whole back both later w = tt
certified_front (Some path) aloud shared front d whole back both later w =
    let s = split (Starts path ∷ Appends header ∷ []) (events_from (manner_of (Some path) aloud) shared 1 front ++ []) whole w in
    let entries = from_adds aloud shared 1 front s.back (subst (λ (xs : List Event). AreWhole xs s.back) (append-nil (events_from (manner_of (Some path) aloud) shared 1 front)) s.back_whole) in
    let made = start_created path s.front s.back whole s.both (start_is path s.front s.front_whole) in
    (created_first d whole back both made, (entries.bytes, entries.are, prefix_then d whole back (header ++ entries.bytes) both later (after_start path s.front s.back whole entries.bytes s.both (start_is path s.front s.front_whole) entries.adds)))

certified_next : (cert : Option (List ℕ)) (aloud : Bool) (shared : List Declaration) (front : List Finding) (f : Finding) (d whole back : Effects) → d ≡ and_then whole back → back.created ≡ false
    → AreWhole (settling cert aloud shared front (proof_events (numbered (is_some cert) (1 + goals_of front)) (claim_at shared f))) whole → AreCertified cert shared (front ++ f ∷ []) d
certified_next None aloud shared front f d whole back both later w = tt
certified_next (Some path) aloud shared front f d whole back both later w =
    let m : Manner = manner_of (Some path) aloud in
    let next : List Event = proof_events (Some (1 + goals_of front)) (claim_at shared f) in
    let s = split (Starts path ∷ Appends header ∷ []) (events_from m shared 1 front ++ next) whole w in
    let t = split (events_from m shared 1 front) next s.back s.back_whole in
    let entries = from_adds aloud shared 1 front t.front t.front_whole in
    let entry = proof_adds (1 + goals_of front) (claim_at shared f) t.back t.back_whole in
    let adds : Adds s.back (entries.bytes ++ entry.bytes) = adds_of s.back _ _ t.both (adds_then t.front t.back entries.bytes entry.bytes entries.adds entry.adds) in
    let made = start_created path s.front s.back whole s.both (start_is path s.front s.front_whole) in
    let bytes : List ℕ = entries.bytes ++ entry.bytes in
    let written = prefix_then d whole back (header ++ bytes) both later (after_start path s.front s.back whole bytes s.both (start_is path s.front s.front_whole) adds) in
    (created_first d whole back both made, (bytes, entries_append shared 1 front f entries.bytes entry.bytes entries.are entry.is, written))

start_handed : (cert : Option (List ℕ)) → flat_map handed_by (start_of cert) ≡ []
start_handed None = refl
start_handed (Some path) = refl

settling_handed : (cert : Option (List ℕ)) (aloud : Bool) (shared : List Declaration) (front : List Finding) (next : List Event) → flat_map handed_by (settling cert aloud shared front next) ≡ claims_of shared front ++ flat_map handed_by next
settling_handed cert aloud shared front next =
    let events : List Event = events_from (manner_of cert aloud) shared 1 front in
    flat_map-append handed_by (start_of cert) (events ++ next) ∙ ap (λ l. l ++ flat_map handed_by (events ++ next)) (start_handed cert) ∙ flat_map-append handed_by events next
    ∙ ap (λ l. l ++ flat_map handed_by next) (from_handed (manner_of cert aloud) shared 1 front)

settling_said : (cert : Option (List ℕ)) (aloud : Bool) (shared : List Declaration) (front : List Finding) (next : List Event) → flat_map said_by next ≡ [] → flat_map said_by (settling cert aloud shared front next) ≡ entries_said aloud shared front
settling_said cert aloud shared front next none =
    let events : List Event = events_from (manner_of cert aloud) shared 1 front in
    flat_map-append said_by (start_of cert) (events ++ next) ∙ ap (λ l. l ++ flat_map said_by (events ++ next)) (start_says cert) ∙ flat_map-append said_by events next
    ∙ ap (λ l. flat_map said_by events ++ l) none ∙ append-nil (flat_map said_by events) ∙ from_said (manner_of cert aloud) shared 1 front

-- the plan, cut before the entry of f is said
plan_cut : (cert : Option (List ℕ)) (aloud : Bool) (shared : List Declaration) (fs front : List Finding) (f : Finding) (back : List Finding) → fs ≡ front ++ f ∷ back
    → plan_over cert aloud shared fs
    ≡ settling cert aloud shared front (proof_events (numbered (is_some cert) (1 + goals_of front)) (claim_at shared f))
    ++ (said_if aloud (entry_text shared f) ++ (events_from (manner_of cert aloud) shared (1 + goals_of front + goals_in f) back ++ Says (last_line_of fs) ∷ []))
plan_cut cert aloud shared fs front f back is =
    let m : Manner = manner_of cert aloud in
    let first : List Event = events_from m shared 1 front in
    let proof : List Event = proof_events (numbered (is_some cert) (1 + goals_of front)) (claim_at shared f) in
    let said : List Event = said_if aloud (entry_text shared f) in
    let later : List Event = events_from m shared (1 + goals_of front + goals_in f) back in
    let last : List Event = Says (last_line_of fs) ∷ [] in
    let all : events_from m shared 1 fs ≡ first ++ ((proof ++ said) ++ later) = ap (λ l. events_from m shared 1 l) is ∙ events_append m shared 1 front (f ∷ back) in
    ap (λ l. start_of cert ++ (l ++ last)) all
    ∙ simp append_assoc

pub settled_before : (cert : Option (List ℕ)) (aloud : Bool) (shared : List Declaration) (fs : List Finding) (d : Effects) → Reached (plan_over cert aloud shared fs) d
    → (front : List Finding) → (f : Finding) → (back : List Finding) → fs ≡ front ++ f ∷ back → length (entries_said aloud shared front) < length d.said → AreSettled cert shared (front ++ f ∷ []) d
settled_before cert aloud shared fs d r front f back is l =
    let m : Manner = manner_of cert aloud in
    let proof : List Event = proof_events (numbered (is_some cert) (1 + goals_of front)) (claim_at shared f) in
    let xs : List Event = settling cert aloud shared front proof in
    let later : List Event = events_from m shared (1 + goals_of front + goals_in f) back in
    let ys : List Event = said_if aloud (entry_text shared f) ++ (later ++ Says (last_line_of fs) ∷ []) in
    let reached : Reached (xs ++ ys) d = subst (λ (zs : List Event). Reached zs d) (plan_cut cert aloud shared fs front f back is) r in
    let said : length (flat_map said_by xs) < length d.said =
    subst (λ (t : List ℕ). length t < length d.said) (sym (settling_said cert aloud shared front proof (proof_says (numbered (is_some cert) (1 + goals_of front)) (claim_at shared f)))) l in
    let past = beyond xs ys d reached said in
    let none : past.back.created ≡ false =
    reached_later ys past.back (later_then (said_if aloud (entry_text shared f)) (later ++ Says (last_line_of fs) ∷ []) (later_said aloud (entry_text shared f)) (later_then later (Says (last_line_of fs) ∷ []) (later_from m shared (1 + goals_of front + goals_in f) back) (tt, tt))) past.reached in
    let handed : past.front.proved ≡ claims_of shared (front ++ f ∷ []) =
    whole_handed xs past.front past.whole ∙ settling_handed cert aloud shared front proof
    ∙ ap (λ l. claims_of shared front ++ l) (proof_handed (numbered (is_some cert) (1 + goals_of front)) (claim_at shared f)) ∙ sym (claims-append shared front f) in
    record {
      certified = certified_next cert aloud shared front f d past.front past.back past.both none past.whole;
      handed = begins_then d past.front past.back (claims_of shared (front ++ f ∷ [])) past.both handed;
    }

pub settled_last : (cert : Option (List ℕ)) (aloud : Bool) (shared : List Declaration) (fs : List Finding) (d : Effects) → Reached (plan_over cert aloud shared fs) d
    → length (entries_said aloud shared fs) < length d.said → AreSettled cert shared fs d
settled_last cert aloud shared fs d r l =
    let m : Manner = manner_of cert aloud in
    let events : List Event = events_from m shared 1 fs in
    let xs : List Event = settling cert aloud shared fs [] in
    let ys : List Event = Says (last_line_of fs) ∷ [] in
    let same : plan_over cert aloud shared fs ≡ xs ++ ys = simp (append_assoc, append-nil) in
    let reached : Reached (xs ++ ys) d = subst (λ (zs : List Event). Reached zs d) same r in
    let said : length (flat_map said_by xs) < length d.said = subst (λ (t : List ℕ). length t < length d.said) (sym (settling_said cert aloud shared fs [] refl)) l in
    let past = beyond xs ys d reached said in
    let none : past.back.created ≡ false = reached_later ys past.back (tt, tt) past.reached in
    let handed : past.front.proved ≡ claims_of shared fs = whole_handed xs past.front past.whole ∙ settling_handed cert aloud shared fs [] ∙ append-nil (claims_of shared fs) in
    record {
      certified = certified_front cert aloud shared fs d past.front past.back past.both none past.whole;
      handed = begins_then d past.front past.back (claims_of shared fs) past.both handed;
    }

-- what is reached of a plan is in order
pub in_order : (cert : Option (List ℕ)) (aloud : Bool) (shared : List Declaration) (fs : List Finding) (d : Effects) → Reached (plan_over cert aloud shared fs) d → InOrder cert aloud shared fs d
in_order cert aloud shared fs d r = record {
  handed = begun_handed cert aloud shared fs d r;
  derivable = reached_derivable (plan_over cert aloud shared fs) d r;
  appended = begun_appended cert aloud shared fs d r;
  behind = settled_before cert aloud shared fs d r;
  last = settled_last cert aloud shared fs d r;
}
