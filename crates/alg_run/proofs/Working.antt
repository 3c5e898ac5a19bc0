-- The work on the commands so far, on one more, and on the rest.
use Rattle.std.proofs.Common.{◌≡◌, ℕ, ◌+◌, ◌<◌, ◌≤◌, List, [], ◌∷◌, ◌++◌, length, get_or, take, drop, map, refl, ap, sym, ◌∙◌, append-nil, add-zero, Ok, Err, Some, None, inl, inr, Bool, true, false, arith, cond, subst}
use Rattle.std.specs.Prelude.{Option, is_some, Result, IsErr, OnOk}
use Rattle.std.specs.Global.{Vec}
use Rattle.std.specs.declared.alloc.Global.{Global}
use Rattle.std.specs.declared.string.String.{String}
use Rattle.std.specs.Borrow.{Bor}
use Rattle.std.proofs.lemmas.List.{take_all, take-append-drop, map-append}
use Rattle.std.proofs.lemmas.List.Sums.{sum_by-append}
use Rattle.std.proofs.lemmas.Grind.{flat_map-append, common_steps}
use Rattle.alg_host.specs.Host.{Told}
use Rattle.alg_kernel.specs.Claims.{Claim}
use Rattle.alg_law.specs.Declarations.{Declaration, declarations_of}
use Rattle.alg_terms.specs.Tree.{Tree, Statement}
use Rattle.alg_expr.specs.declared.ids.Stmt.{Stmt}
use Rattle.alg_expr.specs.Ids.{statement_of}
use Rattle.alg_law.specs.declared.declarations.Declared.{Declared}
use Rattle.alg_parse.specs.declared.procedures.Proc.{Proc}
use Rattle.alg_parse.specs.declared.file_trees.Command.{Command}
use Rattle.alg_parse.specs.declared.file_trees.Command.TheVariants as command
use Rattle.alg_parse.specs.Told as parsed
use Rattle.alg_steps.specs.declared.notes.Note.{Note}
use Rattle.alg_steps.specs.Stepped.{Steps}
use Rattle.alg_report.specs.declared.causes.FailCause.{FailCause}
use Rattle.alg_report.specs.declared.tally.Tally.{Tally}
use Rattle.alg_report.specs.Judged.{Verdict, Closed, Open, Failed, Judged, judged_of}
use Rattle.alg_report.specs.Seen.{calls_in, told_seen}
use Rattle.alg_report.specs.Tallies.{plus, with_verdict, next_goal, total_of, tally_text}
use Rattle.alg_report.specs.Certificate.{IsEntry, claim_by, goals_in, goals_of}
use Rattle.alg_report.specs.Plan.{Did, Event, Appends, Certifies, Says, AreWhole, Manner, certifies, numbered, proof_events, said_if, events_from, start_of, plan_over}
use Rattle.alg_report.specs.Report.{Goal, Finding, of_goal, of_fault, findings_at, findings_of, tally_of, is_closed, is_open, is_failed, is_error}
use Rattle.alg_report.proofs.Reaching.{did_then, did_more, did_plan, did_ok, did_empty}
use Rattle.alg_report.proofs.Ordering.{events_append}
use Rattle.alg_scripts.specs.declared.entries.Proof.{Proof}
use Rattle.alg_scripts.specs.declared.fates.End.{End}
use Rattle.alg_scripts.specs.declared.fates.End.TheVariants as end
use Rattle.alg_scripts.specs.declared.fates.Fate.{Fate}
use Rattle.alg_scripts.specs.Fates.{IsEntryFor, IsEnd, IsFateOf, fate_text}
use Rattle.alg_scripts.proofs.Telling.{fate_told}
use Rattle.alg_words.specs.Words.{text_in}
use Rattle.alg_run.specs.Events.{claim_in, HasEntry, with_end}
use Rattle.alg_run.specs.declared.events.Stop.{Stop}

-- what the first commands tell is done
pub record Progress (m : Manner) (steps : Steps) (shared : List Declaration) (ready : List parsed.Told) (before now : Option Told) (count : ℕ) (tally : Tally) : Type 0 where
  pub did : Did {T = Unit {0}} {E = Stop} before now (events_from m shared 1 (findings_of steps shared ready)) (Ok tt)
  pub tallied : tally ≡ tally_of (findings_of steps shared ready)
  pub small : total_of tally ≤ count

pub at_start : (m : Manner) (steps : Steps) (shared : List Declaration) (a : Option Told) (tally : Tally) → tally ≡ tally_of [] → Did {T = Unit {0}} {E = Stop} a a [] (Ok tt) → Progress m steps shared [] a a 0 tally
at_start m steps shared a tally e did = record { did = did; tallied = e; small = rw e (omega arith) }

abbrev judged : List Note → Verdict → Judged
judged ns v = record { notes = ns; verdict = v }

verdict_counted : (label : List ℕ) (g : Goal) (ns : List Note) (v : Verdict) → total_of (tally_of (of_goal label g (judged ns v) ∷ [])) ≡ 1
verdict_counted label g ns Closed = refl
verdict_counted label g ns (Open s) = refl
verdict_counted label g ns (Failed step cause) = refl

few : (steps : Steps) (shared : List Declaration) (t : parsed.Told) → total_of (tally_of (findings_at steps shared t)) ≤ 1
few steps shared parsed.declares = omega arith
few steps shared (parsed.goal label line prefix local s calls) =
    let j : Judged = judged_of steps (take prefix shared ++ local) s calls in
    omega (arith, verdict_counted label (record { prefix = prefix; local = local; statement = s }) j.notes j.verdict)
few steps shared (parsed.faulty line cause) = omega arith

total_of-plus : (t u : Tally) → total_of (plus t u) ≡ total_of t + total_of u
total_of-plus t u = omega arith

tally_of-append : (fs gs : List Finding) → tally_of (fs ++ gs) ≡ plus (tally_of fs) (tally_of gs)
tally_of-append fs gs =
    simp (sum_by-append (λ (f : Finding). cond (is_closed f) 1 0) fs gs, sum_by-append (λ (f : Finding). cond (is_open f) 1 0) fs gs, sum_by-append (λ (f : Finding). cond (is_failed f) 1 0) fs gs, sum_by-append (λ (f : Finding). cond (is_error f) 1 0) fs gs)

findings_of-more : (steps : Steps) (shared : List Declaration) (ts : List parsed.Told) (t : parsed.Told) → findings_of steps shared (ts ++ t ∷ []) ≡ findings_of steps shared ts ++ findings_at steps shared t
findings_of-more steps shared ts t = flat_map-append (findings_at steps shared) ts (t ∷ []) ∙ ap (λ l. findings_of steps shared ts ++ l) (append-nil (findings_at steps shared t))

-- the numbers of goals

verdict_one : (label : List ℕ) (g : Goal) (ns : List Note) (v : Verdict)
    → 1 ≡ (tally_of (of_goal label g (judged ns v) ∷ [])).closed + (tally_of (of_goal label g (judged ns v) ∷ [])).left + (tally_of (of_goal label g (judged ns v) ∷ [])).failed
verdict_one label g ns Closed = refl
verdict_one label g ns (Open s) = refl
verdict_one label g ns (Failed step cause) = refl

one_counted : (f : Finding) → goals_in f ≡ (tally_of (f ∷ [])).closed + (tally_of (f ∷ [])).left + (tally_of (f ∷ [])).failed
one_counted (of_goal label g j) = verdict_one label g j.notes j.verdict
one_counted (of_fault line cause) = refl

goals_counted : (fs : List Finding) → goals_of fs ≡ (tally_of fs).closed + (tally_of fs).left + (tally_of fs).failed
goals_counted [] = refl
goals_counted (f ∷ fs) =
    let tally : tally_of (f ∷ fs) ≡ plus (tally_of (f ∷ [])) (tally_of fs) = tally_of-append (f ∷ []) fs in
    let closed : (tally_of (f ∷ fs)).closed ≡ (tally_of (f ∷ [])).closed + (tally_of fs).closed = ap (λ (t : Tally). t.closed) tally in
    let left : (tally_of (f ∷ fs)).left ≡ (tally_of (f ∷ [])).left + (tally_of fs).left = ap (λ (t : Tally). t.left) tally in
    let failed : (tally_of (f ∷ fs)).failed ≡ (tally_of (f ∷ [])).failed + (tally_of fs).failed = ap (λ (t : Tally). t.failed) tally in
    omega (arith, one_counted f, goals_counted fs, closed, left, failed)

number_is : (tally : Tally) (fs : List Finding) → tally ≡ tally_of fs → next_goal tally ≡ 1 + goals_of fs
number_is tally fs e = rw e (omega (arith, goals_counted fs))

plan_more : (m : Manner) (steps : Steps) (shared : List Declaration) (ready : List parsed.Told) (t : parsed.Told) (tally : Tally) → tally ≡ tally_of (findings_of steps shared ready)
    → events_from m shared 1 (findings_of steps shared ready) ++ events_from m shared (next_goal tally) (findings_at steps shared t) ≡ events_from m shared 1 (findings_of steps shared (ready ++ t ∷ []))
plan_more m steps shared ready t tally e =
    ap (λ k. events_from m shared 1 (findings_of steps shared ready) ++ events_from m shared k (findings_at steps shared t)) (number_is tally (findings_of steps shared ready) e)
    ∙ sym (events_append m shared 1 (findings_of steps shared ready) (findings_at steps shared t)) ∙ ap (λ l. events_from m shared 1 l) (sym (findings_of-more steps shared ready t))

-- one command more is done
pub next : {T E : Type 0} (m : Manner) (steps : Steps) (shared : List Declaration) (ready : List parsed.Told) (t : parsed.Told) (a b c : Option Told) (count : ℕ) (tally later : Tally) (r : Result T E) (x : T)
    → Progress m steps shared ready a b count tally → Did b c (events_from m shared (next_goal tally) (findings_at steps shared t)) r → r ≡ Ok x → later ≡ plus tally (tally_of (findings_at steps shared t))
    → Progress m steps shared (ready ++ t ∷ []) a c (count + 1) later
next m steps shared ready t a b c count tally later r x p did ok e = record {
  did = did_plan a c _ _ _ (plan_more m steps shared ready t tally p.tallied)
      (did_then a b c (events_from m shared 1 (findings_of steps shared ready)) (events_from m shared (next_goal tally) (findings_at steps shared t)) _ _ _ refl p.did (did_ok b c _ r x _ ok did));
  tallied = e ∙ ap (λ u. plus u (tally_of (findings_at steps shared t))) p.tallied ∙ sym (tally_of-append (findings_of steps shared ready) (findings_at steps shared t)) ∙ sym (ap (λ l. tally_of l) (findings_of-more steps shared ready t));
  small = rw e (omega (arith, total_of-plus tally (tally_of (findings_at steps shared t)), few steps shared t, p.small));
}

-- the work is cut short in a command
pub cut : {T E U F : Type 0} (m : Manner) (steps : Steps) (shared : List Declaration) (all ready : List parsed.Told) (t : parsed.Told) (more : List parsed.Told) (a b c : Option Told) (count : ℕ) (tally : Tally) (r : Result T E)
    (s : Result U F) → all ≡ (ready ++ t ∷ []) ++ more → Progress m steps shared ready a b count tally → Did b c (events_from m shared (next_goal tally) (findings_at steps shared t)) r → IsErr s
    → Did a c (events_from m shared 1 (findings_of steps shared all)) s
cut m steps shared all ready t more a b c count tally r s is p did bad =
    let front : List Finding = findings_of steps shared (ready ++ t ∷ []) in
    let behind : List Event = events_from m shared (1 + goals_of front) (findings_of steps shared more) in
    let plan : (events_from m shared 1 (findings_of steps shared ready) ++ events_from m shared (next_goal tally) (findings_at steps shared t)) ++ behind ≡ events_from m shared 1 (findings_of steps shared all) =
    ap (λ l. l ++ behind) (plan_more m steps shared ready t tally p.tallied) ∙ sym (events_append m shared 1 front (findings_of steps shared more))
    ∙ ap (λ l. events_from m shared 1 l) (sym (flat_map-append (findings_at steps shared) (ready ++ t ∷ []) more)) ∙ ap (λ l. events_from m shared 1 (findings_of steps shared l)) (sym is) in
    did_plan a c _ _ _ plan (did_more a c _ behind r s bad (did_then a b c (events_from m shared 1 (findings_of steps shared ready)) (events_from m shared (next_goal tally) (findings_at steps shared t)) _ _ _ refl p.did did))

-- a list of commands, and the one at a place

pub ready_more : {X Y : Type 0} (f : X → Y) (xs : List X) (i : ℕ) (x d : X) → i < length xs → x ≡ get_or xs i d → map f (take (i + 1) xs) ≡ map f (take i xs) ++ f x ∷ []
ready_more f xs i x d l is = rw is (grind (arith, common_steps))

pub split_at : {X Y : Type 0} (f : X → Y) (xs : List X) (i : ℕ) (x d : X) → i < length xs → x ≡ get_or xs i d → map f xs ≡ (map f (take i xs) ++ f x ∷ []) ++ map f (drop (i + 1) xs)
split_at f xs i x d l is =
    ap (λ l. map f l) (sym (take-append-drop (i + 1) xs)) ∙ map-append f (take (i + 1) xs) (drop (i + 1) xs) ∙ ap (λ l. l ++ map f (drop (i + 1) xs)) (ready_more f xs i x d l is)

pub at_next : {T E X : Type 0} (m : Manner) (steps : Steps) (shared : List Declaration) (f : X → parsed.Told) (xs : List X) (i : ℕ) (x d : X) (a b c : Option Told) (tally later : Tally) (r : Result T E) (y : T) → i < length xs
    → x ≡ get_or xs i d → Progress m steps shared (map f (take i xs)) a b i tally → Did b c (events_from m shared (next_goal tally) (findings_at steps shared (f x))) r → r ≡ Ok y
    → later ≡ plus tally (tally_of (findings_at steps shared (f x))) → Progress m steps shared (map f (take (i + 1) xs)) a c (i + 1) later
at_next m steps shared f xs i x d a b c tally later r y l is p did ok e = rw (ready_more f xs i x d l is) (next m steps shared (map f (take i xs)) (f x) a b c i tally later r y p did ok e)

pub cut_at : {T E U F X : Type 0} (m : Manner) (steps : Steps) (shared : List Declaration) (f : X → parsed.Told) (xs : List X) (i : ℕ) (x d : X) (a b c : Option Told) (tally : Tally) (r : Result T E) (s : Result U F) → i < length xs
    → x ≡ get_or xs i d → Progress m steps shared (map f (take i xs)) a b i tally → Did b c (events_from m shared (next_goal tally) (findings_at steps shared (f x))) r → IsErr s
    → Did a c (events_from m shared 1 (findings_of steps shared (map f xs))) s
cut_at m steps shared f xs i x d a b c tally r s l is p did bad =
    cut m steps shared (map f xs) (map f (take i xs)) (f x) (map f (drop (i + 1) xs)) a b c i tally r s (split_at f xs i x d l is) p did bad

-- all commands are done

pub all_done : {T E X : Type 0} (m : Manner) (steps : Steps) (shared : List Declaration) (f : X → parsed.Told) (xs : List X) (i : ℕ) (a b : Option Told) (tally : Tally) (r : Result T E) → length xs ≤ i
    → Progress m steps shared (map f (take i xs)) a b i tally → Did a b (events_from m shared 1 (findings_of steps shared (map f xs))) r
all_done m steps shared f xs i a b tally r l p = did_plan a b _ _ r (ap (λ l. events_from m shared 1 (findings_of steps shared (map f l))) (take_all i xs l)) (did_ok a b _ _ _ r refl p.did)

pub tally_done : {X : Type 0} (m : Manner) (steps : Steps) (shared : List Declaration) (f : X → parsed.Told) (xs : List X) (i : ℕ) (a b : Option Told) (tally : Tally) → length xs ≤ i
    → Progress m steps shared (map f (take i xs)) a b i tally → tally ≡ tally_of (findings_of steps shared (map f xs))
tally_done m steps shared f xs i a b tally l p = p.tallied ∙ ap (λ l. tally_of (findings_of steps shared (map f l))) (take_all i xs l)

-- one goal

goal_counted : (t : Tally) (label : List ℕ) (g : Goal) (ns : List Note) (v : Verdict) → with_verdict t v ≡ plus t (tally_of (of_goal label g (judged ns v) ∷ []))
goal_counted t label g ns Closed = simp add-zero
goal_counted t label g ns (Open s) = simp add-zero
goal_counted t label g ns (Failed step cause) = simp add-zero

claim_is : (number : Option ℕ) (ds : List Declaration) (goal : Statement) (e : End) (v : Verdict) → IsEnd number ds goal e v → claim_in e ≡ claim_by ds goal v
claim_is number ds goal (end.Closed proof) v h = ap Some h.1.0 ∙ sym (ap (claim_by ds goal) h.0)
claim_is number ds goal (end.Open proof text) v h = ap Some h.2.0 ∙ sym (ap (claim_by ds goal) h.1)
claim_is number ds goal (end.Failed step cause) v h = sym (ap (claim_by ds goal) h)

end_counted : (number : Option ℕ) (ds : List Declaration) (goal : Statement) (t : Tally) (e : End) (v : Verdict) → IsEnd number ds goal e v → with_end t e ≡ with_verdict t v
end_counted number ds goal t (end.Closed proof) v h = sym (ap (with_verdict t) h.0)
end_counted number ds goal t (end.Open proof text) v h = sym (ap (with_verdict t) h.1)
end_counted number ds goal t (end.Failed step cause) v h = sym (ap (with_verdict t) h)

end_entry : (number : Option ℕ) (ds : List Declaration) (goal : Statement) (e : End) (v : Verdict) → IsEnd number ds goal e v → HasEntry number e
end_entry number ds goal (end.Closed proof) v h = subst (λ (c : Claim). IsEntryFor number c proof.entry) (sym h.1.0) h.1.1
end_entry number ds goal (end.Open proof text) v h = subst (λ (c : Claim). IsEntryFor number c proof.entry) (sym h.2.0) h.2.1
end_entry number ds goal (end.Failed step cause) v h = tt

pub has_entry : (number : Option ℕ) (ds : List Declaration) (goal : Statement) (j : Judged) (f : Fate) → IsFateOf number ds goal j f → HasEntry number f.end
has_entry number ds goal j f h = end_entry number ds goal f.end j.verdict h.end

pub goal_done : (m : Manner) (steps : Steps) (shared : List Declaration) (n : ℕ) (number : Option ℕ) (ts : List Tree) (c : Command) (label : List ℕ) (line prefix : ℕ) (local : List Declared) (stmt : Stmt) (script : List Proc) (name : List ℕ)
    (ds : List Declared) (ps : List Proc) (fate : Fate) → c ≡ command.Goal label line prefix local stmt script → name ≡ label → ds ≡ local → ps ≡ script → number ≡ numbered m.certified n
    → IsFateOf number (take prefix shared ++ declarations_of ts ds) (statement_of ts stmt) (judged_of steps (take prefix shared ++ declarations_of ts ds) (statement_of ts stmt) (calls_in ts ps)) fate
    → proof_events number (claim_in fate.end) ++ said_if m.aloud (fate_text name fate) ≡ events_from m shared n (findings_at steps shared (told_seen ts c))
goal_done m steps shared n number ts c label line prefix local stmt script name ds ps fate is e same f number_is h =
    let over : List Declaration = take prefix shared ++ declarations_of ts ds in
    let j : Judged = judged_of steps over (statement_of ts stmt) (calls_in ts ps) in
    let claim = claim_is number over (statement_of ts stmt) fate.end j.verdict h.end in
    let text = fate_told number over (statement_of ts stmt) name fate j h in
    ap (λ x. proof_events number x ++ said_if m.aloud (fate_text name fate)) claim ∙ ap (λ t. proof_events number (claim_by over (statement_of ts stmt) j.verdict) ++ said_if m.aloud t) text
    ∙ rw (is, e, same, f, number_is) (sym (append-nil _))

pub goal_tally : {U E : Type 0} (steps : Steps) (shared : List Declaration) (number : Option ℕ) (ts : List Tree) (c : Command) (label : List ℕ) (line prefix : ℕ) (local : List Declared) (stmt : Stmt) (script : List Proc) (ds : List Declared) (ps : List Proc)
    (fate : Fate) (before now : Tally) (r : Result U E) → c ≡ command.Goal label line prefix local stmt script → ds ≡ local → ps ≡ script
    → IsFateOf number (take prefix shared ++ declarations_of ts ds) (statement_of ts stmt) (judged_of steps (take prefix shared ++ declarations_of ts ds) (statement_of ts stmt) (calls_in ts ps)) fate
    → OnOk r (now ≡ with_end before fate.end) → OnOk r (now ≡ plus before (tally_of (findings_at steps shared (told_seen ts c))))
goal_tally steps shared number ts c label line prefix local stmt script ds ps fate before now r is same f h k =
    let over : List Declaration = take prefix shared ++ declarations_of ts ds in
    let j : Judged = judged_of steps over (statement_of ts stmt) (calls_in ts ps) in
    let g : Goal = record { prefix = prefix; local = declarations_of ts ds; statement = statement_of ts stmt } in
    let counted : with_end before fate.end ≡ plus before (tally_of (of_goal label g j ∷ [])) =
    end_counted number over (statement_of ts stmt) before fate.end j.verdict h.end ∙ goal_counted before label g j.notes j.verdict in
    let told : plus before (tally_of (of_goal label g j ∷ [])) ≡ plus before (tally_of (findings_at steps shared (told_seen ts c))) = rw (is, same, f) refl in
    subst (λ (t : Tally). OnOk r (now ≡ t)) (counted ∙ told) k

pub plan_is : (cert : Option (List ℕ)) (aloud certified : Bool) (steps : Steps) (shared : List Declaration) (ts : List parsed.Told) (tally : Tally) → certified ≡ is_some cert → tally ≡ tally_of (findings_of steps shared ts)
    → start_of cert ++ (events_from (record { certified = certified; aloud = aloud }) shared 1 (findings_of steps shared ts) ++ Says (tally_text tally) ∷ []) ≡ plan_over cert aloud shared (findings_of steps shared ts)
plan_is cert aloud certified steps shared ts tally e f = rw (e, f) refl

-- the entry of a proof

certified_one : {T E : Type 0} (a b : Option Told) (n : ℕ) (claim : Claim) (bytes : List ℕ) (r : Result T E) → IsEntry n claim bytes → Did a b (Appends bytes ∷ []) r → Did a b (Certifies n claim ∷ []) r
certified_one a b n claim bytes r entry p = record {
  effects = p.effects;
  does = p.does;
  reached = elim p.reached [
    | inl part ↦ inl (inr (bytes, part.0, entry, part.1, part.2))
    | inr whole ↦ inr (whole.0, whole.1, (bytes, entry, whole.2), whole.3, whole.4)
  ];
  all = elim r as (λ v. OnOk v (AreWhole (Appends bytes ∷ []) p.effects) → OnOk v (AreWhole (Certifies n claim ∷ []) p.effects)) [
    | Ok u ↦ λ whole. (whole.0, whole.1, (bytes, entry, whole.2), whole.3, whole.4)
    | Err f ↦ λ e. e
  ] p.all;
}

pub certified : {T E : Type 0} (a b : Option Told) (number : Option ℕ) (claim : Claim) (o : Option (Vec ℕ)) (n : ℕ) (v : Vec ℕ) (bytes : List ℕ) (r : Result T E) → number ≡ Some n → o ≡ Some v → bytes ≡ v.items
    → IsEntryFor number claim o → Did a b (Appends bytes ∷ []) r → Did a b (certifies number claim) r
certified a b number claim o n v bytes r is there same entry did =
    let found : IsEntry n claim v.items = rw (is, there) at entry in
    rw is (certified_one a b n claim v.items r found (rw same at did))

pub none_certified : {T E : Type 0} (a : Option Told) (number : Option ℕ) (claim : Claim) (r : Result T E) → number ≡ None → Did a a (certifies number claim) r
none_certified a number claim r is = rw is (did_empty a r)

pub end_failed : {T E : Type 0} (a : Option Told) (number : Option ℕ) (e : End) (step : ℕ) (cause : FailCause) (r : Result T E) → e ≡ end.Failed step cause → Did a a (proof_events number (claim_in e)) r
end_failed a number e step cause r is = rw is (did_empty a r)

pub end_closed : {T E : Type 0} (a b : Option Told) (number : Option ℕ) (e : End) (p : Proof) (r : Result T E) → e ≡ end.Closed p → Did a b (proof_events number (Some p.proved)) r → Did a b (proof_events number (claim_in e)) r
end_closed a b number e p r is h = subst (λ (x : End). Did a b (proof_events number (claim_in x)) r) (sym is) h

pub end_open : {T E : Type 0} (a b : Option Told) (number : Option ℕ) (e : End) (p : Proof) (text : String Global) (r : Result T E) → e ≡ end.Open p text → Did a b (proof_events number (Some p.proved)) r → Did a b (proof_events number (claim_in e)) r
end_open a b number e p text r is h = subst (λ (x : End). Did a b (proof_events number (claim_in x)) r) (sym is) h

-- what is said, or not
pub quiet : {T E : Type 0} (a : Option Told) (aloud : Bool) (text : List ℕ) (r : Result T E) → aloud ≡ false → Did a a (said_if aloud text) r
quiet a aloud text r is = rw is (did_empty a r)

pub aloud_said : {T E : Type 0} (a b : Option Told) (aloud : Bool) (text : List ℕ) (r : Result T E) → aloud ≡ true → Did a b (Says text ∷ []) r → Did a b (said_if aloud text) r
aloud_said a b aloud text r is h = subst (λ (x : Bool). Did a b (said_if x text) r) (sym is) h

pub some_text : (o : Option (Bor (List ℕ))) → is_some o ≡ is_some (text_in o)
some_text None = refl
some_text (Some s) = refl

pub none_started : {T E : Type 0} (a : Option Told) (cert : Option (Bor (List ℕ))) (r : Result T E) → cert ≡ None → Did a a (start_of (text_in cert)) r
none_started a cert r is = rw is (did_empty a r)

pub nothing_declared : {T E : Type 0} (a : Option Told) (m : Manner) (steps : Steps) (shared : List Declaration) (n : ℕ) (ts : List Tree) (c : Command) (r : Result T E) → c ≡ command.Declares
    → Did a a (events_from m shared n (findings_at steps shared (told_seen ts c))) r
nothing_declared a m steps shared n ts c r is = rw is (did_empty a r)
