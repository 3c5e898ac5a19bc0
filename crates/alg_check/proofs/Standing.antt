-- How far the check of a certificate has come.
use Rattle.std.proofs.Common.{◌≡◌, ℕ, ◌+◌, List, [], ◌∷◌, ◌++◌, map, All, Bool, true, false, cond, refl, ap, sym, ◌∙◌, subst, append_assoc, append-nil, zero-add, add-zero, arith, Ok, Err, Some, None}
use Rattle.std.specs.Prelude.{Option, Result, OnOk, IfOk, IsErr, count_by, not}
use Rattle.std.specs.Option.{option_map}
use Rattle.std.specs.List.{flat_map}
use Rattle.std.proofs.lemmas.List.Elements.{All-head, All-tail}
use Rattle.std.proofs.lemmas.List.Sums.{sum_by-cons}
use Rattle.alg_host.specs.Host.{Told, Adds, adds_said}
use Rattle.alg_law.specs.Rows.{Row}
use Rattle.alg_certificate.specs.Reader.{Coming}
use Rattle.alg_check.specs.Entries.{Entry, EntryHasSpelling, AreEntriesOf}
use Rattle.alg_check.specs.Goals.{Goal}
use Rattle.alg_check.specs.Findings.{Finding, finding_of, findings_from, findings, is_accepted, is_refused, faults, tally_of}
use Rattle.alg_check.specs.Found.{one_more, counted}
use Rattle.alg_check.specs.Text.{finding_text, fault_text, bad_text, lines_text, last_text, whole_text}
use Rattle.alg_check.specs.Written.{Texts, texts_in, texts_of}
use Rattle.alg_check.specs.Checking.{Checks}
use Rattle.alg_check.specs.declared.tallies.Tally.{Tally}
use Rattle.alg_check.specs.declared.stops.Stop.{Stop}
use Rattle.alg_check.proofs.Reading.{entries_read}
use Rattle.alg_check.proofs.Saying.{said_nothing, cut_short, one_said, stops, all_said, from_ok}

abbrev pub texts_said : List Finding → List ℕ
texts_said fs = flat_map finding_text fs

module _ (rows : List Row) (gs : List Goal) where
  -- these entries are left, behind one with this number, and what was said and counted is that of the others
  pub record Stands (c : Coming) (before : ℕ) (t0 now : Option Told) (tally : Tally) (es : List Entry) : Type 0 where
    pub rest : List Entry
    pub spelled : All EntryHasSpelling rest
    pub left : texts_in c.lines ≡ map texts_of rest
    pub said : List ℕ
    pub told : now ≡ option_map (adds_said said) t0
    pub text : texts_said (findings rows gs es) ≡ said ++ texts_said (findings_from rows gs before rest)
    pub accepted : count_by is_accepted (findings rows gs es) ≡ tally.accepted + count_by is_accepted (findings_from rows gs before rest)
    pub refused : count_by is_refused (findings rows gs es) ≡ tally.refused + count_by is_refused (findings_from rows gs before rest)

  pub at_start : (c : Coming) (t : Option Told) (tally : Tally) (es : List Entry) → tally.accepted ≡ 0 → tally.refused ≡ 0 → AreEntriesOf c.lines es → Stands c 0 t t tally es
  at_start c t tally es a r h = record {
    rest = es;
    spelled = h.spelled;
    left = entries_read c.lines es h;
    said = [];
    told = said_nothing t;
    text = refl;
    accepted = rw a (sym (zero-add (count_by is_accepted (findings rows gs es))));
    refused = rw r (sym (zero-add (count_by is_refused (findings rows gs es))));
  }

  -- an entry whose texts are these
  abbrev pub Tells : ℕ → Texts → (Finding → Type 0) → Type 0
  Tells before w P = (e : Entry) → EntryHasSpelling e → w ≡ texts_of e → P (finding_of rows gs before e)

  -- the first of the entries that are left
  record First (before : ℕ) (w : Texts) (ts : List Texts) (rest : List Entry) : Type 0 where
    pub entry : Entry
    pub others : List Entry
    pub is : rest ≡ entry ∷ others
    pub fits : EntryHasSpelling entry
    pub fit : All EntryHasSpelling others
    pub same : w ≡ texts_of entry
    pub same_others : ts ≡ map texts_of others

  first_of : (before : ℕ) (w : Texts) (ts : List Texts) (rest : List Entry) → All EntryHasSpelling rest → w ∷ ts ≡ map texts_of rest → First before w ts rest
  first_of before w ts [] h e = absurd (cc)
  first_of before w ts (x ∷ xs) h e =
      record { entry = x; others = xs; is = refl; fits = All-head EntryHasSpelling x xs h; fit = All-tail EntryHasSpelling x xs h; same = cc; same_others = cc }

  accepted_by : (b : Bool) (t : Tally) (n : ℕ) → t.accepted + (cond b 1 0 + n) ≡ (one_more b t).accepted + n
  accepted_by true t n = omega arith
  accepted_by false t n = omega arith

  refused_by : (b : Bool) (t : Tally) (n : ℕ) → t.refused + (cond (not b) 1 0 + n) ≡ (one_more b t).refused + n
  refused_by true t n = omega arith
  refused_by false t n = omega arith

  accepted_more : (f : Finding) (fs : List Finding) (t : Tally) → t.accepted + count_by is_accepted (f ∷ fs) ≡ (counted f t).accepted + count_by is_accepted fs
  accepted_more f fs t = ap (λ n. t.accepted + n) (sum_by-cons (λ (x : Finding). cond (is_accepted x) 1 0) f fs) ∙ accepted_by (is_accepted f) t (count_by is_accepted fs)

  refused_more : (f : Finding) (fs : List Finding) (t : Tally) → t.refused + count_by is_refused (f ∷ fs) ≡ (counted f t).refused + count_by is_refused fs
  refused_more f fs t = ap (λ n. t.refused + n) (sum_by-cons (λ (x : Finding). cond (is_refused x) 1 0) f fs) ∙ refused_by (is_accepted f) t (count_by is_refused fs)

  -- one entry more is checked
  pub next : {T E : Type 0} (c d : Coming) (before : ℕ) (t0 t1 t2 : Option Told) (tally later : Tally) (es : List Entry) (w : Texts) (r : Result T E) (x : T)
      → texts_in c.lines ≡ w ∷ texts_in d.lines → Tells before w (λ f. Adds adds_said (finding_text f) r t1 t2) → Tells before w (λ f. OnOk r (later ≡ counted f tally)) → r ≡ Ok x
      → Stands c before t0 t1 tally es → Stands d w.number t0 t2 later es
  next c d before t0 t1 t2 tally later es w r x lines told count ok s =
      let k = first_of before w (texts_in d.lines) s.rest s.spelled (sym lines ∙ s.left) in
      let f : Finding = finding_of rows gs before k.entry in
      let others : findings_from rows gs before s.rest ≡ f ∷ findings_from rows gs k.entry.number k.others = ap (findings_from rows gs before) k.is in
      let number : w.number ≡ k.entry.number = ap (λ (t : Texts). t.number) k.same in
      let later_findings : List Finding = findings_from rows gs k.entry.number k.others in
      let behind : later_findings ≡ findings_from rows gs w.number k.others = ap (λ n. findings_from rows gs n k.others) (sym number) in
      let tallied : later ≡ counted f tally = from_ok r x (later ≡ counted f tally) ok (count k.entry k.fits k.same) in
      record {
        rest = k.others;
        spelled = k.fit;
        left = k.same_others;
        said = s.said ++ finding_text f;
        told = one_said s.said (finding_text f) t0 t1 t2 r x s.told ok (told k.entry k.fits k.same);
        text = s.text ∙ (ap (λ fs. s.said ++ texts_said fs) others ∙ (sym (append_assoc s.said (finding_text f) (texts_said later_findings)) ∙ ap (λ fs. (s.said ++ finding_text f) ++ texts_said fs) behind));
        accepted =
            s.accepted ∙ (ap (λ fs. tally.accepted + count_by is_accepted fs) others ∙ (accepted_more f later_findings tally
            ∙ (ap (λ fs. (counted f tally).accepted + count_by is_accepted fs) behind ∙ ap (λ (t : Tally). t.accepted + count_by is_accepted (findings_from rows gs w.number k.others)) (sym tallied))));
        refused =
            s.refused ∙ (ap (λ fs. tally.refused + count_by is_refused fs) others ∙ (refused_more f later_findings tally
            ∙ (ap (λ fs. (counted f tally).refused + count_by is_refused fs) behind ∙ ap (λ (t : Tally). t.refused + count_by is_refused (findings_from rows gs w.number k.others)) (sym tallied))));
      }

  abbrev Ends : Coming → Option Told → Option Told → Result Tally Stop → List Entry → Type 0
  Ends c t0 now result es = Adds adds_said (lines_text (findings rows gs es) c.fault) result t0 now × IfOk result (λ t. t ≡ tally_of (findings rows gs es) c.fault)

  no_tally : (s : Result Tally Stop) (P : Tally → Type 0) → IsErr s → IfOk s P
  no_tally (Ok u) P bad = absurd (cc)
  no_tally (Err f) P bad = tt

  -- the check ends early at an entry
  pub cut : {T E : Type 0} (c0 c d : Coming) (before : ℕ) (t0 t1 t2 : Option Told) (tally : Tally) (es : List Entry) (w : Texts) (r : Result T E) (s : Result Tally Stop)
      → texts_in c.lines ≡ w ∷ texts_in d.lines → Tells before w (λ f. Adds adds_said (finding_text f) r t1 t2) → IsErr s → Stands c before t0 t1 tally es → Ends c0 t0 t2 s es
  cut c0 c d before t0 t1 t2 tally es w r s lines told bad k =
      let o = first_of before w (texts_in d.lines) k.rest k.spelled (sym lines ∙ k.left) in
      let f : Finding = finding_of rows gs before o.entry in
      let more : List ℕ = texts_said (findings_from rows gs o.entry.number o.others) in
      let whole : lines_text (findings rows gs es) c0.fault ≡ k.said ++ (finding_text f ++ (more ++ fault_text c0.fault)) =
      ap (λ x. x ++ fault_text c0.fault) (k.text ∙ ap (λ xs. k.said ++ texts_said (findings_from rows gs before xs)) o.is)
      ∙ (append_assoc k.said (finding_text f ++ more) (fault_text c0.fault) ∙ ap (λ x. k.said ++ x) (append_assoc (finding_text f) more (fault_text c0.fault)))
      in
      (cut_short k.said (finding_text f) (more ++ fault_text c0.fault) _ t0 t1 t2 r s k.told whole (told o.entry o.fits o.same) bad, no_tally s _ bad)

  -- memory is wanting before an entry
  pub cut_before : (c0 c : Coming) (before : ℕ) (t0 t1 : Option Told) (tally : Tally) (es : List Entry) (s : Result Tally Stop) → IsErr s → Stands c before t0 t1 tally es → Ends c0 t0 t1 s es
  cut_before c0 c before t0 t1 tally es s bad k =
      let rest : List ℕ = texts_said (findings_from rows gs before k.rest) in
      (stops k.said _ (rest ++ fault_text c0.fault) t0 t1 s k.told (ap (λ x. x ++ fault_text c0.fault) k.text ∙ append_assoc k.said rest (fault_text c0.fault)) bad, no_tally s _ bad)

  nothing_left : (rest : List Entry) → [] ≡ map texts_of rest → rest ≡ []
  nothing_left [] e = refl
  nothing_left (x ∷ xs) e = absurd (cc)

  module _ (c : Coming) (before : ℕ) (t0 t1 : Option Told) (tally : Tally) (es : List Entry) (none : texts_in c.lines ≡ []) (k : Stands c before t0 t1 tally es) where
    empty : findings_from rows gs before k.rest ≡ []
    empty = ap (findings_from rows gs before) (nothing_left k.rest (sym none ∙ k.left))

    text_whole : (fault : Option ℕ) → lines_text (findings rows gs es) fault ≡ k.said ++ fault_text fault
    text_whole fault = ap (λ x. x ++ fault_text fault) (k.text ∙ (ap (λ fs. k.said ++ texts_said fs) empty ∙ append-nil k.said))

    accepted_whole : count_by is_accepted (findings rows gs es) ≡ tally.accepted
    accepted_whole = k.accepted ∙ (ap (λ fs. tally.accepted + count_by is_accepted fs) empty ∙ add-zero tally.accepted)

    refused_whole : count_by is_refused (findings rows gs es) ≡ tally.refused
    refused_whole = k.refused ∙ (ap (λ fs. tally.refused + count_by is_refused fs) empty ∙ add-zero tally.refused)

    tally_whole : (fault : Option ℕ) (later : Tally) → later.accepted ≡ tally.accepted → later.refused ≡ tally.refused + faults fault → later ≡ tally_of (findings rows gs es) fault
    tally_whole fault later a r = λ i. record { accepted = (a ∙ sym accepted_whole) i; refused = (r ∙ ap (λ n. n + faults fault) (sym refused_whole)) i }

    -- all entries are checked
    pub over : (c0 : Coming) → c0.fault ≡ None → Ends c0 t0 t1 (Ok tally) es
    over c0 e = (
      all_said {U = Tally} {F = Stop} k.said _ t0 t1 (Ok tally) k.told (text_whole c0.fault ∙ (ap (λ f. k.said ++ fault_text f) e ∙ append-nil k.said)),
      tally_whole c0.fault tally refl (sym (ap (λ f. tally.refused + faults f) e ∙ add-zero tally.refused)),
    )

    module _ (c0 : Coming) (at : ℕ) (bad : c0.fault ≡ Some at) (t2 : Option Told) where
      bad_whole : lines_text (findings rows gs es) c0.fault ≡ k.said ++ bad_text at
      bad_whole = text_whole c0.fault ∙ ap (λ f. k.said ++ fault_text f) bad

      -- the place where no line begins was said
      pub fault_said : {T E : Type 0} (later : Tally) (r : Result T E) (x : T) → Adds adds_said (bad_text at) r t1 t2 → r ≡ Ok x → later ≡ record tally { refused = tally.refused + 1 } → Ends c0 t0 t2 (Ok later) es
      fault_said later r x a ok e = (
        all_said {U = Tally} {F = Stop} (k.said ++ bad_text at) _ t0 t2 (Ok later) (one_said k.said (bad_text at) t0 t1 t2 r x k.told ok a) bad_whole,
        tally_whole c0.fault later (ap (λ (t : Tally). t.accepted) e) (ap (λ (t : Tally). t.refused) e ∙ sym (ap (λ f. tally.refused + faults f) bad)),
      )

      -- it was not, or in part
      pub fault_cut : {T E : Type 0} (r : Result T E) (s : Result Tally Stop) → Adds adds_said (bad_text at) r t1 t2 → IsErr s → Ends c0 t0 t2 s es
      fault_cut r s a err =
          (cut_short k.said (bad_text at) [] _ t0 t1 t2 r s k.told (bad_whole ∙ ap (λ x. k.said ++ x) (sym (append-nil (bad_text at)))) a err, no_tally s _ err)

  -- the check ends before the last line
  pub certificate_cut : (c : Coming) (t0 t1 : Option Told) (r s : Result Tally Stop) → Checks lines_text rows gs c t0 t1 r → IsErr s → Checks whole_text rows gs c t0 t1 s
  certificate_cut c t0 t1 r s a bad = λ es h.
      let fs : List Finding = findings rows gs es in
      (cut_short [] (lines_text fs c.fault) (last_text (tally_of fs c.fault)) _ t0 t0 t1 r s (said_nothing t0) refl (a es h).0 bad, no_tally s _ bad)

  module _ (c : Coming) (t0 t1 t2 : Option Told) (tally : Tally) (r : Result Tally Stop) (ok : r ≡ Ok tally) (a : Checks lines_text rows gs c t0 t1 r) where
    tally_is : (es : List Entry) → AreEntriesOf c.lines es → tally ≡ tally_of (findings rows gs es) c.fault
    tally_is es h = rw ok at (a es h).1

    lines_said : (es : List Entry) → AreEntriesOf c.lines es → t1 ≡ option_map (adds_said (lines_text (findings rows gs es) c.fault)) t0
    lines_said es h = one_said [] (lines_text (findings rows gs es) c.fault) t0 t0 t1 r tally (said_nothing t0) ok (a es h).0

    last_is : (es : List Entry) → AreEntriesOf c.lines es → whole_text (findings rows gs es) c.fault ≡ lines_text (findings rows gs es) c.fault ++ last_text tally
    last_is es h = ap (λ t. lines_text (findings rows gs es) c.fault ++ last_text t) (sym (tally_is es h))

    -- or in the last line
    pub last_cut : {T E : Type 0} (q : Result T E) (s : Result Tally Stop) → Adds adds_said (last_text tally) q t1 t2 → IsErr s → Checks whole_text rows gs c t0 t2 s
    last_cut q s b bad = λ es h.
        let before : List ℕ = lines_text (findings rows gs es) c.fault in
        (cut_short before (last_text tally) [] _ t0 t1 t2 q s (lines_said es h) (last_is es h ∙ ap (λ x. before ++ x) (sym (append-nil (last_text tally)))) b bad, no_tally s _ bad)

    -- all of it was said
    pub last_said : {T E : Type 0} (q : Result T E) (x : T) → Adds adds_said (last_text tally) q t1 t2 → q ≡ Ok x → Checks whole_text rows gs c t0 t2 (Ok tally)
    last_said q x b fine = λ es h.
        let before : List ℕ = lines_text (findings rows gs es) c.fault in
        (all_said {U = Tally} {F = Stop} (before ++ last_text tally) _ t0 t2 (Ok tally) (one_said before (last_text tally) t0 t1 t2 q x (lines_said es h) fine b) (last_is es h), tally_is es h)

-- over the goals of the file, and the lines of the bytes
pub checks_of : (text : List Finding → Option ℕ → List ℕ) (rows : List Row) (gs hs : List Goal) (c d : Coming) (t0 t1 : Option Told) (s : Result Tally Stop) → gs ≡ hs → c ≡ d → Checks text rows gs c t0 t1 s → Checks text rows hs d t0 t1 s
checks_of text rows gs hs c d t0 t1 s e f a = subst (λ (x : List Goal). Checks text rows x d t0 t1 s) e (subst (λ (x : Coming). Checks text rows gs x t0 t1 s) f a)
