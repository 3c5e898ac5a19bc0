-- A script, one procedure after another.
use Rattle.std.proofs.Common.{◌≡◌, ℕ, zero, suc, ◌+◌, ◌<◌, ◌≤◌, List, [], ◌∷◌, ◌++◌, length, get_or, drop, map, refl, ap, sym, ◌∙◌, subst, arith, add-one, append_assoc, append-nil, Some, None, Ok, Err}
use Rattle.std.specs.Prelude.{◌≢◌, Option, Result, IfOk, OnOk, true, false, is_some}
use Rattle.std.specs.Global.{Vec}
use Rattle.std.proofs.lemmas.List.{length-map}
use Rattle.alg_terms.specs.declared.sorts.Sort.{Sort}
use Rattle.alg_terms.specs.Tree.{Tree, Statement}
use Rattle.alg_expr.specs.declared.ids.Stmt.{Stmt}
use Rattle.alg_expr.specs.Ids.{statement_of, IsStatementIn}
use Rattle.alg_expr.specs.Arena.{Extends}
use Rattle.alg_expr.proofs.ArenaLaws.{Extends-then, IsIn-extends, statement_of-extends}
use Rattle.alg_law.specs.Declarations.{Declaration}
use Rattle.alg_law.specs.WellSorted.{IsStatement}
use Rattle.alg_proof.specs.Steps.{Theory}
use Rattle.alg_parse.specs.Told.{Call}
use Rattle.alg_parse.specs.Fitting.{CallFits}
use Rattle.alg_parse.specs.declared.procedures.Proc.{Proc}
use Rattle.alg_build.specs.declared.outcome.Outcome.{Outcome}
use Rattle.alg_build.specs.declared.outcome.Outcome.TheVariants as outcome
use Rattle.alg_build.specs.declared.outcome.Back.{Back}
use Rattle.alg_build.specs.declared.outcome.TacFault.TheVariants.{Memory}
use Rattle.alg_build.specs.Answer.{IsLeft, Leads}
use Rattle.alg_build.specs.Backs.{LeadAllBack}
use Rattle.alg_build.specs.Book.{Book, Grows, Rests, Concludes}
use Rattle.alg_steps.specs.declared.notes.Note.{Note}
use Rattle.alg_steps.specs.declared.answers.Made.{Made}
use Rattle.alg_steps.specs.declared.answers.StepFault.{StepFault}
use Rattle.alg_steps.specs.declared.answers.StepFault.TheVariants as fault
use Rattle.alg_steps.specs.Stepped.{Steps, Stepped, closes, leaves, fails}
use Rattle.alg_steps.specs.Giving.{stepped, GivesStep}
use Rattle.alg_steps.specs.Calling.{call_in}
use Rattle.alg_report.specs.declared.causes.FailCause.TheVariants.{NoGoals}
use Rattle.alg_report.specs.Judged.{Verdict, Closed, Open, Failed, Judged, ends, listed, noting, cause_of, after, judged_from, judged_of}
use Rattle.alg_report.specs.Certificate.{MayBeGiven}
use Rattle.alg_scripts.specs.declared.running.State.{State}
use Rattle.alg_scripts.specs.declared.running.Ending.TheVariants as ending
use Rattle.alg_scripts.specs.declared.running.Ran.{Ran}
use Rattle.alg_scripts.specs.Running.{Moves, left_by, current, IsClosedBy, Stands, KeptBy, IsKept, verdict_by, verdict_of, IsEndOf, Tells, LeavesNone, LeavesOpen, Stays}
use Rattle.alg_scripts.proofs.Leading.{lead_all-grows, lead_all-push, leads-sort, rests-leads_all, rests-concludes}

-- a goal in a book that has grown

still_in : (a b : Book) (g : Stmt) → Grows a b → IsStatementIn a.trees g → IsStatementIn b.trees g
still_in a b g w h = (IsIn-extends a.trees b.trees g.lhs w.trees h.0, IsIn-extends a.trees b.trees g.rhs w.trees h.1)

still : (a b : Book) (g : Stmt) → Grows a b → IsStatementIn a.trees g → statement_of b.trees g ≡ statement_of a.trees g
still a b g w h = statement_of-extends a.trees b.trees g w.trees h

-- the notes

noting_more : (ns ms : List Note) (j : Judged) → noting ns (noting ms j) ≡ noting (ns ++ ms) j
noting_more ns ms j = λ i. record { notes = sym (append_assoc ns ms j.notes) i; verdict = j.verdict }

-- a script of one procedure at least
pub some_judged : (f : Steps) (ds : List Declaration) (s : Statement) (cs : List Call) → 0 < length cs → judged_of f ds s cs ≡ judged_from f ds 1 (Some s) cs
unfolding judged_of
some_judged f ds s [] l = absurd (omega (arith, l))
some_judged f ds s (c ∷ cs) l = refl

-- what is left of a script from one step on
pub rest_calls : (ts : List Tree) (ps : List Proc) (i : ℕ) (p : Proc) → i < length ps → p ≡ get_or ps i p → drop i (map (call_in ts) ps) ≡ call_in ts p ∷ drop (i + 1) (map (call_in ts) ps)
rest_calls ts ps i p l e = rw add-one (go ts ps i p l e)
  where
    go : (ts : List Tree) (ps : List Proc) (i : ℕ) (p : Proc) → i < length ps → p ≡ get_or ps i p → drop i (map (call_in ts) ps) ≡ call_in ts p ∷ drop (suc i) (map (call_in ts) ps)
    go ts [] i p l e = absurd (omega (arith, l))
    go ts (q ∷ qs) zero p l e = ap (λ x. call_in ts x ∷ map (call_in ts) qs) (sym e)
    go ts (q ∷ qs) (suc i) p l e = go ts qs i p (omega (arith, l)) e

pub some_calls : (ts : List Tree) (ps : List Proc) → 0 < length ps → 0 < length (map (call_in ts) ps)
some_calls ts ps l = omega (arith, l, length-map ps (call_in ts))

pub no_calls : (ts : List Tree) (ps : List Proc) (i : ℕ) → length ps ≤ i → drop i (map (call_in ts) ps) ≡ []
no_calls ts [] zero l = refl
no_calls ts [] (suc i) l = refl
no_calls ts (p ∷ ps) zero l = absurd (omega (arith, l))
no_calls ts (p ∷ ps) (suc i) l = no_calls ts ps i (omega (arith, l))

module _ (f : Steps) (b0 : Book) (first : Statement) (calls : List Call) where
  -- after i procedures
  pub record IsRunning (b : Book) (i : ℕ) (state : State) (backs : List Back) (ns : List Note) : Type 0 where
    pub here : IsStatementIn b.trees state.goal
    pub sorted : IsStatement b.theory.declarations (statement_of b.trees state.goal)
    pub theory : b.theory ≡ b0.theory
    pub extends : Extends b0.trees b.trees
    pub sort : state.goal.sort ≡ first.sort
    pub stands : Stands b state backs first
    pub kept : 0 < i → IsKept b state
    pub script : judged_from f b0.theory.declarations 1 (Some first) calls ≡ noting ns (judged_from f b0.theory.declarations (i + 1) (current b state) (drop i calls))

  -- a step that is done: what comes next is judged behind one note more
  after_made : (b : Book) (i : ℕ) (goal : Stmt) (ns : List Note) (c : Call) (t : Stepped) (note : Option Note) (o : Option Statement)
      → judged_from f b0.theory.declarations 1 (Some first) calls ≡ noting ns (judged_from f b0.theory.declarations (i + 1) (Some (statement_of b.trees goal)) (drop i calls))
      → drop i calls ≡ c ∷ drop (i + 1) calls → f b0.theory.declarations c (statement_of b.trees goal) ≡ t
      → ((rest : Option Statement → Judged) → after (i + 1) t rest ≡ noting (listed note) (rest o))
      → judged_from f b0.theory.declarations 1 (Some first) calls ≡ noting (ns ++ listed note) (judged_from f b0.theory.declarations (i + 1 + 1) o (drop (i + 1) calls))
  after_made b i goal ns c t note o script e is made =
      script
      ∙ ap (noting ns)
      (ap (judged_from f b0.theory.declarations (i + 1) (Some (statement_of b.trees goal))) e
      ∙ ap (λ x. after (i + 1) x (λ o. judged_from f b0.theory.declarations (i + 1 + 1) o (drop (i + 1) calls))) is
      ∙ made (λ o. judged_from f b0.theory.declarations (i + 1 + 1) o (drop (i + 1) calls)))
      ∙ noting_more ns (listed note) (judged_from f b0.theory.declarations (i + 1 + 1) o (drop (i + 1) calls))

  module _ (b : Book) (i : ℕ) (state : State) (backs : List Back) (ns : List Note) (h : IsRunning b i state backs ns) where
    -- the goal as it stands isn't closed
    open_script : state.closed ≡ None → judged_from f b0.theory.declarations 1 (Some first) calls ≡ noting ns (judged_from f b0.theory.declarations (i + 1) (Some (statement_of b.trees state.goal)) (drop i calls))
    open_script e = h.script ∙ ap (λ o. noting ns (judged_from f b0.theory.declarations (i + 1) (left_by o (statement_of b.trees state.goal)) (drop i calls))) e

    over_first : (c : Call) → f b.theory.declarations c (statement_of b.trees state.goal) ≡ f b0.theory.declarations c (statement_of b.trees state.goal)
    over_first c = ap (λ (th : Theory). f th.declarations c (statement_of b.trees state.goal)) h.theory

    running_closed : (a : Book) (c : Call) (line : ℕ) (note : Option Note) → state.closed ≡ None → drop i calls ≡ c ∷ drop (i + 1) calls → Grows b a
        → f b.theory.declarations c (statement_of b.trees state.goal) ≡ closes note → Concludes a line (statement_of b.trees state.goal)
        → IsRunning a (i + 1) (record { goal = state.goal; closed = Some line }) backs (ns ++ listed note)
    running_closed a c line note e rest g gives closed =
        let same : statement_of a.trees state.goal ≡ statement_of b.trees state.goal = still b a state.goal g h.here in
        record {
          here = still_in b a state.goal g h.here;
          sorted = rw (g.theory, same) h.sorted;
          theory = g.theory ∙ h.theory;
          extends = Extends-then b0.trees b.trees a.trees h.extends g.trees;
          sort = h.sort;
          stands = record {
            leads = subst (λ (s : Statement). LeadAllBack a backs first s) (sym same) (lead_all-grows b a backs first (statement_of b.trees state.goal) g h.stands.leads);
            closed = subst (λ (s : Statement). Concludes a line s) (sym same) closed;
          };
          kept = λ _. tt;
          script = after_made b i state.goal ns c (closes note) note None (open_script e) rest (sym (over_first c) ∙ gives) (λ k. refl);
        }

    running_left : (a : Book) (c : Call) (next : Stmt) (x : Back) (note : Option Note) → state.closed ≡ None → drop i calls ≡ c ∷ drop (i + 1) calls → Grows b a
        → f b.theory.declarations c (statement_of b.trees state.goal) ≡ leaves (statement_of a.trees next) note → IsLeft a next x (statement_of b.trees state.goal)
        → IsRunning a (i + 1) (record { goal = next; closed = None }) (backs ++ x ∷ []) (ns ++ listed note)
    running_left a c next x note e rest g gives left = record {
      here = left.here;
      sorted = left.sorted;
      theory = g.theory ∙ h.theory;
      extends = Extends-then b0.trees b.trees a.trees h.extends g.trees;
      sort = leads-sort a x (statement_of b.trees state.goal) (statement_of a.trees next) left.leads ∙ h.sort;
      stands = record {
        leads = lead_all-push a backs x first (statement_of b.trees state.goal) (statement_of a.trees next) (lead_all-grows b a backs first (statement_of b.trees state.goal) g h.stands.leads) left.leads;
        closed = tt;
      };
      kept = λ _. record { sorted = left.sorted; small = left.small };
      script = after_made b i state.goal ns c (leaves (statement_of a.trees next) note) note (Some (statement_of a.trees next)) (open_script e) rest (sym (over_first c) ∙ gives) (λ k. refl);
    }

    by_outcome : (a : Book) (c : Call) (o : Outcome) (note : Option Note) (later : List Back) (s : State) → state.closed ≡ None → drop i calls ≡ c ∷ drop (i + 1) calls → Grows b a
        → f b.theory.declarations c (statement_of b.trees state.goal) ≡ stepped a o note → Leads a o (statement_of b.trees state.goal) → Moves state.goal o backs later s
        → IsRunning a (i + 1) s later (ns ++ listed note)
    by_outcome a c (outcome.Closed line) note later s e rest g gives leads moves =
        subst (λ (x : State). IsRunning a (i + 1) x later (ns ++ listed note)) (sym moves.0)
        (subst (λ (xs : List Back). IsRunning a (i + 1) (record { goal = state.goal; closed = Some line }) xs (ns ++ listed note)) (sym moves.1) (running_closed a c line note e rest g gives leads))
    by_outcome a c (outcome.Left next x) note later s e rest g gives leads moves =
        subst (λ (y : State). IsRunning a (i + 1) y later (ns ++ listed note)) (sym moves.0)
        (subst (λ (xs : List Back). IsRunning a (i + 1) (record { goal = next; closed = None }) xs (ns ++ listed note)) (sym moves.1) (running_left a c next x note e rest g gives leads))

    pub asked_fits : (c : Call) → CallFits b0.theory.declarations first.sort c → CallFits b.theory.declarations state.goal.sort c
    asked_fits c fits = subst (λ (k : Sort). CallFits b.theory.declarations k c) (sym h.sort) (subst (λ (th : Theory). CallFits th.declarations first.sort c) (sym h.theory) fits)

    pub running_next : (a : Book) (c : Call) (m : Made) (later : List Back) (s : State) (ms : List Note) → state.closed ≡ None → drop i calls ≡ c ∷ drop (i + 1) calls → Grows b a
        → GivesStep a (Ok m) (f b.theory.declarations c (statement_of b.trees state.goal)) → Leads a m.outcome (statement_of b.trees state.goal) → Moves state.goal m.outcome backs later s → ms ≡ ns ++ listed m.note
        → IsRunning a (i + 1) s later ms
    running_next a c m later s ms e rest g gives leads moves notes =
        subst (λ (xs : List Note). IsRunning a (i + 1) s later xs) (sym notes) (by_outcome a c m.outcome m.note later s e rest g gives leads moves)

    tells_end : (a : Book) (r : Ran) (v : Verdict) → 0 < length calls → judged_from f b0.theory.declarations 1 (Some first) calls ≡ noting ns (ends v) → r.notes.items ≡ ns → verdict_of a r.ending ≡ v
        → Tells a r (judged_of f b0.theory.declarations first calls)
    tells_end a r v some script notes verdict =
        let all : judged_of f b0.theory.declarations first calls ≡ noting ns (ends v) = some_judged f b0.theory.declarations first calls some ∙ script in
        record {
          notes = notes ∙ sym (ap (λ (j : Judged). j.notes) all ∙ append-nil ns);
          verdict = verdict ∙ sym (ap (λ (j : Judged). j.verdict) all);
        }

    -- the procedure has a fault
    pub running_fault : (a : Book) (c : Call) (x : StepFault) (r : Ran) → 0 < length calls → state.closed ≡ None → drop i calls ≡ c ∷ drop (i + 1) calls
        → GivesStep a (Err x) (f b.theory.declarations c (statement_of b.trees state.goal)) → x ≢ fault.Fails Memory → r.notes.items ≡ ns → verdict_of a r.ending ≡ Failed (i + 1) (cause_of x)
        → Tells a r (judged_of f b0.theory.declarations first calls)
    running_fault a c x r some e rest gives other notes verdict =
        let is : f b0.theory.declarations c (statement_of b.trees state.goal) ≡ fails x = sym (over_first c) ∙ gives other in
        tells_end a r (Failed (i + 1) (cause_of x)) some
        (open_script e
        ∙ ap (noting ns)
        (ap (judged_from f b0.theory.declarations (i + 1) (Some (statement_of b.trees state.goal))) rest
        ∙ ap (λ t. after (i + 1) t (λ o. judged_from f b0.theory.declarations (i + 1 + 1) o (drop (i + 1) calls))) is))
        notes verdict

    pub running_failed : {E : Type 0} (a : Book) (c : Call) (x : StepFault) (n : ℕ) (v : Vec Note) (r : Result Ran E) → 0 < length calls → state.closed ≡ None → drop i calls ≡ c ∷ drop (i + 1) calls
        → GivesStep a (Err x) (f b.theory.declarations c (statement_of b.trees state.goal)) → v.items ≡ ns → n ≡ i + 1 → IfOk r (λ _. x ≢ fault.Fails Memory)
        → IfOk r (λ y. y ≡ record { notes = v; ending = ending.Failed n (cause_of x) }) → IfOk r (λ y. Tells a y (judged_of f b0.theory.declarations first calls))
    running_failed a c x n v (Ok y) some e rest gives same number other is =
        running_fault a c x y some e rest gives other (ap (λ (z : Ran). z.notes.items) is ∙ same) (ap (λ (z : Ran). verdict_of a z.ending) is ∙ ap (λ k. Failed k (cause_of x)) number)
    running_failed a c x n v (Err m) some e rest gives same number other is = tt

    running_stays : (a : Book) → Grows b a → Stays b0 a
    running_stays a g = record {
      declarations = ap (λ (th : Theory). th.declarations) (g.theory ∙ h.theory);
      lemmas = ap (λ (th : Theory). th.lemmas) (g.theory ∙ h.theory);
      trees = Extends-then b0.trees b.trees a.trees h.extends g.trees;
    }

    pub failed_stays : {T E : Type 0} (a : Book) (r : Result T E) → Grows b a → OnOk r (Stays b0 a)
    failed_stays a (Ok y) g = running_stays a g
    failed_stays a (Err m) g = tt

    -- the goal was closed before
    pub running_no_goals : (a : Book) (c : Call) (line : ℕ) (r : Ran) → 0 < length calls → state.closed ≡ Some line → drop i calls ≡ c ∷ drop (i + 1) calls → r.notes.items ≡ ns → verdict_of a r.ending ≡ Failed (i + 1) NoGoals
        → Tells a r (judged_of f b0.theory.declarations first calls)
    running_no_goals a c line r some e rest notes verdict =
        tells_end a r (Failed (i + 1) NoGoals) some
        (h.script ∙ ap (λ o. noting ns (judged_from f b0.theory.declarations (i + 1) (left_by o (statement_of b.trees state.goal)) (drop i calls))) e
        ∙ ap (λ cs. noting ns (judged_from f b0.theory.declarations (i + 1) None cs)) rest)
        notes verdict

    -- all procedures were run
    pub running_end : (a : Book) (r : Ran) → 0 < length calls → drop i calls ≡ [] → r.notes.items ≡ ns → IsEndOf a r.ending (current b state) → Tells a r (judged_of f b0.theory.declarations first calls)
    running_end a r some rest notes verdict =
        tells_end a r (verdict_by (current b state)) some
        (h.script ∙ ap (λ cs. noting ns (judged_from f b0.theory.declarations (i + 1) (current b state) cs)) rest ∙ ap (noting ns) (go (current b state))) notes verdict
      where
        go : (o : Option Statement) → judged_from f b0.theory.declarations (i + 1) o [] ≡ ends (verdict_by o)
        go None = refl
        go (Some s) = refl

-- whether the goal is closed

pub closed_by : (o : Option ℕ) → is_some o ≡ true → (line : ℕ) × (o ≡ Some line)
closed_by None e = absurd (cc)
closed_by (Some line) e = (line, refl)

pub closed_by_none : (o : Option ℕ) → is_some o ≡ false → o ≡ None
closed_by_none None e = refl
closed_by_none (Some line) e = absurd (cc)

-- at the end of a script

-- the goal is closed
pub closed_stands : (b : Book) (state : State) (backs : List Back) (line : ℕ) (s : Statement) → state.closed ≡ Some line → Stands b state backs s → LeadAllBack b backs s (statement_of b.trees state.goal) × Concludes b line (statement_of b.trees state.goal)
closed_stands b state backs line s e h = (h.leads, subst (λ (o : Option ℕ). IsClosedBy b o (statement_of b.trees state.goal)) e h.closed)

pub closed_leads : (b : Book) (state : State) (backs : List Back) (line : ℕ) → state.closed ≡ Some line → (s : Statement) × Stands b state backs s
    → (first : Statement) × (goal : Statement) × LeadAllBack b backs first goal × Concludes b line goal
closed_leads b state backs line e w =
    let h = closed_stands b state backs line w.0 e w.1 in
    (w.0, statement_of b.trees state.goal, h.0, h.1)

pub closed_proves : (b c : Book) (state : State) (backs : List Back) (line m : ℕ) → state.closed ≡ Some line → b.theory.given ≡ None → Grows b c
    → ((first goal : Statement) → LeadAllBack b backs first goal → Concludes b line goal → Concludes c m first) → (s : Statement) → Stands b state backs s → LeavesNone c m s
closed_proves b c state backs line m e none g k s w =
    let h = closed_stands b state backs line s e w in
    record { concludes = k s (statement_of b.trees state.goal) h.0 h.1; given = ap (λ (th : Theory). th.given) g.theory ∙ none }

pub closed_stays : (b c : Book) → Grows b c → Stays b c
closed_stays b c g = record { declarations = ap (λ (th : Theory). th.declarations) g.theory; lemmas = ap (λ (th : Theory). th.lemmas) g.theory; trees = g.trees }

pub closed_end : (b c : Book) (state : State) (line m : ℕ) → state.closed ≡ Some line → IsEndOf c (ending.Closed m) (current b state)
closed_end b c state line m e = sym (ap (λ o. verdict_by (left_by o (statement_of b.trees state.goal))) e)

-- it is left
pub left_leads : (a b : Book) (n : ℕ) (state : State) (backs : List Back) → (s : Statement) × Stands a state backs s → Rests a b n (statement_of a.trees state.goal)
    → (first : Statement) × (goal : Statement) × LeadAllBack b backs first goal × Concludes b n goal
left_leads a b n state backs w r =
    (w.0, statement_of a.trees state.goal, rests-leads_all a b n (statement_of a.trees state.goal) backs w.0 (statement_of a.trees state.goal) r w.1.leads, rests-concludes a b n (statement_of a.trees state.goal) r)

pub left_extends : (a b c : Book) (n : ℕ) (s : Statement) → Rests a b n s → Grows b c → Extends a.trees c.trees
left_extends a b c n s r g = rw (← r.trees) g.trees

left_same : (a b c : Book) (n : ℕ) (goal : Stmt) (s : Statement) → IsStatementIn a.trees goal → Rests a b n s → Grows b c → statement_of c.trees goal ≡ statement_of a.trees goal
left_same a b c n goal s here r g = statement_of-extends a.trees c.trees goal (left_extends a b c n s r g) here

pub left_end : (a b c : Book) (n m : ℕ) (state : State) → state.closed ≡ None → IsStatementIn a.trees state.goal → Rests a b n (statement_of a.trees state.goal) → Grows b c
    → IsEndOf c (ending.Open m state.goal) (current a state)
left_end a b c n m state e here r g =
    ap Open (left_same a b c n state.goal (statement_of a.trees state.goal) here r g) ∙ sym (ap (λ o. verdict_by (left_by o (statement_of a.trees state.goal))) e)

pub left_proves : (a b c : Book) (n m : ℕ) (state : State) (backs : List Back) → state.closed ≡ None → IsStatementIn a.trees state.goal → Rests a b n (statement_of a.trees state.goal) → Grows b c
    → ((first goal : Statement) → LeadAllBack b backs first goal → Concludes b n goal → Concludes c m first) → (s : Statement) → Stands a state backs s → IsKept a state
    → LeavesOpen c m state.goal s
left_proves a b c n m state backs e here r g k s w kept =
    let t : Statement = statement_of a.trees state.goal in
    let same : statement_of c.trees state.goal ≡ t = left_same a b c n state.goal t here r g in
    let may : MayBeGiven a.theory.declarations t = subst (λ (o : Option ℕ). KeptBy a o t) e kept in
    let extends = left_extends a b c n t r g in
    let over = g.theory ∙ r.theory in
    record {
      concludes = k s t (rests-leads_all a b n t backs s t r w.leads) (rests-concludes a b n t r);
      here = (IsIn-extends a.trees c.trees state.goal.lhs extends here.0, IsIn-extends a.trees c.trees state.goal.rhs extends here.1);
      given = ap (λ (th : Theory). th.given) over ∙ ap Some (sym same);
      may = subst (λ (x : Statement). MayBeGiven c.theory.declarations x) (sym same) (subst (λ (ds : List Declaration). MayBeGiven ds t) (sym (ap (λ (th : Theory). th.declarations) over)) may);
    }

pub left_stays : (a b c : Book) (n : ℕ) (s : Statement) → Rests a b n s → Grows b c → Stays a c
left_stays a b c n s r g =
    let over = g.theory ∙ r.theory in
    record { declarations = ap (λ (th : Theory). th.declarations) over; lemmas = ap (λ (th : Theory). th.lemmas) over; trees = left_extends a b c n s r g }

-- what follows once a script has run

pub stays_then : (a b c : Book) → b.theory ≡ a.theory → Extends a.trees b.trees → Stays b c → Stays a c
stays_then a b c e x w = record {
  declarations = w.declarations ∙ ap (λ (th : Theory). th.declarations) e;
  lemmas = w.lemmas ∙ ap (λ (th : Theory). th.lemmas) e;
  trees = Extends-then a.trees b.trees c.trees x w.trees;
}
