-- How the reading of a file goes on.
use Rattle.std.proofs.Common.{◌≡◌, ℕ, ◌+◌, ◌<◌, ◌≤◌, ◌^◌, List, [], ◌∷◌, ◌++◌, length, take, All, Bool, true, false, Some, None, Ok, Err, Result, refl, sym, ap, ◌∙◌, subst, append-nil, arith}
use Rattle.std.proofs.lemmas.List.{take_all}
use Rattle.std.proofs.lemmas.List.Elements.{All-nil, All-push}
use Rattle.std.specs.Result.{OnOk}
use Rattle.alg_terms.specs.declared.sorts.Sort.{Sort}
use Rattle.alg_terms.specs.declared.relations.Rel.{Rel}
use Rattle.alg_terms.specs.Tree as terms
use Rattle.alg_terms.specs.Tree.{Tree}
use Rattle.alg_expr.specs.Ids.{statement_of, IsStatementIn}
use Rattle.alg_expr.specs.Arena.{Extends}
use Rattle.alg_expr.proofs.ArenaLaws.{IsIn-extends, statement_of-extends}
use Rattle.alg_law.specs.declared.declarations.Declared.{Declared}
use Rattle.alg_law.specs.Declarations.{Declaration, declarations_of, IsDeclaredIn}
use Rattle.alg_law.specs.Following.{AllMayFollow, IsWellFormed}
use Rattle.alg_law.specs.WellSorted.{IsStatement}
use Rattle.alg_syntax.specs.Written.{Written}
use Rattle.alg_syntax.specs.declared.binders.Binder.{Binder}
use Rattle.alg_syntax.specs.declared.commands.Goal.{Goal}
use Rattle.alg_syntax.specs.declared.commands.Command as written
use Rattle.alg_syntax.specs.declared.commands.Command.TheVariants.{Import, Variable, Theorem, Example}
use Rattle.alg_names.specs.declared.scope.Scope.{Scope}
use Rattle.alg_names.specs.Entering.{entered}
use Rattle.alg_names.proofs.EnteringLemmas.{entered-joined}
use Rattle.alg_elaborate.specs.declared.causes.Cause.{Cause}
use Rattle.alg_elaborate.specs.Faults.{first}
use Rattle.alg_elaborate.specs.Statements.{statement_sort, statement_faults, typed_statement, ordered, exchanges, relation_of}
use Rattle.alg_commands.specs.declared.readings.Unreadable.{Unreadable}
use Rattle.alg_binders.specs.declared.goals.Stated.{Stated}
use Rattle.alg_binders.specs.Binders.{binders_faults, declared_by_all}
use Rattle.alg_binders.specs.CommandFaults.{script_faults, proof_faults, command_faults, declared_after}
use Rattle.alg_binders.specs.Stated.{IsStated}
use Rattle.alg_well_sorted.specs.Agreeing.{Follows}
use Rattle.alg_well_sorted.proofs.Parts.{append_parts}
use Rattle.alg_well_sorted.proofs.EnteringLaws.{start-follows, entered-follows, all_follow-joined}
use Rattle.alg_well_sorted.proofs.BindersGood.{binders-follow}
use Rattle.alg_well_sorted.proofs.StatementsGood.{statement-good}
use Rattle.alg_parse.specs.declared.procedures.Proc.{Proc}
use Rattle.alg_parse.specs.declared.commands.Elaborated.TheVariants.{Declares, States}
use Rattle.alg_parse.specs.declared.file_trees.Command.{Command}
use Rattle.alg_parse.specs.declared.file_trees.Command.TheVariants as command
use Rattle.alg_parse.specs.Told.{Told, declares, goal, faulty, calls_of, unnamed}
use Rattle.alg_parse.specs.Elaborated.{IsElaborated}
use Rattle.alg_parse.specs.FileTrees.{AreCalls, IsTold, IsGoalIn, IsCommandIn}
use Rattle.alg_parse.specs.Files.{Known, nothing, at_first, in_force, cause_of, fault_in, goal_told, command_told, told_where, told_of, names_used, known_where, known_after}
use Rattle.alg_parse.specs.Progress.{IsAt}
use Rattle.alg_parse.proofs.Keeping.{declarations_kept, all_kept, commands_kept, all_told_kept, told_push, told_more, each_more}

-- A fact about what is in force, declared and used may be proved of what is known.
as_known : (k : Known) (P : Scope → List Declaration → List (List ℕ) → Type 0) (s : Scope) (sh : List Declaration) (us : List (List ℕ)) → s ≡ in_force k → sh ≡ k.shared → us ≡ k.used → P (in_force k) k.shared k.used → P s sh us
as_known k P s sh us a b d h = subst (λ z. P z sh us) (sym a) (subst (λ z. P (in_force k) z us) (sym b) (subst (λ z. P (in_force k) k.shared z) (sym d) h))

-- before the first command
pub at_start : (ts : List Tree) (s : Scope) → s ≡ at_first → IsAt nothing [] ts s [] [] []
at_start ts s e = record { scope = e; shared = refl; used = refl; well_formed = tt; commands = tt; each = All-nil (IsCommandIn ts []) }

-- the arena grows
pub grown : (k : Known) (told : List Told) (old new : List Tree) (s u : Scope) (sh : List Declaration) (us : List (List ℕ)) (cs : List Command) → IsAt k told old s sh us cs → Extends old new → u ≡ s → IsAt k told new u sh us cs
grown k told old new s u sh us cs h x e =
    record {
      scope = e ∙ h.scope;
      shared = h.shared;
      used = h.used;
      well_formed = h.well_formed;
      commands = all_told_kept old new sh cs told x h.each h.commands;
      each = commands_kept old new sh cs x h.each;
    }

-- the same is known
pub same_known : (k l : Known) (told : List Told) (ts : List Tree) (s : Scope) (sh : List Declaration) (us : List (List ℕ)) (cs : List Command) → l.shared ≡ k.shared → l.used ≡ k.used → IsAt k told ts s sh us cs → IsAt l told ts s sh us cs
same_known k l told ts s sh us cs e f h =
    record {
      scope = h.scope ∙ ap (λ ds. entered at_first ds) (sym e);
      shared = h.shared ∙ sym e;
      used = h.used ∙ sym f;
      well_formed = h.well_formed;
      commands = h.commands;
      each = h.each;
    }

-- a name is used
pub uses : (k : Known) (told : List Told) (ts : List Tree) (s : Scope) (sh : List Declaration) (us vs : List (List ℕ)) (cs : List Command) (n : List ℕ) → IsAt k told ts s sh us cs → vs ≡ us ++ n ∷ [] → IsAt (record { shared = k.shared; used = k.used ++ n ∷ [] }) told ts s sh vs cs
uses k told ts s sh us vs cs n h e =
    record {
      scope = h.scope;
      shared = h.shared;
      used = e ∙ ap (λ ns. ns ++ n ∷ []) h.used;
      well_formed = h.well_formed;
      commands = h.commands;
      each = h.each;
    }

-- a faulty command
pub fault_added : (k : Known) (told : List Told) (ts : List Tree) (s : Scope) (sh : List Declaration) (us : List (List ℕ)) (cs ds : List Command) (line : ℕ) (cause : Cause) → IsAt k told ts s sh us cs → ds ≡ cs ++ command.Fault line cause ∷ [] → IsAt k (told ++ faulty line cause ∷ []) ts s sh us ds
fault_added k told ts s sh us cs ds line cause h e =
    subst (λ xs. IsAt k (told ++ faulty line cause ∷ []) ts s sh us xs) (sym e)
    (record {
      scope = h.scope;
      shared = h.shared;
      used = h.used;
      well_formed = h.well_formed;
      commands = told_push ts cs told (command.Fault line cause) (faulty line cause) h.commands refl;
      each = All-push (IsCommandIn ts sh) cs (command.Fault line cause) h.each tt;
    })

-- what is in force says what is declared
pub known-follows : (k : Known) → IsWellFormed k.shared → Follows (in_force k) k.shared
known-follows k h = entered-follows at_first [] k.shared (start-follows at_first refl refl refl refl) h

-- what binders without a fault declare may follow it
pub binders_fit : (k : Known) (bs : List Binder) → IsWellFormed k.shared → binders_faults (in_force k) bs ≡ [] → AllMayFollow k.shared (declared_by_all (in_force k) bs)
binders_fit k bs h e = binders-follow (in_force k) k.shared (known-follows k h) bs e

-- what a command declares

declared_is : (s : Scope) (ts : List Tree) (c : written.Command) (ds : List Declared) → IsElaborated s ts c (Declares ds) → declarations_of ts ds ≡ declared_after s c
declared_is s ts (Import n) ds e = ap (declarations_of ts) e
declared_is s ts (Variable bs) ds e = e
declared_is s ts (Theorem n g) ds e = absurd e
declared_is s ts (Example g) ds e = absurd e

declared_fits : (k : Known) (ts : List Tree) (c : written.Command) (ds : List Declared) → IsWellFormed k.shared → IsElaborated (in_force k) ts c (Declares ds) → command_faults (in_force k) k.used c ≡ [] → AllMayFollow k.shared (declared_after (in_force k) c)
declared_fits k ts (Import n) ds h e f = tt
declared_fits k ts (Variable bs) ds h e f = binders_fit k bs h f
declared_fits k ts (Theorem n g) ds h e f = absurd e
declared_fits k ts (Example g) ds h e f = absurd e

no_name_used : (s : Scope) (ts : List Tree) (c : written.Command) (ds : List Declared) → IsElaborated s ts c (Declares ds) → names_used c ≡ []
no_name_used s ts (Import n) ds e = refl
no_name_used s ts (Variable bs) ds e = refl
no_name_used s ts (Theorem n g) ds e = absurd e
no_name_used s ts (Example g) ds e = absurd e

tells_declared : (k : Known) (line : ℕ) (s : Scope) (ts : List Tree) (c : written.Command) (ds : List Declared) → IsElaborated s ts c (Declares ds) → command_told k line c ≡ declares
tells_declared k line s ts (Import n) ds e = refl
tells_declared k line s ts (Variable bs) ds e = refl
tells_declared k line s ts (Theorem n g) ds e = absurd e
tells_declared k line s ts (Example g) ds e = absurd e

-- a fault, and none

pub fault_taken : (k : Known) (told : List Told) (line : ℕ) (c : written.Command) (cause : Cause) (ts : List Tree) (s : Scope) (sh : List Declaration) (us : List (List ℕ)) (cs : List Command) → fault_in k c ≡ Some cause → IsAt k (told ++ faulty line cause ∷ []) ts s sh us cs → IsAt (known_after k (Ok c)) (told ++ told_of k line (Ok c) ∷ []) ts s sh us cs
fault_taken k told line c cause ts s sh us cs e h = subst (λ o. IsAt (known_where o k c) (told ++ told_where o k line c ∷ []) ts s sh us cs) (sym e) h

pub good_taken : (k : Known) (told : List Told) (line : ℕ) (c : written.Command) (ts : List Tree) (s : Scope) (sh : List Declaration) (us : List (List ℕ)) (cs : List Command) → fault_in k c ≡ None → IsAt (known_where None k c) (told ++ command_told k line c ∷ []) ts s sh us cs → IsAt (known_after k (Ok c)) (told ++ told_of k line (Ok c) ∷ []) ts s sh us cs
good_taken k told line c ts s sh us cs e h = subst (λ o. IsAt (known_where o k c) (told ++ told_where o k line c ∷ []) ts s sh us cs) (sym e) h

-- the first fault is that in what is known
pub fault_known : (k : Known) (told : List Told) (c : written.Command) (ts : List Tree) (s : Scope) (sh : List Declaration) (us : List (List ℕ)) (cs : List Command) → IsAt k told ts s sh us cs → fault_in k c ≡ first (command_faults s us c)
fault_known k told c ts s sh us cs h = as_known k (λ z ds ns. fault_in k c ≡ first (command_faults z ns c)) s sh us h.scope h.shared h.used refl

-- declarations

abbrev Adds : (k : Known) (told : List Told) (line : ℕ) (c : written.Command) (ds : List Declared) (old new : List Tree) (u : Scope) (cs : List Command) → Scope → List Declaration → List (List ℕ) → Type 0
Adds k told line c ds old new u cs s sh us =
    IsAt k told old s sh us cs → IsElaborated s new c (Declares ds) → command_faults s us c ≡ [] → u ≡ entered s (declared_after s c)
    → IsAt (known_where None k c) (told ++ command_told k line c ∷ []) new u (sh ++ declarations_of new ds) us (cs ++ command.Declares ∷ [])

adds : (k : Known) (told : List Told) (line : ℕ) (c : written.Command) (ds : List Declared) (old new : List Tree) (u : Scope) (cs : List Command) → Extends old new → Adds k told line c ds old new u cs (in_force k) k.shared k.used
adds k told line c ds old new u cs x h e f g =
    let es = declarations_of new ds in
    let d : es ≡ declared_after (in_force k) c = declared_is (in_force k) new c ds e in
    record {
      scope = g ∙ sym (entered-joined at_first k.shared (declared_after (in_force k) c));
      shared = ap (λ xs. k.shared ++ xs) d;
      used = sym (append-nil k.used) ∙ ap (λ ns. k.used ++ ns) (sym (no_name_used (in_force k) new c ds e));
      well_formed = all_follow-joined [] k.shared es h.well_formed (subst (λ xs. AllMayFollow k.shared xs) (sym d) (declared_fits k new c ds h.well_formed e f));
      commands = told_more old new k.shared cs told command.Declares (command_told k line c) x h.each h.commands (tells_declared k line (in_force k) new c ds e);
      each = each_more old new k.shared es cs command.Declares x h.each tt;
    }

pub shared_added : (k : Known) (told : List Told) (line : ℕ) (c : written.Command) (ds : List Declared) (old new : List Tree) (s u : Scope) (sh tsh : List Declaration) (us : List (List ℕ)) (cs ncs : List Command)
    → IsAt k told old s sh us cs → Extends old new → IsElaborated s new c (Declares ds) → command_faults s us c ≡ [] → u ≡ entered s (declared_after s c)
    → tsh ≡ sh ++ declarations_of new ds → ncs ≡ cs ++ command.Declares ∷ []
    → IsAt (known_after k (Ok c)) (told ++ told_of k line (Ok c) ∷ []) new u tsh us ncs
shared_added k told line c ds old new s u sh tsh us cs ncs h x e f g a b =
    let w = as_known k (Adds k told line c ds old new u cs) s sh us h.scope h.shared h.used (adds k told line c ds old new u cs x) h e f g in
    good_taken k told line c new u tsh us ncs (fault_known k told c old s sh us cs h ∙ ap first f)
    (subst (λ xs. IsAt (known_where None k c) (told ++ command_told k line c ∷ []) new u xs us ncs) (sym a)
    (subst (λ xs. IsAt (known_where None k c) (told ++ command_told k line c ∷ []) new u (sh ++ declarations_of new ds) us xs) (sym b) w))

-- the shared declarations may follow
abbrev Fits : (k : Known) (c : written.Command) (ts : List Tree) (ds : List Declared) → Scope → List Declaration → List (List ℕ) → Type 0
Fits k c ts ds s sh us = IsWellFormed sh → IsElaborated s ts c (Declares ds) → command_faults s us c ≡ [] → AllMayFollow sh (declarations_of ts ds)

fits : (k : Known) (c : written.Command) (ts : List Tree) (ds : List Declared) → Fits k c ts ds (in_force k) k.shared k.used
fits k c ts ds h e f = subst (λ xs. AllMayFollow k.shared xs) (sym (declared_is (in_force k) ts c ds e)) (declared_fits k ts c ds h e f)

pub shared_fits : (k : Known) (told : List Told) (c : written.Command) (ds : List Declared) (old new : List Tree) (s : Scope) (sh : List Declaration) (us : List (List ℕ)) (cs : List Command) → IsAt k told old s sh us cs → IsElaborated s new c (Declares ds) → command_faults s us c ≡ [] → AllMayFollow sh (declarations_of new ds)
shared_fits k told c ds old new s sh us cs h e f = as_known k (Fits k c new ds) s sh us h.scope h.shared h.used (fits k c new ds) h.well_formed e f

-- goals

ordered_sort : (b : Bool) (r : Rel) (l : Sort) (x y : Tree) → (ordered b r l x y).sort ≡ l
ordered_sort true r l x y = refl
ordered_sort false r l x y = refl

-- a goal is stated over the sort of its statement
sort_stated : (s : Scope) (g : Goal) (ts : List Tree) (d : Stated) → IsStated s g ts d → d.stmt.sort ≡ statement_sort (entered s (declared_by_all s g.binders)) g.statement
sort_stated s g ts d h = ap (λ (p : terms.Statement). p.sort) h.stated ∙ ordered_sort (exchanges g.statement.relation) (relation_of g.statement.relation) _ _ _

-- a goal of which this is given
pub record IsGiven (s : Scope) (g : Goal) (old new : List Tree) (d : Stated) (ps : List Proc) (sh : List Declaration) : Type 0 where
  pub stated : IsStated s g old d
  pub local : All (IsDeclaredIn old) d.local
  pub here : IsStatementIn old d.stmt
  pub room : length sh + length d.local < 2 ^ 32
  pub calls : AreCalls new ps (calls_of (entered s (declared_by_all s g.binders)) d.stmt.sort g.script)

goal_in : (k : Known) (g : Goal) (old new : List Tree) (d : Stated) (ps : List Proc) → IsWellFormed k.shared → Extends old new → IsGiven (in_force k) g old new d ps k.shared → IsGoalIn new k.shared (length k.shared) d.local d.stmt
goal_in k g old new d ps h x w =
    let bs = declared_by_all (in_force k) g.binders in
    let t = entered (in_force k) bs in
    let p = append_parts (binders_faults (in_force k) g.binders) (proof_faults t g) w.stated.faultless in
    let q = append_parts (statement_faults t g.statement) (script_faults t (statement_sort t g.statement) g.script) p.1 in
    let e : declarations_of new d.local ≡ bs = declarations_kept old new d.local x w.local ∙ w.stated.local in
    let fit : AllMayFollow k.shared bs = binders_fit k g.binders h p.0 in
    let whole : take (length k.shared) k.shared ≡ k.shared = take_all (length k.shared) k.shared (let n : length k.shared ≤ length k.shared = omega arith in n) in
    record {
      within = (let n : length k.shared ≤ length k.shared = omega arith in n);
      room = w.room;
      here = all_kept old new d.local x w.local;
      fit = subst (λ ds. AllMayFollow ds (declarations_of new d.local)) (sym whole) (subst (λ ds. AllMayFollow k.shared ds) (sym e) fit);
      statement = (IsIn-extends old new d.stmt.lhs x w.here.0, IsIn-extends old new d.stmt.rhs x w.here.1);
      sorted = subst (λ ds. IsStatement (ds ++ declarations_of new d.local) (statement_of new d.stmt)) (sym whole)
          (subst (λ ds. IsStatement (k.shared ++ ds) (statement_of new d.stmt)) (sym e)
          (subst (λ q. IsStatement (k.shared ++ bs) q) (sym (statement_of-extends old new d.stmt x w.here ∙ w.stated.stated))
          (statement-good (entered (in_force k) bs) (k.shared ++ bs) (entered-follows (in_force k) k.shared bs (known-follows k h) fit).agrees g.statement q.0)));
    }

goal_tells : (k : Known) (label : List ℕ) (line : ℕ) (g : Goal) (old new : List Tree) (d : Stated) (ps : List Proc) → Extends old new → IsGiven (in_force k) g old new d ps k.shared → IsTold new (command.Goal label line (length k.shared) d.local d.stmt ps) (goal_told k label line g)
goal_tells k label line g old new d ps x w =
    let t = entered (in_force k) (declared_by_all (in_force k) g.binders) in
    let calls = calls_of t (statement_sort t g.statement) g.script in
    let e : declarations_of new d.local ≡ declared_by_all (in_force k) g.binders = declarations_kept old new d.local x w.local ∙ w.stated.local in
    let f : statement_of new d.stmt ≡ typed_statement t g.statement = statement_of-extends old new d.stmt x w.here ∙ w.stated.stated in (
      calls,
      subst (λ l. AreCalls new ps (calls_of t l g.script)) (sort_stated (in_force k) g old d w.stated) w.calls,
      λ i. goal label line (length k.shared) (sym e i) (sym f i) calls,
    )

abbrev AddsGoal : (k : Known) (told : List Told) (label : List ℕ) (line : ℕ) (g : Goal) (d : Stated) (ps : List Proc) (old new : List Tree) (cs : List Command) → Scope → List Declaration → List (List ℕ) → Type 0
AddsGoal k told label line g d ps old new cs s sh us =
    IsAt k told old s sh us cs → IsGiven s g old new d ps sh → IsAt k (told ++ goal_told k label line g ∷ []) new s sh us (cs ++ command.Goal label line (length sh) d.local d.stmt ps ∷ [])

adds_goal : (k : Known) (told : List Told) (label : List ℕ) (line : ℕ) (g : Goal) (d : Stated) (ps : List Proc) (old new : List Tree) (cs : List Command) → Extends old new → AddsGoal k told label line g d ps old new cs (in_force k) k.shared k.used
adds_goal k told label line g d ps old new cs x h w =
    let c = command.Goal label line (length k.shared) d.local d.stmt ps in
    record {
      scope = refl;
      shared = refl;
      used = refl;
      well_formed = h.well_formed;
      commands = told_more old new k.shared cs told c (goal_told k label line g) x h.each h.commands (goal_tells k label line g old new d ps x w);
      each = subst (λ sh. All (IsCommandIn new sh) (cs ++ c ∷ [])) (append-nil k.shared)
          (each_more old new k.shared [] cs c x h.each (subst (λ sh. IsCommandIn new sh c) (sym (append-nil k.shared)) (goal_in k g old new d ps h.well_formed x w)));
    }

pub goal_added : (k : Known) (told : List Told) (label : List ℕ) (line : ℕ) (g : Goal) (d : Stated) (ps : List Proc) (old new : List Tree) (s u : Scope) (sh : List Declaration) (us : List (List ℕ)) (cs ncs : List Command) (n : ℕ)
    → IsAt k told old s sh us cs → Extends old new → u ≡ s → n ≡ length sh → IsGiven s g old new d ps sh → ncs ≡ cs ++ command.Goal label line n d.local d.stmt ps ∷ []
    → IsAt k (told ++ goal_told k label line g ∷ []) new u sh us ncs
goal_added k told label line g d ps old new s u sh us cs ncs n h x a b w e =
    let v = as_known k (AddsGoal k told label line g d ps old new cs) s sh us h.scope h.shared h.used (adds_goal k told label line g d ps old new cs x) h w in
    subst (λ z. IsAt k (told ++ goal_told k label line g ∷ []) new z sh us ncs) (sym a)
    (subst (λ xs. IsAt k (told ++ goal_told k label line g ∷ []) new s sh us xs) (sym (e ∙ (λ i. cs ++ command.Goal label line (b i) d.local d.stmt ps ∷ []))) v)

-- the goal of an example, and of a theorem, whose name is used

pub example_taken : (k : Known) (told : List Told) (label : List ℕ) (line : ℕ) (g : Goal) (ts : List Tree) (s : Scope) (sh : List Declaration) (us : List (List ℕ)) (cs : List Command) → label ≡ unnamed line → IsAt k (told ++ goal_told k label line g ∷ []) ts s sh us cs → IsAt (known_where None k (Example g)) (told ++ command_told k line (Example g) ∷ []) ts s sh us cs
example_taken k told label line g ts s sh us cs e h =
    same_known k (known_where None k (Example g)) (told ++ command_told k line (Example g) ∷ []) ts s sh us cs (append-nil k.shared) (append-nil k.used)
    (subst (λ x. IsAt k (told ++ goal_told k x line g ∷ []) ts s sh us cs) e h)

pub theorem_taken : (k : Known) (told : List Told) (label : List ℕ) (line : ℕ) (n : Written) (g : Goal) (ts : List Tree) (s : Scope) (sh : List Declaration) (us : List (List ℕ)) (cs : List Command) → label ≡ n.text → IsAt (record { shared = k.shared; used = k.used ++ n.text ∷ [] }) (told ++ goal_told k label line g ∷ []) ts s sh us cs → IsAt (known_where None k (Theorem n g)) (told ++ command_told k line (Theorem n g) ∷ []) ts s sh us cs
theorem_taken k told label line n g ts s sh us cs e h =
    let l : Known = record { shared = k.shared; used = k.used ++ n.text ∷ [] } in
    same_known l (known_where None k (Theorem n g)) (told ++ command_told k line (Theorem n g) ∷ []) ts s sh us cs (append-nil k.shared) refl
    (subst (λ x. IsAt l (told ++ goal_told k x line g ∷ []) ts s sh us cs) e h)

-- what a command states leaves what is in force
pub states_back : (s u : Scope) (ts : List Tree) (c : written.Command) (d : Stated) → IsElaborated s ts c (States d) → u ≡ entered s (declared_after s c) → u ≡ s
states_back s u ts (Import n) d h e = absurd h
states_back s u ts (Variable bs) d h e = absurd h
states_back s u ts (Theorem n g) d h e = e
states_back s u ts (Example g) d h e = e

-- a command that wasn't read
pub unread_taken : (k : Known) (told : List Told) (line : ℕ) (r : Result written.Command Unreadable) (why : Unreadable) (cause : Cause) (ts : List Tree) (s : Scope) (sh : List Declaration) (us : List (List ℕ)) (cs : List Command) → r ≡ Err why → cause ≡ cause_of why → IsAt k (told ++ faulty line cause ∷ []) ts s sh us cs → IsAt (known_after k r) (told ++ told_of k line r ∷ []) ts s sh us cs
unread_taken k told line r why cause ts s sh us cs e f h =
    subst (λ x. IsAt (known_after k x) (told ++ told_of k line x ∷ []) ts s sh us cs) (sym e)
    (subst (λ x. IsAt k (told ++ faulty line x ∷ []) ts s sh us cs) f h)

-- the same, by other names
pub same_at : (k : Known) (told : List Told) (ts us : List Tree) (s t : Scope) (sh : List Declaration) (ns ms : List (List ℕ)) (cs : List Command) → us ≡ ts → t ≡ s → ms ≡ ns → IsAt k told ts s sh ns cs → IsAt k told us t sh ms cs
same_at k told ts us s t sh ns ms cs a b d h =
    subst (λ x. IsAt k told x t sh ms cs) (sym a) (subst (λ x. IsAt k told ts x sh ms cs) (sym b) (subst (λ x. IsAt k told ts s sh x cs) (sym d) h))

pub on_ok : {A E : Type 0} (r : Result A E) (P Q : Type 0) → (P → Q) → OnOk r P → OnOk r Q
on_ok (Ok a) P Q f h = f h
on_ok _ P Q f h = tt

pub on_both : {A E : Type 0} (r : Result A E) (P Q R : Type 0) → (P → Q → R) → OnOk r P → OnOk r Q → OnOk r R
on_both (Ok a) P Q R f h i = f h i
on_both _ P Q R f h i = tt
