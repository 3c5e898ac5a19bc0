-- What goals are told to do fits their bases.
use Rattle.std.proofs.Common.{◌≡◌, ℕ, ◌≤◌, List, [], ◌∷◌, ◌++◌, length, All, Bool, true, false, Option, Some, None, Result, Ok, Err, refl, sym, ap, ◌∙◌, subst, arith, length-append, append-nil, append_assoc}
use Rattle.std.proofs.lemmas.List.{take_all, take-append-le}
use Rattle.std.proofs.lemmas.List.Elements.{All-nil, All-cons, All-append}
use Rattle.alg_terms.specs.declared.sorts.Sort.{Sort}
use Rattle.alg_terms.specs.declared.relations.Rel.{Rel}
use Rattle.alg_terms.specs.Tree as terms
use Rattle.alg_lex.specs.Items.{Item}
use Rattle.alg_law.specs.Declarations.{Declaration}
use Rattle.alg_law.specs.Following.{IsKnown, AllMayFollow, IsWellFormed}
use Rattle.alg_syntax.specs.declared.scripts.Step.{Step}
use Rattle.alg_syntax.specs.declared.scripts.Step.TheVariants.{Combination, Procedure}
use Rattle.alg_syntax.specs.declared.scripts.Further.{Further}
use Rattle.alg_syntax.specs.declared.scripts.Script.{Script}
use Rattle.alg_syntax.specs.declared.commands.Goal.{Goal}
use Rattle.alg_syntax.specs.declared.commands.Command.{Command}
use Rattle.alg_syntax.specs.declared.commands.Command.TheVariants.{Import, Variable, Theorem, Example}
use Rattle.alg_names.specs.declared.scope.Scope.{Scope}
use Rattle.alg_names.specs.Entering.{entered}
use Rattle.alg_elaborate.specs.declared.causes.Cause.{Cause}
use Rattle.alg_elaborate.specs.declared.causes.Cause.TheVariants.{NameTaken}
use Rattle.alg_elaborate.specs.Raw.{meant}
use Rattle.alg_elaborate.specs.Faults.{first, when}
use Rattle.alg_elaborate.specs.Statements.{statement_sort, statement_faults, typed_statement, ordered, exchanges, relation_of}
use Rattle.alg_commands.specs.declared.readings.Unreadable.{Unreadable}
use Rattle.alg_binders.specs.declared.procedures.Procedure.{Procedure as NamedProcedure}
use Rattle.alg_binders.specs.Binders.{is_among, binders_faults, declared_by_all}
use Rattle.alg_binders.specs.Procedures.{procedure_named}
use Rattle.alg_binders.specs.CommandFaults.{step_faults, further_faults, script_faults, proof_faults, goal_faults, command_faults, declared_after}
use Rattle.alg_well_sorted.specs.Agreeing.{Agrees}
use Rattle.alg_well_sorted.proofs.Parts.{append_parts}
use Rattle.alg_well_sorted.proofs.EnteringLaws.{entered-follows, all_follow-joined}
use Rattle.alg_well_sorted.proofs.StatementsGood.{statement_sort-known}
use Rattle.alg_parse.specs.Told.{Told, declares, goal, faulty, plain, calls_named, calls_at, further_calls, calls_of, unnamed}
use Rattle.alg_parse.specs.Files.{Known, in_force, goal_told, command_told, told_where, told_of, known_where, known_after, fault_in, Tell, none, more}
use Rattle.alg_parse.specs.Fitting.{CallFits, ToldFits}
use Rattle.alg_parse.proofs.CombinationsGood.{combined-good}
use Rattle.alg_parse.proofs.ProgressLaws.{known-follows, binders_fit}

named-fit : (ds : List Declaration) (k : Sort) (o : Option NamedProcedure) → All (CallFits ds k) (calls_named o)
named-fit ds k None = All-nil (CallFits ds k)
named-fit ds k (Some p) = All-cons (CallFits ds k) (plain p) [] tt (All-nil (CallFits ds k))

module _ (s : Scope) (ds : List Declaration) (g : Agrees s ds) (k : Sort) (known : IsKnown ds k) where
  step-fits : (x : Step) → step_faults s k x ≡ [] → All (CallFits ds k) (calls_at s k x)
  step-fits (Combination f e) h = All-cons (CallFits ds k) _ [] (combined-good s ds g k (meant e) known h) (All-nil (CallFits ds k))
  step-fits (Procedure n) h = named-fit ds k (procedure_named n.text)

  further-fit : (xs : List Further) → further_faults s k xs ≡ [] → All (CallFits ds k) (further_calls s k xs)
  further-fit [] h = All-nil (CallFits ds k)
  further-fit (x ∷ xs) h =
      let p = append_parts (step_faults s k x.step) (further_faults s k xs) h in
      All-append (CallFits ds k) (calls_at s k x.step) (further_calls s k xs) (step-fits x.step p.0) (further-fit xs p.1)

  script-fits : (c : Script) → script_faults s k c ≡ [] → All (CallFits ds k) (calls_of s k c)
  script-fits c h =
      let p = append_parts (step_faults s k c.first) (further_faults s k c.further) h in
      All-append (CallFits ds k) (calls_at s k c.first) (further_calls s k c.further) (step-fits c.first p.0) (further-fit c.further p.1)

sort_ordered : (b : Bool) (r : Rel) (l : Sort) (x y : terms.Tree) → (ordered b r l x y).sort ≡ l
sort_ordered true r l x y = refl
sort_ordered false r l x y = refl

-- a goal without a fault
goal-fits : (k : Known) (label : List ℕ) (line : ℕ) (g : Goal) → IsWellFormed k.shared → goal_faults (in_force k) g ≡ [] → ToldFits k.shared (goal_told k label line g)
goal-fits k label line g h e =
    let bs = declared_by_all (in_force k) g.binders in
    let t = entered (in_force k) bs in
    let ds = k.shared ++ bs in
    let p = append_parts (binders_faults (in_force k) g.binders) (proof_faults t g) e in
    let l = statement_sort t g.statement in
    let q = append_parts (statement_faults t g.statement) (script_faults t l g.script) p.1 in
    let a = (entered-follows (in_force k) k.shared bs (known-follows k h) (binders_fit k g.binders h p.0)).agrees in
    let within : length k.shared ≤ length k.shared = omega arith in
    let fit : All (CallFits ds l) (calls_of t l g.script) = script-fits t ds a l (statement_sort-known t ds a g.statement) g.script q.1 in
    let same : (typed_statement t g.statement).sort ≡ l = sort_ordered (exchanges g.statement.relation) (relation_of g.statement.relation) l _ _ in (
      within,
      subst (λ xs. All (CallFits (xs ++ bs) (typed_statement t g.statement).sort) (calls_of t l g.script)) (sym (take_all (length k.shared) k.shared within))
          (subst (λ j. All (CallFits ds j) (calls_of t l g.script)) (sym same) fit),
    )

command-fits : (k : Known) (line : ℕ) (c : Command) → IsWellFormed k.shared → command_faults (in_force k) k.used c ≡ [] → ToldFits k.shared (command_told k line c)
command-fits k line (Import n) h e = tt
command-fits k line (Variable bs) h e = tt
command-fits k line (Theorem n g) h e = goal-fits k n.text line g h (append_parts (when (is_among k.used n.text) NameTaken) (goal_faults (in_force k) g) e).1
command-fits k line (Example g) h e = goal-fits k (unnamed line) line g h e

declared-fit : (k : Known) (c : Command) → IsWellFormed k.shared → command_faults (in_force k) k.used c ≡ [] → AllMayFollow k.shared (declared_after (in_force k) c)
declared-fit k (Import n) h e = tt
declared-fit k (Variable bs) h e = binders_fit k bs h e
declared-fit k (Theorem n g) h e = tt
declared-fit k (Example g) h e = tt

no_fault : (cs : List Cause) → None ≡ first cs → cs ≡ []
no_fault [] e = refl
no_fault (c ∷ cs) e = cc

-- more is declared
told-more : (sh es : List Declaration) (t : Told) → ToldFits sh t → ToldFits (sh ++ es) t
told-more sh es declares h = tt
told-more sh es (goal label line n ds p cs) h =
    ((let a = h.0 in let b = length-append sh es in omega (arith, a, b)), subst (λ xs. All (CallFits (xs ++ ds) p.sort) cs) (sym (take-append-le n sh es h.0)) h.1)
told-more sh es (faulty line c) h = tt

-- what a command does to what is known
record Steps (k : Known) (line : ℕ) (r : Result Command Unreadable) : Type 0 where
  pub more : List Declaration
  pub grows : (known_after k r).shared ≡ k.shared ++ more
  pub well_formed : IsWellFormed (known_after k r).shared
  pub fits : ToldFits (known_after k r).shared (told_of k line r)

steps-where : (k : Known) (line : ℕ) (c : Command) (o : Option Cause) → o ≡ fault_in k c → IsWellFormed k.shared
    → (es : List Declaration) × ((known_where o k c).shared ≡ k.shared ++ es) × IsWellFormed (known_where o k c).shared × ToldFits (known_where o k c).shared (told_where o k line c)
steps-where k line c (Some cause) e h = ([], sym (append-nil k.shared), h, tt)
steps-where k line c None e h =
    let es = declared_after (in_force k) c in
    let f = no_fault (command_faults (in_force k) k.used c) e in
    (es, refl, all_follow-joined [] k.shared es h (declared-fit k c h f), told-more k.shared es (command_told k line c) (command-fits k line c h f))

steps : (k : Known) (line : ℕ) (r : Result Command Unreadable) → IsWellFormed k.shared → Steps k line r
steps k line (Ok c) h = let w = steps-where k line c (fault_in k c) refl h in record { more = w.0; grows = w.1; well_formed = w.2; fits = w.3 }
steps k line (Err u) h = record { more = []; grows = sym (append-nil k.shared); well_formed = h; fits = tt }

-- what the rest of a file tells
record Ends (k end : Known) (told : List Told) : Type 0 where
  pub more : List Declaration
  pub grows : end.shared ≡ k.shared ++ more
  pub fit : All (ToldFits end.shared) told

ends : (k : Known) (commands : List (List Item)) (told : List Told) (end : Known) → Tell k commands told end → IsWellFormed k.shared → Ends k end told
ends _ _ _ _ (none k) h = record { more = []; grows = sym (append-nil k.shared); fit = All-nil (ToldFits k.shared) }
ends _ _ _ _ (more k items commands r told end g w) h =
    let a = steps k r.line r.command h in
    let b = ends (known_after k r.command) commands told end w a.well_formed in
    record {
      more = a.more ++ b.more;
      grows = b.grows ∙ ap (λ xs. xs ++ b.more) a.grows ∙ append_assoc k.shared a.more b.more;
      fit = All-cons (ToldFits end.shared) (told_of k r.line r.command) told
          (subst (λ sh. ToldFits sh (told_of k r.line r.command)) (sym b.grows) (told-more (known_after k r.command).shared b.more (told_of k r.line r.command) a.fits)) b.fit;
    }

pub told-fit : (k : Known) (commands : List (List Item)) (told : List Told) (end : Known) → Tell k commands told end → IsWellFormed k.shared → All (ToldFits end.shared) told
told-fit k commands told end w h = (ends k commands told end w h).fit
