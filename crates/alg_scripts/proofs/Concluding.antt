-- That a script which came to its end gives the goal's fate.
use Rattle.std.proofs.Common.{◌≡◌, ℕ, List, [], ◌∷◌, length, Option, Some, None, refl, ap, sym, subst, arith}
use Rattle.std.specs.Prelude.{All, IfSome, IfOk, Result}
use Rattle.alg_terms.specs.declared.sorts.Sort.{Sort}
use Rattle.alg_terms.specs.Tree.{Tree, Statement}
use Rattle.alg_expr.specs.declared.ids.Stmt.{Stmt}
use Rattle.alg_expr.specs.Ids.{statement_of, IsStatementIn}
use Rattle.alg_expr.proofs.ArenaLaws.{IsIn-extends, statement_of-extends}
use Rattle.alg_law.specs.Declarations.{Declaration}
use Rattle.alg_law.specs.WellSorted.{IsStatement}
use Rattle.alg_certificate_lines.specs.Arguments.{HaveArguments}
use Rattle.alg_parse.specs.Told.{Call}
use Rattle.alg_parse.specs.Fitting.{CallFits}
use Rattle.alg_parse.specs.declared.procedures.Proc.{Proc}
use Rattle.alg_build.specs.Book.{Book}
use Rattle.alg_show.specs.Text.{shown_text}
use Rattle.alg_show.specs.ReadingBack.{AllWritable}
use Rattle.alg_steps.specs.Stepped.{Steps}
use Rattle.alg_report.specs.Judged.{Verdict, Closed, Open, Judged, judged_of}
use Rattle.alg_report.specs.Certificate.{MayBeGiven, claims}
use Rattle.alg_report.specs.Seen.{calls_in}
use Rattle.alg_scripts.specs.declared.entries.Proof.{Proof}
use Rattle.alg_scripts.specs.declared.fates.End.{End}
use Rattle.alg_scripts.specs.declared.fates.End.TheVariants as end
use Rattle.alg_scripts.specs.declared.fates.Fate.{Fate}
use Rattle.alg_scripts.specs.declared.running.Ending.{Ending}
use Rattle.alg_scripts.specs.declared.running.Ran.{Ran}
use Rattle.alg_scripts.specs.Fates.{IsProofOf, IsEnd, IsFateOf, IsWithout}
use Rattle.alg_scripts.specs.Running.{Tells, ProvesEnd, verdict_of, Stays}
use Rattle.alg_scripts.specs.declared.proving.Posed.{Posed}
use Rattle.alg_scripts.specs.Posing.{IsPosed}
use Rattle.alg_scripts.proofs.Entered.{have_arguments}

pub none_given : (ds : List Declaration) (g : Option Statement) → g ≡ None → IfSome g (MayBeGiven ds)
none_given ds g e = rw e tt

pub some_given : (ds : List Declaration) (g : Option Statement) (s : Statement) → g ≡ Some s → MayBeGiven ds s → IfSome g (MayBeGiven ds)
some_given ds g s e h = rw e h

pub closed_is : (number : Option ℕ) (ds : List Declaration) (goal : Statement) (g : Option Statement) (proof : Proof) → g ≡ None → IsProofOf number (claims ds g goal) proof → IsEnd number ds goal (end.Closed proof) Closed
closed_is number ds goal g proof e h = (refl, subst (λ (o : Option Statement). IsProofOf number (claims ds o goal) proof) e h)

pub open_is : (number : Option ℕ) (ds : List Declaration) (goal s : Statement) (g : Option Statement) (proof : Proof) (text : List ℕ) → g ≡ Some s → IsProofOf number (claims ds g goal) proof → text ≡ shown_text ds s
    → (t : Statement) × (Open s ≡ Open t) × IsProofOf number (claims ds (Some t) goal) proof × (text ≡ shown_text ds t)
open_is number ds goal s g proof text e h shown = (s, refl, subst (λ (o : Option Statement). IsProofOf number (claims ds o goal) proof) e h, shown)

module _ (a b : Book) (w : Stays a b) (g : Stmt) (here : IsStatementIn a.trees g) where
  pub stays_in : IsStatementIn b.trees g
  stays_in = (IsIn-extends a.trees b.trees g.lhs w.trees here.0, IsIn-extends a.trees b.trees g.rhs w.trees here.1)

  pub stays_same : statement_of b.trees g ≡ statement_of a.trees g
  stays_same = statement_of-extends a.trees b.trees g w.trees here

  pub stays_proves : (e : Ending) → ProvesEnd b e (statement_of a.trees g) → ProvesEnd b e (statement_of b.trees g)
  stays_proves e h = subst (ProvesEnd b e) (sym stays_same) h

  pub stays_arguments : HaveArguments a.theory.declarations → HaveArguments b.theory.declarations
  stays_arguments h = subst HaveArguments (sym w.declarations) h

  stays_end : (number : Option ℕ) (e : End) (v u : Verdict) → v ≡ u → IsEnd number b.theory.declarations (statement_of b.trees g) e v → IsEnd number a.theory.declarations (statement_of a.trees g) e u
  stays_end number e v u same h =
      subst (λ (x : Verdict). IsEnd number a.theory.declarations (statement_of a.trees g) e x) same
      (subst (λ (s : Statement). IsEnd number a.theory.declarations s e v) stays_same (subst (λ (ds : List Declaration). IsEnd number ds (statement_of b.trees g) e v) w.declarations h))

  pub fate_is : (number : Option ℕ) (r : Ran) (e : End) (j : Judged) → Tells b r j → IsEnd number b.theory.declarations (statement_of b.trees g) e (verdict_of b r.ending)
      → IsFateOf number a.theory.declarations (statement_of a.trees g) j (record { notes = r.notes; end = e })
  fate_is number r e j t h = record { notes = t.notes; end = stays_end number e (verdict_of b r.ending) j.verdict t.verdict h }

-- the goal of the file, where it was copied
pub fate_over : {E : Type 0} (number : Option ℕ) (f : Steps) (calls : List Call) (ds es : List Declaration) (s t : Statement) (r : Result Fate E) → ds ≡ es → s ≡ t
    → IfOk r (IsFateOf number ds s (judged_of f ds s calls)) → IfOk r (IsFateOf number es t (judged_of f es t calls))
fate_over number f calls ds es s t r p q h =
    subst (λ (x : Statement). IfOk r (IsFateOf number es x (judged_of f es x calls))) q (subst (λ (xs : List Declaration). IfOk r (IsFateOf number xs s (judged_of f xs s calls))) p h)

-- a script without a procedure

pub no_calls_in : (ts : List Tree) (ps : List Proc) → length ps ≡ 0 → calls_in ts ps ≡ []
no_calls_in ts [] e = refl
no_calls_in ts (p ∷ ps) e = absurd (omega (arith, e))

pub without_is : (number : Option ℕ) (f : Steps) (ds : List Declaration) (s : Statement) (calls : List Call) (x : Fate) → calls ≡ [] → IsWithout x → IsFateOf number ds s (judged_of f ds s calls) x
unfolding judged_of
without_is number f ds s calls x e h = rw e (record { notes = h.0; end = rw h.1 refl })

-- a goal stays well sorted where it is copied
pub still_sorted : (ds es : List Declaration) (s t : Statement) → ds ≡ es → s ≡ t → IsStatement es t → IsStatement ds s
still_sorted ds es s t p q h = subst (λ (x : List Declaration). IsStatement x s) (sym p) (subst (λ (y : Statement). IsStatement es y) (sym q) h)

-- what was asked of the file's goal holds of the copy

pub posed_arguments : (ds : List Declaration) (s : Statement) (p : Posed) → IsPosed ds s p → AllWritable ds → HaveArguments p.cx.theory.declarations
posed_arguments ds s p h w = subst HaveArguments (sym h.declarations) (have_arguments ds w)

pub posed_fit : (ds : List Declaration) (s : Statement) (p : Posed) → IsPosed ds s p → (calls : List Call) → All (CallFits ds s.sort) calls → All (CallFits p.cx.theory.declarations p.goal.sort) calls
posed_fit ds s p h calls fit =
    subst (λ (k : Sort). All (CallFits p.cx.theory.declarations k) calls) (sym (ap (λ (t : Statement). t.sort) h.statement)) (subst (λ (es : List Declaration). All (CallFits es s.sort) calls) (sym h.declarations) fit)
