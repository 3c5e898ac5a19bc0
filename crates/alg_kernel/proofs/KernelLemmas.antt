-- A kernel after one more line, and after all.
use Rattle.std.proofs.Common.{◌≡◌, ℕ, suc, ◌+◌, ◌<◌, List, [], ◌∷◌, ◌++◌, get_or, length, drop, drop-cons, refl, ap, sym, ◌∙◌, subst, All, add-one, Option, Some, None, Result, Ok, Err, OnOk}
use Rattle.std.specs.Prelude.{option_map}
use Rattle.std.proofs.lemmas.List.{map-append}
use Rattle.std.proofs.lemmas.List.Elements.{All-push}
use Rattle.alg_terms.specs.Tree.{Tree, Statement}
use Rattle.alg_expr.specs.declared.ids.Stmt.{Stmt}
use Rattle.alg_expr.specs.Ids.{statement_of, statements_of, IsStatementIn}
use Rattle.alg_expr.specs.Arena.{Extends}
use Rattle.alg_expr.proofs.ArenaLaws.{statements_of-extends}
use Rattle.alg_law.specs.declared.marks.Mark.{Mark}
use Rattle.alg_law.specs.declared.marks.Mark.TheVariants.{Good}
use Rattle.alg_law.specs.Marks.{HasMarks}
use Rattle.alg_law.specs.Derivations.{Derivable}
use Rattle.alg_law.specs.WellSorted.{IsStatement}
use Rattle.alg_proof.specs.declared.lines.Line.{Line}
use Rattle.alg_proof.specs.Lines.{step_of, steps_of, IsLineIn}
use Rattle.alg_proof.specs.Steps.{Theory, Step, step_mark, conclude, conclude_named}
use Rattle.alg_proof.specs.Valid.{Accepted, verdict}
use Rattle.alg_proof.specs.Admissible.{AllFine, IsFine, IsTheory, Follows}
use Rattle.alg_proof.proofs.Admissible.{AllFine-push, conclude-fine, verdict_from-fine, valid-derivable}
use Rattle.alg_kernel.specs.declared.answers.Fault.{Fault}
use Rattle.alg_kernel.specs.declared.answers.Fault.TheVariants as fault
use Rattle.alg_kernel.specs.declared.answers.Checked.{Checked}
use Rattle.alg_kernel.specs.declared.answers.Refusal.{Refusal}
use Rattle.alg_kernel.specs.declared.answers.Refusal.TheVariants as refusal
use Rattle.alg_kernel.specs.declared.grounds.Grounds.{Grounds}
use Rattle.alg_kernel.specs.declared.kernel.BadLine.{BadLine}
use Rattle.alg_kernel.specs.declared.kernel.Kernel.{Kernel}
use Rattle.alg_kernel.specs.Answers.{IsFed, IsPassed, GivesVerdict}
use Rattle.alg_kernel.specs.Progress.{Progress, Going, Stopped, next, advance, outcome}
use Rattle.alg_kernel.specs.State.{theory_of, IsGivenIn, reached, progress_of, IsSound, IsFresh, Answers, AnswersAll}
use Rattle.alg_kernel.proofs.Growing.{step_of-extends, theory_of-extends, IsSound-extends}
use Rattle.alg_kernel.proofs.Verdicts.{advance-stopped, verdict-advance}
use Rattle.alg_kernel.proofs.CongLemmas.{passed}

-- one more statement
statements_of-push : (t1 t2 : List Tree) (done : List Stmt) (s : Stmt) → Extends t1 t2 → All (IsStatementIn t1) done → statements_of t2 (done ++ s ∷ []) ≡ statements_of t1 done ++ statement_of t2 s ∷ []
statements_of-push t1 t2 done s x h = map-append (statement_of t2) done (s ∷ []) ∙ ap (λ ss. ss ++ statement_of t2 s ∷ []) (statements_of-extends t1 t2 done x h)

-- the same conclusions, with more marks, over more trees
pub sound-after : (t1 t2 : List Tree) (k k' : Kernel) → Extends t1 t2 → k'.grounds ≡ k.grounds → HasMarks k.grounds.base.now t1 k'.marks.items → k'.done.items ≡ k.done.items → IsSound t1 k → IsSound t2 k'
sound-after t1 t2 k k' x g m e h =
    let mid : Kernel = record { grounds = k.grounds; marks = k'.marks; done = k.done; bad = k'.bad } in
    let start : IsSound t1 mid = record { marked = m; given = h.given; done_in = h.done_in; theory = h.theory; fine = h.fine } in
    let later : IsSound t2 mid = IsSound-extends t1 t2 x mid start in
    record { marked = rw g later.marked; given = rw g later.given; done_in = rw e later.done_in; theory = rw g later.theory; fine = rw (g, e) later.fine }

-- one more conclusion
pub sound-push : (t1 t2 : List Tree) (k k' : Kernel) (s : Stmt) → Extends t1 t2 → k'.grounds ≡ k.grounds → HasMarks k.grounds.base.now t1 k'.marks.items → k'.done.items ≡ k.done.items ++ s ∷ [] → IsSound t1 k → IsStatementIn t2 s
    → IsFine k.grounds.base.now (option_map (statement_of t1) k.grounds.given) (statement_of t2 s) → IsSound t2 k'
sound-push t1 t2 k k' s x g m e h here fine =
    let mid : Kernel = record { grounds = k.grounds; marks = k'.marks; done = k.done; bad = k'.bad } in
    let start : IsSound t1 mid = record { marked = m; given = h.given; done_in = h.done_in; theory = h.theory; fine = h.fine } in
    let later : IsSound t2 mid = IsSound-extends t1 t2 x mid start in
    let same : option_map (statement_of t2) k.grounds.given ≡ option_map (statement_of t1) k.grounds.given = ap (λ (th : Theory). th.given) (theory_of-extends t1 t2 x k.grounds h.given) in
    let here_fine : IsFine k.grounds.base.now (option_map (statement_of t2) k.grounds.given) (statement_of t2 s) = subst (λ (o : Option Statement). IsFine k.grounds.base.now o (statement_of t2 s)) (sym same) fine in
    let all : AllFine k.grounds.base.now (option_map (statement_of t2) k.grounds.given) (statements_of t2 k.done.items ++ statement_of t2 s ∷ []) = AllFine-push k.grounds.base.now (option_map (statement_of t2) k.grounds.given) (statements_of t2 k.done.items) (statement_of t2 s) later.fine here_fine in
    record {
      marked = rw g later.marked;
      given = rw g later.given;
      done_in = rw e (All-push (IsStatementIn t2) k.done.items s later.done_in here);
      theory = rw g later.theory;
      fine = rw (g, e, map-append (statement_of t2) k.done.items (s ∷ [])) all;
    }

-- a good line's conclusion is fine
pub line-fine : (t1 t2 : List Tree) (k : Kernel) (s : Stmt) (l : Step) (m : Mark) (r : Result (Unit {0}) Fault) (u : Unit {0}) → IsSound t1 k → m ≡ step_mark k.grounds.base.now l → IsPassed r m → r ≡ Ok u → conclude_named (theory_of t1 k.grounds) (statements_of t1 k.done.items) l ≡ Ok (statement_of t2 s)
    → IsFine k.grounds.base.now (option_map (statement_of t1) k.grounds.given) (statement_of t2 s)
line-fine t1 t2 k s l m r u h f p g c =
    let good : step_mark k.grounds.base.now l ≡ Good = sym f ∙ passed r m u p g in
    let concludes : conclude (theory_of t1 k.grounds) (statements_of t1 k.done.items) l ≡ Ok (statement_of t2 s) = rw (good, c) refl in
    conclude-fine (theory_of t1 k.grounds) h.theory (statements_of t1 k.done.items) l (statement_of t2 s) h.fine concludes

module _ (t1 t2 : List Tree) (k k' : Kernel) (l : Step) (x : Extends t1 t2) (h : IsSound t1 k) (th : Theory) (open' : k.bad ≡ None) (kept : k'.bad ≡ k.bad) where
  going : progress_of t1 k ≡ Going (statements_of t1 k.done.items)
  going = rw open' refl

  pub feed-good : (r : Result (Unit {0}) Fault) → r ≡ Ok tt → IsFed t2 k.done.items k'.done.items r (conclude th (statements_of t1 k.done.items) l) → (progress_of t2 k' ≡ next th (progress_of t1 k) l) × ((done : List Statement) × (progress_of t2 k' ≡ Going done))
  feed-good (Err e) q f = cc
  feed-good (Ok u) q f =
      let after : progress_of t2 k' ≡ Going (statements_of t1 k.done.items ++ statement_of t2 f.0 ∷ []) = rw (kept, open', f.1, statements_of-push t1 t2 k.done.items f.0 x h.done_in) refl in
      let step : next th (progress_of t1 k) l ≡ Going (statements_of t1 k.done.items ++ statement_of t2 f.0 ∷ []) = rw (going, f.3) refl in
      (after ∙ sym step, (_, after))

  pub feed-memory : (r : Result (Unit {0}) Fault) → r ≡ Err fault.Memory → IsFed t2 k.done.items k'.done.items r (conclude th (statements_of t1 k.done.items) l) → progress_of t2 k' ≡ progress_of t1 k
  feed-memory (Ok u) q f = cc
  feed-memory (Err (fault.Bad c)) q f = cc
  feed-memory (Err fault.Memory) q f = rw (kept, f, open', statements_of-extends t1 t2 k.done.items x h.done_in) refl

-- what the kernel says of the goal
pub finish-derivable : (ts : List Tree) (k : Kernel) (goal : Statement) (r : Result Checked Refusal) → IsSound ts k → GivesVerdict r (outcome (progress_of ts k) goal) → OnOk r (Follows (theory_of ts k.grounds) goal)
finish-derivable ts k goal (Err (refusal.Bad n c)) h v = tt
finish-derivable ts k goal (Err refusal.WrongEnd) h v = tt
finish-derivable ts k goal (Err refusal.Memory) h v = tt
finish-derivable ts k goal (Ok c) h v = by-bad k.bad v
  where
    by-bad : (b : Option BadLine) → outcome (reached (statements_of ts k.done.items) b) goal ≡ Accepted → Follows (theory_of ts k.grounds) goal
    by-bad None e = (verdict_from-fine (theory_of ts k.grounds) h.theory (statements_of ts k.done.items) [] goal h.fine e).derivable
    by-bad (Some b) e = cc

module _ (t0 t1 : List Tree) (k0 k1 : Kernel) (h : IsSound t0 k0) (x : Extends t0 t1) (g : k1.grounds ≡ k0.grounds) where
  theory-kept : theory_of t1 k1.grounds ≡ theory_of t0 k0.grounds
  theory-kept = ap (theory_of t1) g ∙ theory_of-extends t0 t1 x k0.grounds h.given

  module _ (t2 : List Tree) (k2 : Kernel) (lines : List Line) (i : ℕ) (d : Line) (in' : All (IsLineIn t0) lines) (l : i < length lines) (p0 : Progress) (so : advance (theory_of t0 k0.grounds) (progress_of t1 k1) (steps_of t0 (drop i lines)) ≡ p0) where
    one-step : (p : Progress) → p ≡ next (theory_of t1 k1.grounds) (progress_of t1 k1) (step_of t1 (get_or lines i d)) → advance (theory_of t0 k0.grounds) p (steps_of t0 (drop (i + 1) lines)) ≡ p0
    one-step p e =
        let line : step_of t1 (get_or lines i d) ≡ step_of t0 (get_or lines i d) = step_of-extends t0 t1 x (get_or lines i d) (in' i d l) in
        let f : p ≡ next (theory_of t0 k0.grounds) (progress_of t1 k1) (step_of t0 (get_or lines i d)) = e ∙ (λ j. next (theory-kept j) (progress_of t1 k1) (line j)) in
        let first : advance (theory_of t0 k0.grounds) (progress_of t1 k1) (steps_of t0 (drop i lines)) ≡ advance (theory_of t0 k0.grounds) (next (theory_of t0 k0.grounds) (progress_of t1 k1) (step_of t0 (get_or lines i d))) (steps_of t0 (drop (suc i) lines)) = rw (drop-cons lines i d l) refl in
        rw (f, add-one) (sym first ∙ so)

    pub feed_all-good : (r : Result (Unit {0}) Refusal) (u : Unit {0}) → r ≡ Ok u → Answers (theory_of t1 k1.grounds) (progress_of t1 k1) (step_of t1 (get_or lines i d)) (progress_of t2 k2) r → advance (theory_of t0 k0.grounds) (progress_of t2 k2) (steps_of t0 (drop (i + 1) lines)) ≡ p0
    feed_all-good (Err q) u e a = cc
    feed_all-good (Ok v) u e a = one-step (progress_of t2 k2) a.0

    pub feed_all-bad : (p0' : Progress) (ls : List Step) → p0 ≡ advance (theory_of t0 k0.grounds) p0' ls → (r res : Result (Unit {0}) Refusal) (q : Refusal) → r ≡ Err q → res ≡ Err q → Answers (theory_of t1 k1.grounds) (progress_of t1 k1) (step_of t1 (get_or lines i d)) (progress_of t2 k2) r → AnswersAll (theory_of t0 k0.grounds) p0' ls (progress_of t2 k2) res
    feed_all-bad p0' ls same (Ok v) res q e f a = cc
    feed_all-bad p0' ls same (Err refusal.Memory) res q e f a =
        let is : res ≡ Err refusal.Memory = cc in
        rw is tt
    feed_all-bad p0' ls same (Err refusal.WrongEnd) res q e f a = absurd a
    feed_all-bad p0' ls same (Err (refusal.Bad n c)) res q e f a =
        let is : res ≡ Err (refusal.Bad n c) = cc in
        let stop : advance (theory_of t0 k0.grounds) (progress_of t2 k2) (steps_of t0 (drop (i + 1) lines)) ≡ p0 = one-step (progress_of t2 k2) a.0 in
        let stay : advance (theory_of t0 k0.grounds) (progress_of t2 k2) (steps_of t0 (drop (i + 1) lines)) ≡ Stopped n c = ap (λ (p : Progress). advance (theory_of t0 k0.grounds) p (steps_of t0 (drop (i + 1) lines))) a.1 ∙ advance-stopped (theory_of t0 k0.grounds) n c (steps_of t0 (drop (i + 1) lines)) in
        rw is (sym same ∙ sym stop ∙ stay, a.1)

-- a fresh kernel after all lines
module _ (g : Grounds) (t0 t1 : List Tree) (k k1 : Kernel) (fresh : IsFresh g k) (steps : List Step) (goal : Statement) where
  start : advance (theory_of t0 k.grounds) (progress_of t0 k) steps ≡ advance (theory_of t0 g) (Going []) steps
  start = λ i. advance (theory_of t0 (fresh.grounds i)) (fresh.nothing t0 i) steps

  whole : verdict (theory_of t0 g) steps goal ≡ outcome (advance (theory_of t0 k.grounds) (progress_of t0 k) steps) goal
  whole = verdict-advance (theory_of t0 g) steps goal ∙ ap (λ (p : Progress). outcome p goal) (sym start)

  pub accept-bad : (r : Result (Unit {0}) Refusal) (q : Refusal) (res : Result Checked Refusal) → r ≡ Err q → res ≡ Err q → AnswersAll (theory_of t0 k.grounds) (progress_of t0 k) steps (progress_of t1 k1) r → GivesVerdict res (verdict (theory_of t0 g) steps goal)
  accept-bad (Ok u) q res e f a = cc
  accept-bad (Err refusal.Memory) q res e f a = let is : res ≡ Err refusal.Memory = cc in rw is tt
  accept-bad (Err refusal.WrongEnd) q res e f a = absurd a
  accept-bad (Err (refusal.Bad n c)) q res e f a =
      let is : res ≡ Err (refusal.Bad n c) = cc in
      rw is (whole ∙ ap (λ (p : Progress). outcome p goal) a.0)

  pub accept-all : (r : Result (Unit {0}) Refusal) (u : Unit {0}) (res : Result Checked Refusal) → r ≡ Ok u → AnswersAll (theory_of t0 k.grounds) (progress_of t0 k) steps (progress_of t1 k1) r → GivesVerdict res (outcome (progress_of t1 k1) goal) → GivesVerdict res (verdict (theory_of t0 g) steps goal)
  accept-all (Err q) u res e a v = cc
  accept-all (Ok w) u res e a v = subst (GivesVerdict res) (ap (λ (p : Progress). outcome p goal) a ∙ sym whole) v

  pub accept-derivable : (res : Result Checked Refusal) → IsGivenIn g.base.now t0 g.given → GivesVerdict res (verdict (theory_of t0 g) steps goal) → OnOk res (Derivable g.base.now (option_map (statement_of t0) g.given) goal)
  accept-derivable (Err (refusal.Bad n c)) h v = tt
  accept-derivable (Err refusal.WrongEnd) h v = tt
  accept-derivable (Err refusal.Memory) h v = tt
  accept-derivable (Ok c) h v =
      let sound : IsSound t0 k = fresh.sound t0 h in
      let theory : IsTheory (theory_of t0 g) = subst (λ (x : Grounds). IsTheory (theory_of t0 x)) fresh.grounds sound.theory in
      valid-derivable (theory_of t0 g) theory steps goal v

-- what a line concludes after a good first look is well sorted
pub named-statement : (ts : List Tree) (g : Grounds) (done : List Statement) (l : Step) (s : Statement) → IsTheory (theory_of ts g) → AllFine g.base.now (option_map (statement_of ts) g.given) done → step_mark g.base.now l ≡ Good → conclude_named (theory_of ts g) done l ≡ Ok s → IsStatement g.base.now s
named-statement ts g done l s theory fine good e =
    let concludes : conclude (theory_of ts g) done l ≡ Ok s = rw (good, e) refl in
    (conclude-fine (theory_of ts g) theory done l s fine concludes).statement
