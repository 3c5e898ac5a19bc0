-- Steps that are followed one by one.
use Rattle.std.proofs.Common.{◌≡◌, ℕ, suc, ◌+◌, ◌-◌, ◌<◌, ◌≤◌, List, [], ◌∷◌, ◌++◌, length, map, All, refl, ap, sym, ◌∙◌, subst, arith, Ok, Err, Result, length-append, get_or, drop, drop-cons, add-one}
use Rattle.std.proofs.lemmas.List.{drop_all}
use Rattle.alg_check.specs.Written.{seen}
use Rattle.std.specs.Prelude.{OnOk}
use Rattle.std.specs.Borrow.{Bor}
use Rattle.std.proofs.lemmas.List.Elements.{All-head, All-tail}
use Rattle.alg_terms.specs.declared.causes.BadCause.{BadCause}
use Rattle.alg_terms.specs.Tree.{Tree, Statement}
use Rattle.alg_expr.specs.Arena.{Extends}
use Rattle.alg_proof.specs.Causes.{Concludes}
use Rattle.alg_proof.specs.Steps.{Theory, Step, conclude}
use Rattle.alg_proof.specs.Valid.{Verdict, BadAt, go_on}
use Rattle.alg_certificate.specs.Spelling.{HasSpelling, step_bytes}
use Rattle.alg_kernel.specs.Answers.{GivesVerdict}
use Rattle.alg_kernel.specs.Progress.{Progress, Going, Stopped, after_line, next, outcome}
use Rattle.alg_kernel.specs.State.{theory_of, progress_of, IsSound, Answers}
use Rattle.alg_kernel.proofs.Growing.{theory_of-extends, progress_of-extends}
use Rattle.alg_kernel.specs.declared.kernel.Kernel.{Kernel}
use Rattle.alg_kernel.specs.declared.answers.Refusal.{Refusal}
use Rattle.alg_kernel.specs.declared.answers.Refusal.TheVariants as refusal
use Rattle.alg_check.specs.Judging.{conclude_meant, conclude_written, judged_from, judged}
use Rattle.alg_check.specs.Following.{IsAt, GoesOn, Follows, Judges, Spell}
use Rattle.alg_check.specs.Meant.{meant}

-- what the conclusion of a line was, by what it led to
went : (old new : List Statement) (r : Concludes) → after_line old r ≡ Going new → (s : Statement) × (r ≡ Ok s) × (new ≡ old ++ s ∷ [])
went old new (Ok s) e = (s, refl, cc)
went old new (Err c) e = absurd (cc)

stopped : (old : List Statement) (n : ℕ) (c : BadCause) (r : Concludes) → after_line old r ≡ Stopped n c → (n ≡ suc (length old)) × (r ≡ Err c)
stopped old n c (Ok s) e = absurd (cc)
stopped old n c (Err d) e = (cc, cc)

longer : (n : ℕ) (old : List Statement) (s : Statement) (q : Progress) → n ≡ length old + 1 → q ≡ Going (old ++ s ∷ []) → IsAt (n + 1) q
longer n old s q e h = subst (IsAt (n + 1)) (sym h) (omega (arith, length-append old (s ∷ []), e))

pub fed_number : (th : Theory) (n : ℕ) (p q : Progress) (k : Step) (r : Result (Unit {0}) Refusal) → IsAt n p → Answers th p k q r → OnOk r (IsAt (n + 1) q)
fed_number th n (Stopped m c) q k r h a = absurd h
fed_number th n (Going old) q k (Err e) h a = tt
fed_number th n (Going old) q k (Ok u) h a =
    let w = went old a.1.0 (conclude th old k) (sym a.0 ∙ a.1.1) in
    longer n old w.0 q h (a.1.1 ∙ ap Going w.2)

meant_then : (th : Theory) (old : List Statement) (l k : Step) (r : Concludes) → meant th.declarations l ≡ Ok k → conclude th old k ≡ r → conclude_written th old l ≡ r
meant_then th old l k r m e = ap (conclude_meant th old) m ∙ e

goes : (th : Theory) (old : List Statement) (l k : Step) (q : Progress) (now : List Statement) → meant th.declarations l ≡ Ok k → q ≡ next th (Going old) k → q ≡ Going now → GoesOn th old l q
goes th old l k q now m a e =
    let w = went old now (conclude th old k) (sym a ∙ e) in
    subst (GoesOn th old l) (sym e) (w.0, meant_then th old l k (Ok w.0) m w.1, w.2)

-- the kernel's answer to the line of a step
pub fed_follows : (th : Theory) (p q : Progress) (l k : Step) (r : Result (Unit {0}) Refusal) → meant th.declarations l ≡ Ok k → Answers th p k q r → Follows th p l q r
fed_follows th (Stopped n c) q l k r m a = tt
fed_follows th (Going old) q l k (Ok u) m a = goes th old l k q a.1.0 m a.0 a.1.1
fed_follows th (Going old) q l k (Err (refusal.Bad n c)) m a =
    let w = stopped old n c (conclude th old k) (sym a.0 ∙ a.1) in
    (w.0, meant_then th old l k (Err c) m w.1)
fed_follows th (Going old) q l k (Err refusal.WrongEnd) m a = a
fed_follows th (Going old) q l k (Err refusal.Memory) m a = tt

-- the arena had grown by the trees of the line
pub fed_before : (old new : List Tree) (x : Extends old new) (k : Kernel) (s : IsSound old k) (q : Progress) (l : Step) (r : Result (Unit {0}) Refusal) → Answers (theory_of new k.grounds) (progress_of new k) l q r → Answers (theory_of old k.grounds) (progress_of old k) l q r
fed_before old new x k s q l r a =
    subst (λ th. Answers th (progress_of old k) l q r) (theory_of-extends old new x k.grounds s.given)
    (subst (λ p. Answers (theory_of new k.grounds) p l q r) (progress_of-extends old new x k s) a)

pub same_theory : (old new : List Tree) (x : Extends old new) (k j : Kernel) → j.grounds ≡ k.grounds → IsSound old k → theory_of new j.grounds ≡ theory_of old k.grounds
same_theory old new x k j e s = ap (theory_of new) e ∙ theory_of-extends old new x k.grounds s.given

abbrev pub judged_at : Theory → Progress → List Step → Statement → Verdict
judged_at th (Going done) ls goal = judged_from th done ls goal
judged_at th (Stopped n c) ls goal = BadAt n c

-- these texts are left, and their steps come to what all come to
pub record Left (th : Theory) (p : Progress) (ts : List (List ℕ)) (ls : List Step) (goal : Statement) : Type 0 where
  pub more : List Step
  pub spell : Spell more ts
  pub same : judged_at th p more goal ≡ judged th ls goal

module _ (th : Theory) (ls : List Step) (goal : Statement) (t : List ℕ) (ts : List (List ℕ)) where
  pub fits : (l : Step) (more : List Step) → Spell (l ∷ more) (t ∷ ts) → HasSpelling l × (step_bytes l ≡ t) × Spell more ts
  fits l more h =
      let a : step_bytes l ≡ t = cc (h.same) in
      let b : map step_bytes more ≡ ts = cc (h.same) in
      (All-head HasSpelling l more h.fit, a, record { fit = All-tail HasSpelling l more h.fit; same = b })

  goes_left : (done : List Statement) (q : Progress) (l : Step) (more : List Step) → Spell more ts → judged_from th done (l ∷ more) goal ≡ judged th ls goal → GoesOn th done l q → Left th q ts ls goal
  goes_left done (Stopped n c) l more h e g = absurd g
  goes_left done (Going now) l more h e g =
      let one : judged_from th (done ++ g.0 ∷ []) more goal ≡ judged_from th done (l ∷ more) goal = sym (ap (λ r. go_on (suc (length done)) r (λ s. judged_from th (done ++ s ∷ []) more goal)) g.1) in
      record { more = more; spell = h; same = ap (λ d. judged_from th d more goal) g.2 ∙ (one ∙ e) }

  next_of : (done : List Statement) (q : Progress) (more : List Step) → Spell more (t ∷ ts) → judged_from th done more goal ≡ judged th ls goal
      → ((l : Step) → HasSpelling l → step_bytes l ≡ t → GoesOn th done l q) → Left th q ts ls goal
  next_of done q [] h e f = absurd (cc (h.same))
  next_of done q (l ∷ more) h e f =
      let k = fits l more h in
      goes_left done q l more k.2 e (f l k.0 k.1)

  -- one text was followed
  pub next_left : (n : ℕ) (p q : Progress) (r : Result (Unit {0}) Refusal) (u : Unit {0}) → IsAt n p → Left th p (t ∷ ts) ls goal
      → ((l : Step) → HasSpelling l → step_bytes l ≡ t → Follows th p l q r) → r ≡ Ok u → Left th q ts ls goal
  next_left n (Stopped m c) q r u h a f e = absurd h
  next_left n (Going done) q r u h a f e = next_of done q a.more a.spell a.same (λ l s b. subst (Follows th (Going done) l q) e (f l s b))

  bad_of : (done : List Statement) (q : Progress) (more : List Step) (n : ℕ) (c : BadCause) → Spell more (t ∷ ts) → judged_from th done more goal ≡ judged th ls goal
      → ((l : Step) → HasSpelling l → step_bytes l ≡ t → (n ≡ suc (length done)) × (conclude_written th done l ≡ Err c)) → judged th ls goal ≡ BadAt n c
  bad_of done q [] n c h e f = absurd (cc (h.same))
  bad_of done q (l ∷ more) n c h e f =
      let k = fits l more h in
      let b = f l k.0 k.1 in
      let one : judged_from th done (l ∷ more) goal ≡ BadAt (suc (length done)) c = ap (λ r. go_on (suc (length done)) r (λ s. judged_from th (done ++ s ∷ []) more goal)) b.1 in
      sym e ∙ (one ∙ ap (λ i. BadAt i c) (sym b.0))

  none_of : (more : List Step) → Spell more (t ∷ ts) → ((l : Step) → HasSpelling l → step_bytes l ≡ t → ⊥) → ⊥
  none_of [] h f = absurd (cc (h.same))
  none_of (l ∷ more) h f = let k = fits l more h in f l k.0 k.1

  -- the text has the first bad step, or memory is wanting
  bad_left_at : (n : ℕ) (p q : Progress) (f : Refusal) → IsAt n p → Left th p (t ∷ ts) ls goal
      → ((l : Step) → HasSpelling l → step_bytes l ≡ t → Follows th p l q (Err f)) → Judges th ls goal q (Err f)
  bad_left_at n (Stopped m c) q f h a g = absurd h
  bad_left_at n (Going done) q (refusal.Bad m c) h a g = bad_of done q a.more m c a.spell a.same g
  bad_left_at n (Going done) q refusal.WrongEnd h a g = none_of a.more a.spell g
  bad_left_at n (Going done) q refusal.Memory h a g = tt

  pub bad_left : (n : ℕ) (p q : Progress) (f : Refusal) (r res : Result (Unit {0}) Refusal) → IsAt n p → Left th p (t ∷ ts) ls goal
      → ((l : Step) → HasSpelling l → step_bytes l ≡ t → Follows th p l q r) → r ≡ Err f → res ≡ Err f → Judges th ls goal q res
  bad_left n p q f r res h a g e d = subst (Judges th ls goal q) (sym d) (bad_left_at n p q f h a (λ l s b. subst (Follows th p l q) e (g l s b)))

pub all_left : (th : Theory) (p : Progress) (ls : List Step) (goal : Statement) (ts : List (List ℕ)) → p ≡ Going [] → Spell ls ts → Left th p ts ls goal
all_left th p ls goal ts e h = record { more = ls; spell = h; same = ap (λ q. judged_at th q ls goal) e }

over_of : (th : Theory) (p : Progress) (more ls : List Step) (goal : Statement) → Spell more [] → judged_at th p more goal ≡ judged th ls goal → judged th ls goal ≡ outcome p goal
over_of th (Going done) [] ls goal h e = sym e
over_of th (Stopped n c) [] ls goal h e = sym e
over_of th p (l ∷ more) ls goal h e = absurd (cc (h.same))

-- all texts were followed
pub over_left : (th : Theory) (p : Progress) (ls : List Step) (goal : Statement) → Left th p [] ls goal → judged th ls goal ≡ outcome p goal
over_left th p ls goal a = over_of th p a.more ls goal a.spell a.same

pub split : (ts : List (Bor (List ℕ))) (i : ℕ) (d : Bor (List ℕ)) → i < length ts → seen (drop i ts) ≡ (get_or ts i d).now ∷ seen (drop (i + 1) ts)
split ts i d h = rw add-one (ap seen (drop-cons ts i d h))

-- what is left at a place, as its first text and the others
pub left_at : (th : Theory) (p : Progress) (ls : List Step) (goal : Statement) (ts : List (Bor (List ℕ))) (i : ℕ) (d : Bor (List ℕ)) → i < length ts → Left th p (seen (drop i ts)) ls goal → Left th p ((get_or ts i d).now ∷ seen (drop (i + 1) ts)) ls goal
left_at th p ls goal ts i d h a = subst (λ xs. Left th p xs ls goal) (split ts i d h) a

pub left_none : (th : Theory) (p : Progress) (ls : List Step) (goal : Statement) (ts : List (Bor (List ℕ))) (i : ℕ) → length ts ≤ i → Left th p (seen (drop i ts)) ls goal → Left th p [] ls goal
left_none th p ls goal ts i h a = subst (λ xs. Left th p xs ls goal) (ap seen (drop_all i ts h)) a

judges_bad : (th : Theory) (ls : List Step) (goal : Statement) (q : Progress) (f : Refusal) → Judges th ls goal q (Err f) → (T : Type 0) → GivesVerdict {T = T} (Err f) (judged th ls goal)
judges_bad th ls goal q (refusal.Bad n c) h T = h
judges_bad th ls goal q refusal.WrongEnd h T = absurd h
judges_bad th ls goal q refusal.Memory h T = tt

-- the first bad line is the verdict
pub proved_bad : {T : Type 0} (th t : Theory) (ls : List Step) (goal : Statement) (q : Progress) (f : Refusal) (r : Result (Unit {0}) Refusal) (res : Result T Refusal) → th ≡ t → Judges th ls goal q r → r ≡ Err f → res ≡ Err f → GivesVerdict res (judged t ls goal)
proved_bad {T} th t ls goal q f r res e h a b = rw (b, ← e) (judges_bad th ls goal q f (rw a at h) T)
