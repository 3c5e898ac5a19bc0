-- What the lines of a book conclude, as it grows: for those who call a builder.
use Rattle.std.proofs.Common.{◌≡◌, ℕ, zero, suc, ◌≤◌, List, [], ◌∷◌, ◌++◌, length, take, refl, ap, sym, ◌∙◌, arith, Ok, Err, Some, append-nil, append_assoc, length-append}
use Rattle.std.specs.Prelude.{Result, IfOk, OnErr, slice_get}
use Rattle.std.proofs.lemmas.Grind.{common_steps}
use Rattle.alg_terms.specs.Tree.{Tree, Statement, equal}
use Rattle.alg_expr.specs.declared.ids.ExprId.{ExprId}
use Rattle.alg_expr.specs.declared.memory.Memory.{Memory}
use Rattle.alg_expr.proofs.ArenaLaws.{Extends-self, Extends-then}
use Rattle.alg_proof.specs.Steps.{Step}
use Rattle.alg_proof.specs.Causes.{line_at}
use Rattle.alg_build.specs.Book.{Book, Grows, KeepsLines, LeavesLines, Makes, Adds, Concludes, Proves, IsEquation, left_at, right_at, fact, stated}
use Rattle.alg_build.proofs.Concluding.{line_at-within}

slice_get-append : {A : Type 0} (xs ys : List A) (k : ℕ) (x : A) → slice_get xs k ≡ Some x → slice_get (xs ++ ys) k ≡ Some x
slice_get-append [] ys k x e = cc
slice_get-append (z ∷ zs) ys zero x e = e
slice_get-append (z ∷ zs) ys (suc k) x e = slice_get-append zs ys k x e

pub line_at-append : {A : Type 0} (xs ys : List A) (i : ℕ) (x : A) → line_at xs i ≡ Some x → line_at (xs ++ ys) i ≡ Some x
line_at-append xs ys zero x e = cc
line_at-append xs ys (suc k) x e = slice_get-append xs ys k x e

slice_get-seam : {A : Type 0} (xs : List A) (x : A) → slice_get (xs ++ x ∷ []) (length xs) ≡ Some x
slice_get-seam [] x = refl
slice_get-seam (y ∷ ys) x = slice_get-seam ys x

-- growth

pub grows-self : (a : Book) → Grows a a
grows-self a = record { theory = refl; trees = Extends-self a.trees; steps = ([], sym (append-nil _)); done = ([], sym (append-nil _)); atoms = ([], sym (append-nil _)) }

pub grows-same : (a b : Book) → b ≡ a → Grows a b
grows-same a b e = rw e (grows-self a)

pub grows-then : (a b c : Book) → Grows a b → Grows b c → Grows a c
grows-then a b c p q = record {
  theory = q.theory ∙ p.theory;
  trees = Extends-then a.trees b.trees c.trees p.trees q.trees;
  steps = (p.steps.0 ++ q.steps.0, q.steps.1 ∙ ap (λ l. l ++ q.steps.0) p.steps.1 ∙ append_assoc a.steps p.steps.0 q.steps.0);
  done = (p.done.0 ++ q.done.0, q.done.1 ∙ ap (λ l. l ++ q.done.0) p.done.1 ∙ append_assoc a.done p.done.0 q.done.0);
  atoms = (p.atoms.0 ++ q.atoms.0, q.atoms.1 ∙ ap (λ l. l ++ q.atoms.0) p.atoms.1 ∙ append_assoc a.atoms p.atoms.0 q.atoms.0);
}

pub keeps-grows : (a b : Book) → KeepsLines a b → Grows a b
keeps-grows a b k = record { theory = k.theory; trees = k.trees; steps = ([], k.steps ∙ sym (append-nil _)); done = ([], k.done ∙ sym (append-nil _)); atoms = ([], k.atoms ∙ sym (append-nil _)) }

pub makes-grows : (a b : Book) (e : ExprId) (t : Tree) → Makes a b e t → Grows a b
makes-grows a b e t m = keeps-grows a b m.keeps

pub adds-grows : (a b : Book) (n : ℕ) (l : Step) (s : Statement) → Adds a b n l s → Grows a b
adds-grows a b n l s p = record { theory = p.theory; trees = p.trees; steps = (l ∷ [], p.steps); done = (s ∷ [], p.done); atoms = ([], p.atoms ∙ sym (append-nil _)) }

take-front : {A : Type 0} (xs ys : List A) → take (length xs) (xs ++ ys) ≡ xs
take-front xs ys = grind (arith, common_steps)

-- after going back to a mark the lines are as they were there
pub keeps : (a b : Book) (n : ℕ) → Grows a b → n ≡ length a.steps → length a.done ≡ length a.steps → LeavesLines a (record b { steps = take n b.steps; done = take n b.done })
keeps a b n g e h = record {
  theory = g.theory;
  trees = g.trees;
  steps = rw (e, g.steps.1) (take-front a.steps g.steps.0);
  done = rw (e, g.done.1, ← h) (take-front a.done g.done.0);
  atoms = g.atoms;
}

-- conclusions

pub grows-proves : (a b : Book) (i : ℕ) (x y : Tree) → Grows a b → Proves a i x y → Proves b i x y
grows-proves a b i x y g p = record { line = rw g.done.1 (line_at-append a.done g.done.0 i (equal x y) p.line) }

pub adds-proves : (a b : Book) (n : ℕ) (l : Step) (x y : Tree) → Adds a b n l (equal x y) → Proves b n x y
adds-proves a b n l x y p =
    let k : n ≡ suc (length a.done) = omega (arith, p.number, ap length p.done, length-append a.done (equal x y ∷ [])) in
    record { line = rw (p.done, k) (slice_get-seam a.done (equal x y)) }

pub adds-concludes : (a b : Book) (n : ℕ) (l : Step) (s : Statement) → Adds a b n l s → Concludes b n s
adds-concludes a b n l s p =
    let k : n ≡ suc (length a.done) = omega (arith, p.number, ap length p.done, length-append a.done (s ∷ [])) in
    record { line = rw (p.done, k) (slice_get-seam a.done s) }

pub proves-fact : (b : Book) (i : ℕ) (x y : Tree) → Proves b i x y → fact b i ≡ equal x y
unfolding fact
proves-fact b i x y p = ap stated p.line

pub proves-left : (b : Book) (i : ℕ) (x y : Tree) → Proves b i x y → left_at b i ≡ x
proves-left b i x y p = ap (λ (s : Statement). s.lhs) (proves-fact b i x y p)

pub proves-right : (b : Book) (i : ℕ) (x y : Tree) → Proves b i x y → right_at b i ≡ y
proves-right b i x y p = ap (λ (s : Statement). s.rhs) (proves-fact b i x y p)

pub proves-equation : (b : Book) (i : ℕ) (x y : Tree) → Proves b i x y → IsEquation b i
proves-equation b i x y p = record { line = p.line ∙ (λ k. Some (equal (sym (proves-left b i x y p) k) (sym (proves-right b i x y p) k))) }

pub proves-within : (b : Book) (i : ℕ) (x y : Tree) → Proves b i x y → i ≤ length b.done
proves-within b i x y p = line_at-within b.done i (equal x y) p.line

pub ruleset lines = (adds-proves, makes-grows, grows-proves, adds-grows, keeps-grows, grows-then, grows-self, grows-same, proves-left, proves-right, proves-equation)

-- a line from before, and the new one

pub kept : (a b : Book) (n i : ℕ) (l : Step) (s : Statement) → Adds a b n l s → IsEquation a i → Proves b i (left_at a i) (right_at a i)
kept a b n i l s p e = grows-proves a b i _ _ (adds-grows a b n l s p) e

pub still : (a b : Book) (n i : ℕ) (l : Step) (s : Statement) → Adds a b n l s → IsEquation a i → IsEquation b i
still a b n i l s p e = proves-equation b i _ _ (kept a b n i l s p e)

pub still_left : (a b : Book) (n i : ℕ) (l : Step) (s : Statement) → Adds a b n l s → IsEquation a i → left_at b i ≡ left_at a i
still_left a b n i l s p e = proves-left b i _ _ (kept a b n i l s p e)

pub still_right : (a b : Book) (n i : ℕ) (l : Step) (s : Statement) → Adds a b n l s → IsEquation a i → right_at b i ≡ right_at a i
still_right a b n i l s p e = proves-right b i _ _ (kept a b n i l s p e)

pub new : (a b : Book) (n : ℕ) (l : Step) (x y : Tree) → Adds a b n l (equal x y) → IsEquation b n
new a b n l x y p = proves-equation b n x y (adds-proves a b n l x y p)

pub new_left : (a b : Book) (n : ℕ) (l : Step) (x y : Tree) → Adds a b n l (equal x y) → left_at b n ≡ x
new_left a b n l x y p = proves-left b n x y (adds-proves a b n l x y p)

pub new_right : (a b : Book) (n : ℕ) (l : Step) (x y : Tree) → Adds a b n l (equal x y) → right_at b n ≡ y
new_right a b n l x y p = proves-right b n x y (adds-proves a b n l x y p)

pub grows_last : (a b c : Book) (l : Step) (s : Statement) (r : Result ℕ Memory) → Grows a b → IfOk r (λ n. Adds b c n l s) → OnErr r (c ≡ b) → Grows a c
grows_last a b c l s (Ok n) g p e = grows-then a b c g (adds-grows b c n l s p)
grows_last a b c l s (Err m) g p e = rw e g

pub proves_last : (b c : Book) (l : Step) (x y u v : Tree) (r : Result ℕ Memory) → IfOk r (λ n. Adds b c n l (equal x y)) → x ≡ u → y ≡ v → IfOk r (λ n. Proves c n u v)
proves_last b c l x y u v (Ok n) p e f = rw (← e, ← f) (adds-proves b c n l x y p)
proves_last b c l x y u v (Err m) p e f = tt
