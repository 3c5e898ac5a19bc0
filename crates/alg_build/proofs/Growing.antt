-- The book of a builder whose arena grows, and whose lines change.
use Rattle.std.proofs.Common.{◌≡◌, ℕ, ◌<◌, ◌≤◌, List, [], ◌∷◌, ◌++◌, length, take, refl, ap, sym, ◌∙◌, subst, arith, ◌⊎◌, inl, inr, All, Ok, Err, Some, None, Option, length-append}
use Rattle.std.specs.Prelude.{Result, IfOk, OnErr, IfSome, IsSome, option_map}
use Rattle.std.specs.List.{take-map}
use Rattle.std.proofs.lemmas.List.{map-append, take_all, length-map}
use Rattle.std.proofs.lemmas.List.Elements.{All-head, All-tail, All-push, All-take}
use Rattle.std.proofs.lemmas.Grind.{common_steps}
use Rattle.alg_terms.specs.Tree.{Tree, Statement}
use Rattle.alg_expr.specs.declared.ids.ExprId.{ExprId}
use Rattle.alg_expr.specs.declared.ids.Stmt.{Stmt}
use Rattle.alg_expr.specs.declared.memory.Memory.{Memory}
use Rattle.alg_expr.specs.Ids.{tree_of, trees_at, IsIn, statement_of, statements_of, IsStatementIn}
use Rattle.alg_expr.specs.Arena.{Extends, GrowsBy, Imports}
use Rattle.alg_expr.proofs.ArenaLaws.{Extends-self, GrowsBy-Extends, IsIn-extends, tree_of-extends, statement_of-extends, statements_of-extends, IsStatementIn-extends}
use Rattle.alg_law.specs.Declarations.{Declaration}
use Rattle.alg_proof.specs.declared.lines.Line.{Line}
use Rattle.alg_proof.specs.declared.lines.Line.TheVariants as line
use Rattle.alg_proof.specs.Lines.{step_of, steps_of, IsLineIn}
use Rattle.alg_proof.specs.declared.lemma_rows.LemmaRow.{LemmaRow}
use Rattle.alg_proof.specs.LemmaRows.{rows_of}
use Rattle.alg_proof.specs.Following.{IsAdmissible}
use Rattle.alg_proof.specs.Admissible.{IsTheory, IsFine, AllFine}
use Rattle.alg_proof.proofs.Admissible.{fine_lines, conclude-fine}
use Rattle.alg_law.specs.Following.{IsWellFormed}
use Rattle.alg_law.specs.Lawful.{IsLawful}
use Rattle.alg_law.specs.WellSorted.{IsStatement}
use Rattle.alg_proof.specs.Steps.{Theory, Step, Refl, Symm, Trans, Cong, Subst, Law, Lemma, Hyp, Rest, LitAdd, LitMul, LitRel, Bridge, Compute, conclude}
use Rattle.alg_terms.specs.declared.causes.BadCause.TheVariants as cause
use Rattle.alg_proof.specs.Causes.{line_at, or_cause}
use Rattle.alg_build.specs.Book.{Book, KeepsLines, Makes, Rests, IsThere, fact, stated}
use Rattle.alg_build.specs.Good.{AreGood, MayConclude, none, one_more}
use Rattle.alg_build.proofs.Accepting.{good_fine}
use Rattle.alg_build.specs.Inside.{Held, theory_of, book_of, IsSound}

pub grown : {E : Type 0} (old new : List Tree) (t : Tree) (r : Result ExprId E) → IfOk r (λ e. GrowsBy old new e t) → OnErr r (new ≡ old) → Extends old new
grown old new t (Ok e) g h = GrowsBy-Extends old new e t g
grown old new t (Err m) g h = rw h (Extends-self old)

pub imported : {E : Type 0} (old new : List Tree) (t : Tree) (r : Result ExprId E) → IfOk r (λ e. Imports old new e t) → OnErr r (new ≡ old) → Extends old new
imported old new t (Ok e) g h = g.keeps
imported old new t (Err m) g h = rw h (Extends-self old)

pub trees_at-extends : (ts us : List Tree) (es : List ExprId) → Extends ts us → All (IsIn ts) es → trees_at us es ≡ trees_at ts es
trees_at-extends ts us [] x h = refl
trees_at-extends ts us (e ∷ es) x h =
    let a : tree_of us e ≡ tree_of ts e = tree_of-extends ts us e x (All-head (IsIn ts) e es h) in
    let b : trees_at us es ≡ trees_at ts es = trees_at-extends ts us es x (All-tail (IsIn ts) e es h) in
    λ i. a i ∷ b i

pub step_of-extends : (ts us : List Tree) (l : Line) → Extends ts us → IsLineIn ts l → step_of us l ≡ step_of ts l
step_of-extends ts us (line.Refl e) x h = ap Refl (tree_of-extends ts us e x h)
step_of-extends ts us (line.Symm i) x h = refl
step_of-extends ts us (line.Trans i j) x h = refl
step_of-extends ts us (line.Cong f is) x h = refl
step_of-extends ts us (line.Subst i j k) x h = refl
step_of-extends ts us (line.Law n s es is) x h = λ i. Law n s (trees_at-extends ts us es x h i) is
step_of-extends ts us (line.Lemma n s es is) x h = λ i. Lemma n s (trees_at-extends ts us es x h i) is
step_of-extends ts us (line.Hyp n) x h = refl
step_of-extends ts us line.Rest x h = refl
step_of-extends ts us (line.LitAdd s m n) x h = refl
step_of-extends ts us (line.LitMul s m n) x h = refl
step_of-extends ts us (line.LitRel r s m n) x h = refl
step_of-extends ts us (line.Bridge k n e) x h = ap (Bridge k n) (tree_of-extends ts us e x h)
step_of-extends ts us (line.Compute g s xs) x h = refl

IsLineIn-extends : (ts us : List Tree) (l : Line) → Extends ts us → IsLineIn ts l → IsLineIn us l
IsLineIn-extends ts us (line.Refl e) x h = IsIn-extends ts us e x h
IsLineIn-extends ts us (line.Symm i) x h = tt
IsLineIn-extends ts us (line.Trans i j) x h = tt
IsLineIn-extends ts us (line.Cong f is) x h = tt
IsLineIn-extends ts us (line.Subst i j k) x h = tt
IsLineIn-extends ts us (line.Law n s es is) x h = λ k d l. IsIn-extends ts us _ x (h k d l)
IsLineIn-extends ts us (line.Lemma n s es is) x h = λ k d l. IsIn-extends ts us _ x (h k d l)
IsLineIn-extends ts us (line.Hyp n) x h = tt
IsLineIn-extends ts us line.Rest x h = tt
IsLineIn-extends ts us (line.LitAdd s m n) x h = tt
IsLineIn-extends ts us (line.LitMul s m n) x h = tt
IsLineIn-extends ts us (line.LitRel r s m n) x h = tt
IsLineIn-extends ts us (line.Bridge k n e) x h = IsIn-extends ts us e x h
IsLineIn-extends ts us (line.Compute g s xs) x h = tt

steps_of-extends : (ts us : List Tree) (ls : List Line) → Extends ts us → All (IsLineIn ts) ls → steps_of us ls ≡ steps_of ts ls
steps_of-extends ts us [] x h = refl
steps_of-extends ts us (l ∷ ls) x h =
    let a : step_of us l ≡ step_of ts l = step_of-extends ts us l x (All-head (IsLineIn ts) l ls h) in
    let b : steps_of us ls ≡ steps_of ts ls = steps_of-extends ts us ls x (All-tail (IsLineIn ts) l ls h) in
    cc

given-extends : (ts us : List Tree) (g : Option Stmt) → Extends ts us → IfSome g (IsStatementIn ts) → option_map (statement_of us) g ≡ option_map (statement_of ts) g
given-extends ts us None x h = refl
given-extends ts us (Some s) x h = ap Some (statement_of-extends ts us s x h)

given_in-extends : (ts us : List Tree) (g : Option Stmt) → Extends ts us → IfSome g (IsStatementIn ts) → IfSome g (IsStatementIn us)
given_in-extends ts us None x h = tt
given_in-extends ts us (Some s) x h = (IsIn-extends ts us s.lhs x h.0, IsIn-extends ts us s.rhs x h.1)

pub theory-extends : (h : Held) (us : List Tree) → Extends h.trees us → IsSound h → theory_of (record h { trees = us }) ≡ theory_of h
theory-extends h us x s = λ i. record { declarations = h.declarations; lemmas = rows_of h.lemmas; given = given-extends h.trees us h.given x s.given_in i }

pub sound-extends : (h : Held) (us : List Tree) → Extends h.trees us → IsSound h → IsSound (record h { trees = us })
sound-extends h us x s = record {
  lines_in = λ k d l. IsLineIn-extends h.trees us _ x (s.lines_in k d l);
  done_in = IsStatementIn-extends h.trees us h.done x s.done_in;
  atoms_in = λ k d l. IsIn-extends h.trees us _ x (s.atoms_in k d l);
  given_in = given_in-extends h.trees us h.given x s.given_in;
  theory = subst IsTheory (sym (theory-extends h us x s)) s.theory;
  good = subst (λ th. AreGood th (steps_of us h.lines) (statements_of us h.done)) (sym (theory-extends h us x s)) (rw (steps_of-extends h.trees us h.lines x s.lines_in, statements_of-extends h.trees us h.done x s.done_in) s.good);
}

pub book-extends : (h : Held) (us : List Tree) → Extends h.trees us → IsSound h → KeepsLines (book_of h) (book_of (record h { trees = us }))
book-extends h us x s = record {
  theory = theory-extends h us x s;
  trees = x;
  steps = steps_of-extends h.trees us h.lines x s.lines_in;
  done = statements_of-extends h.trees us h.done x s.done_in;
  atoms = trees_at-extends h.trees us h.atoms x s.atoms_in;
}

pub keeps-of : (h : Held) (us : List Tree) (old : Book) → book_of h ≡ old → Extends h.trees us → IsSound h → KeepsLines old (book_of (record h { trees = us }))
keeps-of h us old same x s = rw (← same) (book-extends h us x s)

-- a new tree

made : (h : Held) (us : List Tree) (old : Book) (e : ExprId) (t : Tree) → book_of h ≡ old → IsSound h → Extends h.trees us → IsIn us e → tree_of us e ≡ t → Makes old (book_of (record h { trees = us })) e t
made h us old e t same s x here is = record { keeps = keeps-of h us old same x s; here = here; tree = is }

pub makes_grown : (h : Held) (us : List Tree) (old : Book) (e : ExprId) (t : Tree) → book_of h ≡ old → IsSound h → GrowsBy h.trees us e t → Makes old (book_of (record h { trees = us })) e t
makes_grown h us old e t same s g = made h us old e t same s (GrowsBy-Extends h.trees us e t g) g.here g.tree

pub makes : {E : Type 0} (h : Held) (us : List Tree) (old : Book) (t : Tree) (r : Result ExprId E) → book_of h ≡ old → IsSound h → IfOk r (λ e. GrowsBy h.trees us e t) → IfOk r (λ e. Makes old (book_of (record h { trees = us })) e t)
makes h us old t (Ok e) same s g = makes_grown h us old e t same s g
makes h us old t (Err m) same s g = tt

pub makes_imported : {E : Type 0} (h : Held) (us : List Tree) (old : Book) (t : Tree) (r : Result ExprId E) → book_of h ≡ old → IsSound h → IfOk r (λ e. Imports h.trees us e t) → IfOk r (λ e. Makes old (book_of (record h { trees = us })) e t)
makes_imported h us old t (Ok e) same s g = made h us old e t same s g.keeps g.here g.tree
makes_imported h us old t (Err m) same s g = tt

-- the lines

nothing_in : {A : Type 0} (P : A → Type 0) → All P []
nothing_in P = λ k d l. absurd (omega (arith, l))

pub sound-new : (ds : List Declaration) (ls : List LemmaRow) (ts : List Tree) → IsWellFormed ds → IsLawful ds → All IsAdmissible (rows_of ls) → IsSound (record { declarations = ds; lemmas = ls; trees = ts; lines = []; done = []; atoms = []; given = None })
sound-new ds ls ts w l a = record {
  lines_in = nothing_in (IsLineIn ts);
  done_in = nothing_in (IsStatementIn ts);
  atoms_in = nothing_in (IsIn ts);
  given_in = tt;
  theory = record { well_formed = w; lawful = l; lemmas = a; given = λ s e. cc };
  good = none;
}

-- one more good line
pub sound-push : (h : Held) (l : Line) (s : Stmt) → IsSound h → IsLineIn h.trees l → IsStatementIn h.trees s
    → conclude (theory_of h) (statements_of h.trees h.done) (step_of h.trees l) ≡ Ok (statement_of h.trees s) → IsSound (record h { lines = h.lines ++ l ∷ []; done = h.done ++ s ∷ [] })
sound-push h l s k line_in s_in good =
    let a : steps_of h.trees (h.lines ++ l ∷ []) ≡ steps_of h.trees h.lines ++ step_of h.trees l ∷ [] = map-append (step_of h.trees) h.lines (l ∷ []) in
    let b : statements_of h.trees (h.done ++ s ∷ []) ≡ statements_of h.trees h.done ++ statement_of h.trees s ∷ [] = map-append (statement_of h.trees) h.done (s ∷ []) in
    record {
      lines_in = All-push (IsLineIn h.trees) h.lines l k.lines_in line_in;
      done_in = All-push (IsStatementIn h.trees) h.done s k.done_in s_in;
      atoms_in = k.atoms_in;
      given_in = k.given_in;
      theory = k.theory;
      good = rw (a, b) (one_more _ _ _ _ k.good good);
    }

-- the same, where the line and its conclusion are spoken of by the book
pub pushed : (h : Held) (l : Line) (s : Stmt) (old : Book) → book_of h ≡ old → IsSound h → IsLineIn old.trees l → IsStatementIn old.trees s
    → conclude old.theory old.done (step_of old.trees l) ≡ Ok (statement_of old.trees s) → IsSound (record h { lines = h.lines ++ l ∷ []; done = h.done ++ s ∷ [] })
pushed h l s old same k line_in s_in good =
    sound-push h l s k
    (subst (λ (b : Book). IsLineIn b.trees l) (sym same) line_in)
    (subst (λ (b : Book). IsStatementIn b.trees s) (sym same) s_in)
    (subst (λ (b : Book). conclude b.theory b.done (step_of b.trees l) ≡ Ok (statement_of b.trees s)) (sym same) good)

-- a statement is given

conclude-given : (th : Theory) (g : Option Statement) (done : List Statement) (l : Step) (s : Statement) → th.given ≡ None → conclude th done l ≡ Ok s → conclude (record th { given = g }) done l ≡ Ok s
conclude-given th g done (Refl t) s n e = e
conclude-given th g done (Symm i) s n e = e
conclude-given th g done (Trans i j) s n e = e
conclude-given th g done (Cong f is) s n e = e
conclude-given th g done (Subst i j k) s n e = e
conclude-given th g done (Law r t xs is) s n e = e
conclude-given th g done (Lemma r t xs is) s n e = e
conclude-given th g done (Hyp k) s n e = e
conclude-given th g done Rest s n e = absurd (none_given th.given n e)
  where
    none_given : (o : Option Statement) → o ≡ None → or_cause o cause.Reference Ok ≡ Ok s → ⊥
    none_given None m f = cc
    none_given (Some x) m f = cc
conclude-given th g done (LitAdd t m k) s n e = e
conclude-given th g done (LitMul t m k) s n e = e
conclude-given th g done (LitRel r t m k) s n e = e
conclude-given th g done (Bridge b k t) s n e = e
conclude-given th g done (Compute c t xs) s n e = e

good-given : (th : Theory) (g : Option Statement) (steps : List Step) (done : List Statement) → th.given ≡ None → AreGood th steps done → AreGood (record th { given = g }) steps done
good-given th g _ _ n none = none
good-given th g _ _ n (one_more steps done l s h e) = one_more steps done l s (good-given th g steps done n h) (conclude-given th g done l s n e)

none-from : (ts : List Tree) (g : Option Stmt) → option_map (statement_of ts) g ≡ None → g ≡ None
none-from ts None e = refl
none-from ts (Some s) e = cc

pub sound-rest : (h : Held) (s : Stmt) (old : Book) → book_of h ≡ old → IsSound h → old.theory.given ≡ None → IsStatementIn old.trees s → IsStatement old.theory.declarations (statement_of old.trees s)
    → IsSound (record h { lines = h.lines ++ line.Rest ∷ []; done = h.done ++ s ∷ []; given = Some s })
sound-rest h s old same k nothing here sorted =
    let n : (theory_of h).given ≡ None = subst (λ (b : Book). b.theory.given ≡ None) (sym same) nothing in
    let there : IsStatementIn h.trees s = subst (λ (b : Book). IsStatementIn b.trees s) (sym same) here in
    let is : IsStatement h.declarations (statement_of h.trees s) = subst (λ (b : Book). IsStatement b.theory.declarations (statement_of b.trees s)) (sym same) sorted in
    let g : Held = record h { given = Some s } in
    let t : IsTheory (theory_of g) = record { well_formed = k.theory.well_formed; lawful = k.theory.lawful; lemmas = k.theory.lemmas; given = λ x e. subst (IsStatement h.declarations) (some-same _ _ e) is } in
    let start : IsSound g = record { lines_in = k.lines_in; done_in = k.done_in; atoms_in = k.atoms_in; given_in = there; theory = t; good = good-given (theory_of h) (Some (statement_of h.trees s)) _ _ n k.good } in
    sound-push g line.Rest s start tt there refl
  where
    some-same : (x y : Statement) → Some x ≡ Some y → x ≡ y
    some-same x y e = cc

given-good : (ds : List Declaration) (ts : List Tree) (g : Option Stmt) → IfSome g (IsStatementIn ts) → ((s : Statement) → option_map (statement_of ts) g ≡ Some s → IsStatement ds s) → IfSome g (λ s. IsStatementIn ts s × IsStatement ds (statement_of ts s))
given-good ds ts None h k = tt
given-good ds ts (Some s) h k = (h, k (statement_of ts s) refl)

pub given_is_good : (h : Held) → IsSound h → IfSome h.given (λ s. IsStatementIn h.trees s × IsStatement h.declarations (statement_of h.trees s))
given_is_good h k = given-good h.declarations h.trees h.given k.given_in k.theory.given

pub all_fine : (h : Held) → IsSound h → AllFine h.declarations (option_map (statement_of h.trees) h.given) (statements_of h.trees h.done)
all_fine h k = good_fine (theory_of h) (steps_of h.trees h.lines) (statements_of h.trees h.done) k.theory k.good

-- what a good line concludes is well sorted
pub leads_sorted : (h : Held) (old : Book) (l : Step) (f : List Tree → Statement) → book_of h ≡ old → IsSound h → MayConclude old l (f old.trees) → (ds : List Declaration) × IsStatement ds (f h.trees)
leads_sorted h old l f same k e = (
  h.declarations,
  (conclude-fine (theory_of h) k.theory (statements_of h.trees h.done) l (f h.trees) (all_fine h k) (subst (λ (b : Book). MayConclude b l (f b.trees)) (sym same) e)).statement,
)

pub leads_filled : (h : Held) (old : Book) (l : Step) (f : List Tree → Statement) (us : List Tree) (r : Result Stmt Memory) → book_of h ≡ old → MayConclude old l (f old.trees) → IfOk r (λ q. statement_of us q ≡ f h.trees) → IfOk r (λ q. MayConclude old l (statement_of us q))
leads_filled h old l f us (Err m) same e p = tt
leads_filled h old l f us (Ok q) same e p = subst (λ (s : Statement). MayConclude old l s) (sym (p ∙ ap (λ (b : Book). f b.trees) same)) e

pub gives : (h : Held) (s : Stmt) (old : Book) (n : ℕ) → book_of h ≡ old → n ≡ length (h.done ++ s ∷ []) → Rests old (book_of (record h { lines = h.lines ++ line.Rest ∷ []; done = h.done ++ s ∷ []; given = Some s })) n (statement_of old.trees s)
gives h s old n same e = rw (← same) (record {
  theory = refl;
  trees = refl;
  steps = map-append (step_of h.trees) h.lines (line.Rest ∷ []);
  done = map-append (statement_of h.trees) h.done (s ∷ []);
  number = e ∙ sym (length-map (h.done ++ s ∷ []) (statement_of h.trees));
  atoms = refl;
})

-- conclusions are well sorted and derivable
pub concluded_fine : (h : Held) (old : Book) (i : ℕ) → book_of h ≡ old → IsSound h → IsThere old i → IsFine old.theory.declarations old.theory.given (fact old i)
unfolding fact
concluded_fine h old i same k at = subst (λ (b : Book). IsFine b.theory.declarations b.theory.given (stated (line_at b.done i))) same (go (line_at (statements_of h.trees h.done) i) refl (subst (λ (b : Book). IsThere b i) (sym same) at))
  where
    go : (o : Option Statement) → line_at (statements_of h.trees h.done) i ≡ o → IsSome (line_at (statements_of h.trees h.done) i) → IsFine h.declarations (theory_of h).given (stated (line_at (statements_of h.trees h.done) i))
    go None e t = cc
    go (Some x) e t = rw e (fine_lines h.declarations (theory_of h).given (statements_of h.trees h.done) (i ∷ []) (x ∷ []) (good_fine (theory_of h) _ _ k.theory k.good) (rw e refl)).0

good_lengths : (th : Theory) (steps : List Step) (done : List Statement) → AreGood th steps done → length steps ≡ length done
good_lengths th _ _ none = refl
good_lengths th _ _ (one_more steps done l s h e) = omega (arith, good_lengths th steps done h, length-append steps (l ∷ []), length-append done (s ∷ []))

pub lengths : (h : Held) (old : Book) → book_of h ≡ old → IsSound h → length old.done ≡ length old.steps
lengths h old same k = subst (λ (b : Book). length b.done ≡ length b.steps) same (sym (good_lengths (theory_of h) (steps_of h.trees h.lines) (statements_of h.trees h.done) k.good))

take_or : {A : Type 0} (n : ℕ) (xs : List A) (x : A) → n ≤ length xs → take n (xs ++ x ∷ []) ≡ take n xs
take_or n xs x l = grind (arith, common_steps)

le_or_lt : (a b : ℕ) → (a ≤ b) ⊎ (b < a)
le_or_lt a b = grind arith

-- the first lines are good
good_take : (th : Theory) (n : ℕ) (steps : List Step) (done : List Statement) → AreGood th steps done → AreGood th (take n steps) (take n done)
good_take th n _ _ none = rw (take_all {A = Step} n [] (omega arith), take_all {A = Statement} n [] (omega arith)) none
good_take th n _ _ (one_more steps done l s h e) = go (le_or_lt n (length steps)) (good_take th n steps done h)
  where
    go : (n ≤ length steps) ⊎ (length steps < n) → AreGood th (take n steps) (take n done) → AreGood th (take n (steps ++ l ∷ [])) (take n (done ++ s ∷ []))
    go (inl k) ih = rw (take_or n steps l k, take_or n done s (omega (arith, k, good_lengths th steps done h))) ih
    go (inr k) ih =
        rw (take_all n (steps ++ l ∷ []) (omega (arith, k, length-append steps (l ∷ []))), take_all n (done ++ s ∷ []) (omega (arith, k, good_lengths th steps done h, length-append done (s ∷ []))))
        (one_more steps done l s h e)

pub sound-take : (n : ℕ) (h : Held) → IsSound h → IsSound (record h { lines = take n h.lines; done = take n h.done })
sound-take n h k = record {
  lines_in = All-take (IsLineIn h.trees) n h.lines k.lines_in;
  done_in = All-take (IsStatementIn h.trees) n h.done k.done_in;
  atoms_in = k.atoms_in;
  given_in = k.given_in;
  theory = k.theory;
  good = rw (← take-map (step_of h.trees) n h.lines, ← take-map (statement_of h.trees) n h.done) (good_take (theory_of h) n _ _ k.good);
}

pub book-take : (n : ℕ) (h : Held) (old : Book) → book_of h ≡ old → book_of (record h { lines = take n h.lines; done = take n h.done }) ≡ record old { steps = take n old.steps; done = take n old.done }
book-take n h old same = rw (← same, take-map (step_of h.trees) n h.lines, take-map (statement_of h.trees) n h.done) refl
