-- What stands at a line, and that the lines of a builder are good.
use Rattle.std.proofs.Common.{◌≡◌, ℕ, zero, suc, ◌-◌, ◌<◌, ◌≤◌, List, [], ◌∷◌, ◌++◌, length, get_or, take, refl, ap, sym, ◌∙◌, subst, arith, Ok, Err, Some, None, Option}
use Rattle.std.specs.Prelude.{Result, IfOk, OnErr, IsSome, slice_get}
use Rattle.std.specs.Option.{option_map}
use Rattle.std.specs.List.{take-map}
use Rattle.std.proofs.lemmas.List.{length-take-le}
use Rattle.std.proofs.lemmas.Option.{slice_get-map}
use Rattle.alg_terms.specs.declared.sorts.Sort.{Sort}
use Rattle.alg_terms.specs.declared.symbols.Sym.{Sym}
use Rattle.alg_terms.specs.Tree.{Tree, Lit, App, Cons, Nil, Statement, of_list, sort_of_tree, equal}
use Rattle.alg_terms.proofs.OrderLaws.{tree_same-self, sort_same-self}
use Rattle.alg_expr.specs.declared.ids.ExprId.{ExprId}
use Rattle.alg_expr.specs.declared.ids.Stmt.{Stmt}
use Rattle.alg_expr.specs.Ids.{tree_of, trees_at, statement_of, statements_of}
use Rattle.alg_expr.proofs.ArenaLaws.{Extends-then, tree_of-extends}
use Rattle.alg_expr.specs.declared.memory.Memory.{Memory}
use Rattle.alg_proof.specs.declared.lines.Line.{Line}
use Rattle.alg_terms.specs.declared.causes.BadCause.{BadCause}
use Rattle.alg_law.specs.Derivations.{related}
use Rattle.alg_proof.specs.Lines.{step_of, IsLineIn}
use Rattle.alg_proof.specs.Steps.{Theory, Step, Trans, Subst, conclude}
use Rattle.alg_build.specs.Good.{MayConclude}
use Rattle.alg_build.proofs.Growing.{step_of-extends}
use Rattle.alg_proof.specs.Causes.{line_at}
use Rattle.alg_build.specs.Book.{Book, fact, stated, left_at, right_at, IsThere, IsEquation, KeepsLines, Adds, Makes}
use Rattle.alg_law.specs.WellSorted.{IsStatement}
use Rattle.alg_build.specs.Inside.{Held, book_of}

picked : (ts : List Tree) (ds : List Stmt) (k : ℕ) (s : Stmt) → s ≡ get_or ds k s → IsSome (option_map (statement_of ts) (slice_get ds k)) → statement_of ts s ≡ stated (option_map (statement_of ts) (slice_get ds k))
picked ts [] k s e f = cc
picked ts (d ∷ ds) zero s e f = ap (statement_of ts) e
picked ts (d ∷ ds) (suc k) s e f = picked ts ds k s e f

pub concluded_is : (h : Held) (old : Book) (i : ℕ) (s : Stmt) → book_of h ≡ old → IsThere old i → s ≡ get_or h.done (i - 1) s → statement_of old.trees s ≡ fact old i
unfolding fact
concluded_is h old i s same at is = subst (λ (b : Book). statement_of b.trees s ≡ stated (line_at b.done i)) same (go i (subst (λ (b : Book). IsThere b i) (sym same) at) is)
  where
    go : (i : ℕ) → IsSome (line_at (statements_of h.trees h.done) i) → s ≡ get_or h.done (i - 1) s → statement_of h.trees s ≡ stated (line_at (statements_of h.trees h.done) i)
    go zero e f = cc
    go (suc k) e f =
        let n : suc k - 1 ≡ k = omega arith in
        let m = slice_get-map (statement_of h.trees) h.done k in
        rw m (picked h.trees h.done k s (rw n at f) (rw m at e))

-- a line that is there has a number up to the count

slice_get-within : {A : Type 0} (xs : List A) (k : ℕ) (x : A) → slice_get xs k ≡ Some x → k < length xs
slice_get-within [] k x e = cc
slice_get-within (y ∷ ys) zero x e = omega arith
slice_get-within (y ∷ ys) (suc k) x e = omega (arith, slice_get-within ys k x e)

pub line_at-within : {A : Type 0} (xs : List A) (i : ℕ) (x : A) → line_at xs i ≡ Some x → i ≤ length xs
line_at-within xs zero x e = cc
line_at-within xs (suc k) x e = omega (arith, slice_get-within xs k x e)

slice_get-take : {A : Type 0} (xs : List A) (k : ℕ) (x : A) → slice_get xs k ≡ Some x → slice_get (take (suc k) xs) k ≡ Some x
slice_get-take [] k x e = cc
slice_get-take (y ∷ ys) zero x e = e
slice_get-take (y ∷ ys) (suc k) x e = slice_get-take ys k x e

line_at-last : {A : Type 0} (xs : List A) (i : ℕ) (x : A) → line_at xs i ≡ Some x → line_at (take i xs) (length (take i xs)) ≡ Some x
line_at-last xs zero x e = cc
line_at-last xs (suc k) x e = rw (length-take-le (suc k) xs (line_at-within xs (suc k) x e)) (slice_get-take xs k x e)

pub last_is : (h : Held) (old : Book) (n : ℕ) (s : Statement) → book_of h ≡ old → line_at old.done n ≡ Some s
    → line_at (statements_of h.trees (take n h.done)) (length (statements_of h.trees (take n h.done))) ≡ Some s
last_is h old n s same e =
    rw (← take-map (statement_of h.trees) n h.done) (line_at-last (statements_of h.trees h.done) n s (subst (λ (b : Book). line_at b.done n ≡ Some s) (sym same) e))

-- the middle trees are one, and all are of one sort
trans_good : (th : Theory) (done : List Statement) (i j : ℕ) (x y z : Tree) → line_at done i ≡ Some (equal x y) → line_at done j ≡ Some (equal y z) → sort_of_tree y ≡ sort_of_tree x
    → conclude th done (Trans i j) ≡ Ok (equal x z)
trans_good th done i j x y z p q h = rw (p, q, h, sort_same-self (sort_of_tree x), tree_same-self y) refl

pub trans_line : (b : Book) (i j : ℕ) (x y s : Stmt) → IsEquation b i → IsEquation b j → right_at b i ≡ left_at b j → IsStatement b.theory.declarations (fact b i)
    → statement_of b.trees x ≡ fact b i → statement_of b.trees y ≡ fact b j → statement_of b.trees s ≡ equal (tree_of b.trees x.lhs) (tree_of b.trees y.rhs)
    → conclude (b.theory) b.done (Trans i j) ≡ Ok (statement_of b.trees s)
trans_line b i j x y s p q m h e f is =
    trans_good (b.theory) b.done i j (left_at b i) (right_at b i) (right_at b j) p.line (q.line ∙ ap (λ t. Some (equal t (right_at b j))) (sym m)) (h.right_sort ∙ sym h.left_sort)
    ∙ ap Ok (sym (is ∙ (λ k. equal (e k).lhs (f k).rhs)))

pub keeps_then : (a b c : Book) → KeepsLines a b → KeepsLines b c → KeepsLines a c
keeps_then a b c p q = record {
  theory = q.theory ∙ p.theory;
  trees = Extends-then a.trees b.trees c.trees p.trees q.trees;
  steps = q.steps ∙ p.steps;
  done = q.done ∙ p.done;
  atoms = q.atoms ∙ p.atoms;
}

-- a symbol over two literals
pub operation_line : (a b c d : Book) (g : Sym) (sort : Sort) (x y : ExprId) (m n : ℕ) (r : Result ExprId Memory) → Makes a b x (Lit sort m) → Makes b c y (Lit sort n)
    → IfOk r (λ z. Makes c d z (App g sort (of_list (trees_at c.trees (x ∷ y ∷ []))))) → IfOk r (λ z. Makes a d z (App g sort (Cons (Lit sort m) (Cons (Lit sort n) Nil))))
operation_line a b c d g sort x y m n (Ok z) p q s =
    let one : tree_of c.trees x ≡ Lit sort m = tree_of-extends b.trees c.trees x q.keeps.trees p.here ∙ p.tree in
    record {
      keeps = keeps_then a c d (keeps_then a b c p.keeps q.keeps) s.keeps;
      here = s.here;
      tree = s.tree ∙ (λ i. App g sort (Cons (one i) (Cons (q.tree i) Nil)));
    }
operation_line a b c d g sort x y m n (Err e) p q s = tt

-- a line after new trees

pub adds_after : (a b c : Book) (n : ℕ) (l : Step) (s t : Statement) → KeepsLines a b → Adds b c n l s → s ≡ t → Adds a c n l t
adds_after a b c n l s t k p e = record {
  theory = p.theory ∙ k.theory;
  trees = Extends-then a.trees b.trees c.trees k.trees p.trees;
  steps = p.steps ∙ ap (λ ls. ls ++ l ∷ []) k.steps;
  done = p.done ∙ (λ i. k.done i ++ e i ∷ []);
  number = p.number;
  good = (λ i. conclude (sym k.theory i) (sym k.done i) l) ∙ p.good ∙ ap Ok e;
  atoms = p.atoms ∙ k.atoms;
}

pub added : (a b c : Book) (l : Step) (s t : Statement) (r : Result ℕ Memory) → KeepsLines a b → s ≡ t → IfOk r (λ n. Adds b c n l s) → IfOk r (λ n. Adds a c n l t)
added a b c l s t (Ok n) k e p = adds_after a b c n l s t k p e
added a b c l s t (Err m) k e p = tt

pub not_added : (a b c : Book) (r : Result ℕ Memory) → KeepsLines a b → OnErr r (c ≡ b) → OnErr r (KeepsLines a c)
not_added a b c (Ok n) k p = tt
not_added a b c (Err m) k p = rw p k

-- a line of any kind

line_leads : (a b : Book) (l : Line) (s : Statement) → KeepsLines a b → IsLineIn a.trees l → MayConclude a (step_of a.trees l) s → MayConclude b (step_of b.trees l) s
line_leads a b l s k h e = (λ i. conclude (k.theory i) (k.done i) (step_of-extends a.trees b.trees l k.trees h i)) ∙ e

pub line_good : (a b : Book) (l : Line) (s : Stmt) → KeepsLines a b → IsLineIn a.trees l → MayConclude a (step_of a.trees l) (statement_of b.trees s) → MayConclude b (step_of b.trees l) (statement_of b.trees s)
line_good a b l s k h e = line_leads a b l (statement_of b.trees s) k h e

ok-same : (s t : Statement) (r : Result Statement BadCause) → r ≡ Ok s → r ≡ Ok t → s ≡ t
ok-same s t (Ok x) e f = cc
ok-same s t (Err x) e f = cc

pub line_adds : (a b c : Book) (l : Line) (s : Stmt) (r : Result ℕ Memory) → KeepsLines a b → IsLineIn a.trees l → MayConclude a (step_of a.trees l) (statement_of b.trees s)
    → IfOk r (λ n. Adds b c n (step_of b.trees l) (statement_of b.trees s)) → IfOk r (λ n. (t : Statement) → MayConclude a (step_of a.trees l) t → Adds a c n (step_of a.trees l) t)
line_adds a b c l s (Err m) k h e p = tt
line_adds a b c l s (Ok n) k h e p =
    λ t f. adds_after a b c n (step_of a.trees l) (statement_of b.trees s) t k (subst (λ (x : Step). Adds b c n x (statement_of b.trees s)) (step_of-extends a.trees b.trees l k.trees h) p) (ok-same (statement_of b.trees s) t _ e f)

-- the trees of both equations are those of the first line, and all are of one sort
subst_good : (th : Theory) (done : List Statement) (i j k : ℕ) (a : Statement) (x y : Tree) → line_at done i ≡ Some a → line_at done j ≡ Some (equal a.lhs x) → line_at done k ≡ Some (equal a.rhs y) → sort_of_tree a.lhs ≡ a.sort → sort_of_tree a.rhs ≡ a.sort
    → conclude th done (Subst i j k) ≡ Ok (related a.rel a.sort x y)
subst_good th done i j k a x y p q r s t = rw (p, q, r, s, t, sort_same-self a.sort, tree_same-self a.lhs, tree_same-self a.rhs) refl

there-is : (o : Option Statement) → IsSome o → o ≡ Some (stated o)
there-is None e = cc
there-is (Some s) e = refl

pub fact-there : (b : Book) (i : ℕ) → IsThere b i → line_at b.done i ≡ Some (fact b i)
unfolding fact
fact-there b i h = there-is (line_at b.done i) h

pub subst_line : (b : Book) (i j k : ℕ) (x y z s : Stmt) → IsThere b i → IsEquation b j → IsEquation b k → left_at b j ≡ left_at b i → left_at b k ≡ right_at b i → IsStatement b.theory.declarations (fact b i)
    → statement_of b.trees x ≡ fact b i → statement_of b.trees y ≡ fact b j → statement_of b.trees z ≡ fact b k → statement_of b.trees s ≡ related x.rel x.sort (tree_of b.trees y.rhs) (tree_of b.trees z.rhs)
    → conclude b.theory b.done (Subst i j k) ≡ Ok (statement_of b.trees s)
subst_line b i j k x y z s p q r m n h e f g is =
    subst_good b.theory b.done i j k (fact b i) (right_at b j) (right_at b k) (fact-there b i p)
    (q.line ∙ ap (λ t. Some (equal t (right_at b j))) m) (r.line ∙ ap (λ t. Some (equal t (right_at b k))) n) h.left_sort h.right_sort
    ∙ ap Ok (sym (is ∙ (λ o. related (e o).rel (e o).sort (f o).rhs (g o).rhs)))
