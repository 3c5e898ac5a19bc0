-- The line of a symbol over any number of parts.
use Rattle.std.proofs.Common.{◌≡◌, ℕ, ◌+◌, ◌<◌, List, [], ◌∷◌, ◌++◌, length, get_or, take, map, refl, ap, sym, subst, ◌∙◌, None, Ok, Err, All}
use Rattle.std.specs.Prelude.{Result, IfOk}
use Rattle.alg_expr.specs.declared.memory.Memory.{Memory}
use Rattle.alg_expr.specs.declared.ids.ExprId.{ExprId}
use Rattle.std.proofs.lemmas.List.{take_more}
use Rattle.std.proofs.lemmas.List.Elements.{All-nil, All-cons, All-head, All-tail}
use Rattle.alg_terms.specs.declared.sorts.Sort.{Sort}
use Rattle.alg_terms.specs.declared.symbols.Sym.{Sym}
use Rattle.alg_terms.specs.Tree.{Tree, App, Cons, of_list, equal, sort_of_tree}
use Rattle.alg_law.specs.declared.marks.Mark.TheVariants.{Good}
use Rattle.alg_law.specs.WellSorted.{head_mark, sorts_of}
use Rattle.alg_proof.specs.Steps.{Cong}
use Rattle.alg_build.specs.Book.{Book, Grows, Adds, Proves, IsThere, IsEquation, lefts_at, rights_at}
use Rattle.alg_build.proofs.Lines.{adds-proves, grows-proves, proves-equation, proves-left, proves-right}
use Rattle.alg_build.specs.declared.rewriting.Rewriting.{Rewriting}
use Rattle.alg_build.specs.Rewriting.{AllProve, AllTurn, Heads, IsRewriting, Stands, Turns, CanStand}
use Rattle.alg_build.proofs.Rewritings.{rewritings, grows-heads, grows-turns, turns-same, is-rewriting}
use Rattle.alg_build.proofs.RowLines.{adds-there}

pub grows-all-prove : (a b : Book) (is : List ℕ) (xs ys : List Tree) → Grows a b → AllProve a is xs ys → AllProve b is xs ys
grows-all-prove a b [] [] [] g h = tt
grows-all-prove a b [] [] (y ∷ ys) g h = absurd h
grows-all-prove a b [] (x ∷ xs) ys g h = absurd h
grows-all-prove a b (i ∷ is) [] ys g h = absurd h
grows-all-prove a b (i ∷ is) (x ∷ xs) [] g h = absurd h
grows-all-prove a b (i ∷ is) (x ∷ xs) (y ∷ ys) g h = (grows-proves a b i x y g h.0, grows-all-prove a b is xs ys g h.1)

pub grows-all-turn : (a b : Book) (ss : List Sort) (rs : List Rewriting) (xs ys : List Tree) → Grows a b → AllTurn a ss rs xs ys → AllTurn b ss rs xs ys
grows-all-turn a b [] [] [] [] g h = tt
grows-all-turn a b [] [] [] (y ∷ ys) g h = absurd h
grows-all-turn a b [] [] (x ∷ xs) ys g h = absurd h
grows-all-turn a b (s ∷ ss) [] xs ys g h = absurd h
grows-all-turn a b [] (r ∷ rs) xs ys g h = absurd h
grows-all-turn a b (s ∷ ss) (r ∷ rs) [] ys g h = absurd h
grows-all-turn a b (s ∷ ss) (r ∷ rs) (x ∷ xs) [] g h = absurd h
grows-all-turn a b (s ∷ ss) (r ∷ rs) (x ∷ xs) (y ∷ ys) g h = (grows-turns a b g s r x y h.0, grows-all-turn a b ss rs xs ys g h.1)

-- lists that turn, cut before the last

record Cut (a : Book) (rs : List Rewriting) (r : Rewriting) (xs ys : List Tree) : Type 0 where
  sorts : List Sort
  sort : Sort
  from : List Tree
  into : List Tree
  x : Tree
  y : Tree
  left : xs ≡ from ++ x ∷ []
  right : ys ≡ into ++ y ∷ []
  first : AllTurn a sorts rs from into
  last : Turns a sort r x y

cut-more : (a : Book) (s : Sort) (q : Rewriting) (x y : Tree) (rs : List Rewriting) (r : Rewriting) (xs ys : List Tree) → Turns a s q x y → Cut a rs r xs ys → Cut a (q ∷ rs) r (x ∷ xs) (y ∷ ys)
cut-more a s q x y rs r xs ys h c = record {
  sorts = s ∷ c.sorts;
  sort = c.sort;
  from = x ∷ c.from;
  into = y ∷ c.into;
  x = c.x;
  y = c.y;
  left = ap (λ l. x ∷ l) c.left;
  right = ap (λ l. y ∷ l) c.right;
  first = (h, c.first);
  last = c.last;
}

cut-one : (a : Book) (s : Sort) (r : Rewriting) (x y : Tree) → Turns a s r x y → Cut a [] r (x ∷ []) (y ∷ [])
cut-one a s r x y h = record { sorts = []; sort = s; from = []; into = []; x = x; y = y; left = refl; right = refl; first = tt; last = h }

one-turns : (a : Book) (ss : List Sort) (r : Rewriting) (xs ys : List Tree) → AllTurn a ss (r ∷ []) xs ys → Cut a [] r xs ys
one-turns a [] r xs ys h = absurd h
one-turns a (s ∷ ss) r [] ys h = absurd h
one-turns a (s ∷ ss) r (x ∷ xs) [] h = absurd h
one-turns a (s ∷ []) r (x ∷ []) (y ∷ []) h = cut-one a s r x y h.0
one-turns a (s ∷ []) r (x ∷ []) (y ∷ v ∷ ys) h = absurd h.1
one-turns a (s ∷ []) r (x ∷ u ∷ xs) (y ∷ ys) h = absurd h.1
one-turns a (s ∷ t ∷ ss) r (x ∷ xs) (y ∷ ys) h = absurd h.1

cut : (a : Book) (ss : List Sort) (rs : List Rewriting) (r : Rewriting) (xs ys : List Tree) → AllTurn a ss (rs ++ r ∷ []) xs ys → Cut a rs r xs ys
cut a ss [] r xs ys h = one-turns a ss r xs ys h
cut a [] (q ∷ rs) r xs ys h = absurd h
cut a (s ∷ ss) (q ∷ rs) r [] ys h = absurd h
cut a (s ∷ ss) (q ∷ rs) r (x ∷ xs) [] h = absurd h
cut a (s ∷ ss) (q ∷ rs) r (x ∷ xs) (y ∷ ys) h = cut-more a s q x y rs r xs ys h.0 (cut a ss rs r xs ys h.1)

all-prove-push : (b : Book) (is : List ℕ) (n : ℕ) (xs ys : List Tree) (x y : Tree) → AllProve b is xs ys → Proves b n x y → AllProve b (is ++ n ∷ []) (xs ++ x ∷ []) (ys ++ y ∷ [])
all-prove-push b [] n [] [] x y h p = (p, tt)
all-prove-push b [] n [] (v ∷ ys) x y h p = absurd h
all-prove-push b [] n (u ∷ xs) ys x y h p = absurd h
all-prove-push b (i ∷ is) n [] ys x y h p = absurd h
all-prove-push b (i ∷ is) n (u ∷ xs) [] x y h p = absurd h
all-prove-push b (i ∷ is) n (u ∷ xs) (v ∷ ys) x y h p = (h.0, all-prove-push b is n xs ys x y h.1 p)

-- one more part, and one more line
pub all-prove-more : (a b c : Book) (n : ℕ) (is : List ℕ) (rs : List Rewriting) (r : Rewriting) → Grows b c
    → ((ss : List Sort) (xs ys : List Tree) → AllTurn a ss rs xs ys → AllProve b is xs ys)
    → ((s : Sort) (x y : Tree) → Turns a s r x y → Proves c n x y)
    → (ss : List Sort) (xs ys : List Tree) → AllTurn a ss (rs ++ r ∷ []) xs ys → AllProve c (is ++ n ∷ []) xs ys
all-prove-more a b c n is rs r g p q ss xs ys h =
    let k = cut a ss rs r xs ys h in
    let f = grows-all-prove b c is k.from k.into g (p k.sorts k.from k.into k.first) in
    let w = all-prove-push c is n k.from k.into k.x k.y f (q k.sort k.x k.y k.last) in
    subst (λ (l : List Tree). AllProve c (is ++ n ∷ []) l ys) (sym k.left) (subst (λ (l : List Tree). AllProve c (is ++ n ∷ []) (k.from ++ k.x ∷ []) l) (sym k.right) w)

pub all-prove-same : (b : Book) (is js : List ℕ) (xs ys : List Tree) → is ≡ js → AllProve b js xs ys → AllProve b is xs ys
all-prove-same b is js xs ys e h = subst (λ (m : List ℕ). AllProve b m xs ys) (sym e) h

pub all-prove-next : (a b c : Book) (n : ℕ) (is js : List ℕ) (rs : List Rewriting) (i : ℕ) (d : Rewriting) → i < length rs → js ≡ is ++ n ∷ [] → Grows b c
    → ((ss : List Sort) (xs ys : List Tree) → AllTurn a ss (take i rs) xs ys → AllProve b is xs ys)
    → ((s : Sort) (x y : Tree) → Turns a s (get_or rs i d) x y → Proves c n x y)
    → (ss : List Sort) (xs ys : List Tree) → AllTurn a ss (take (i + 1) rs) xs ys → AllProve c js xs ys
all-prove-next a b c n is js rs i d l e g p q ss xs ys h =
    let k : AllTurn a ss (take i rs ++ get_or rs i d ∷ []) xs ys = subst (λ (r : List Rewriting). AllTurn a ss r xs ys) (take_more rs i d l) h in
    subst (λ (m : List ℕ). AllProve c m xs ys) (sym e) (all-prove-more a b c n is (take i rs) (get_or rs i d) g p q ss xs ys k)

pub all-prove-none : (a b : Book) (ss : List Sort) (xs ys : List Tree) → AllTurn a ss [] xs ys → AllProve b [] xs ys
all-prove-none a b [] [] [] h = tt
all-prove-none a b [] [] (y ∷ ys) h = absurd h
all-prove-none a b [] (x ∷ xs) ys h = absurd h
all-prove-none a b (s ∷ ss) xs ys h = absurd h

sorts_of-list : (xs : List Tree) → sorts_of (of_list xs) ≡ map sort_of_tree xs
sorts_of-list [] = refl
sorts_of-list (x ∷ xs) = ap (λ ss. sort_of_tree x ∷ ss) (sorts_of-list xs)

equations : (b : Book) (is : List ℕ) (xs ys : List Tree) → AllProve b is xs ys → All (IsEquation b) is
equations b [] [] [] h = All-nil (IsEquation b)
equations b [] [] (y ∷ ys) h = absurd h
equations b [] (x ∷ xs) ys h = absurd h
equations b (i ∷ is) [] ys h = absurd h
equations b (i ∷ is) (x ∷ xs) [] h = absurd h
equations b (i ∷ is) (x ∷ xs) (y ∷ ys) h = All-cons (IsEquation b) i is (proves-equation b i x y h.0) (equations b is xs ys h.1)

lefts : (b : Book) (is : List ℕ) (xs ys : List Tree) → AllProve b is xs ys → lefts_at b is ≡ of_list xs
lefts b [] [] [] h = refl
lefts b [] [] (y ∷ ys) h = absurd h
lefts b [] (x ∷ xs) ys h = absurd h
lefts b (i ∷ is) [] ys h = absurd h
lefts b (i ∷ is) (x ∷ xs) [] h = absurd h
lefts b (i ∷ is) (x ∷ xs) (y ∷ ys) h = λ k. Cons (proves-left b i x y h.0 k) (lefts b is xs ys h.1 k)

rights : (b : Book) (is : List ℕ) (xs ys : List Tree) → AllProve b is xs ys → rights_at b is ≡ of_list ys
rights b [] [] [] h = refl
rights b [] [] (y ∷ ys) h = absurd h
rights b [] (x ∷ xs) ys h = absurd h
rights b (i ∷ is) [] ys h = absurd h
rights b (i ∷ is) (x ∷ xs) [] h = absurd h
rights b (i ∷ is) (x ∷ xs) (y ∷ ys) h = λ k. Cons (proves-right b i x y h.0 k) (rights b is xs ys h.1 k)

module _ (b : Book) (f : Sym) (is : List ℕ) (xs ys : List Tree) (h : AllProve b is xs ys) where
  pub all_equations : All (IsEquation b) is
  all_equations = equations b is xs ys h

  module _ (s : Sort) (k : Heads b f s (map sort_of_tree xs)) where
    head : head_mark b.theory.declarations f s (sorts_of (lefts_at b is)) ≡ Good
    head = ap (λ ts. head_mark b.theory.declarations f s (sorts_of ts)) (lefts b is xs ys h) ∙ ap (head_mark b.theory.declarations f s) (sorts_of-list xs) ∙ k.good

    pub all_fit : (t : Sort) × (head_mark b.theory.declarations f t (sorts_of (lefts_at b is)) ≡ Good)
    all_fit = (s, head)

    module _ (c : Book) (n : ℕ) (add : (t : Sort) → head_mark b.theory.declarations f t (sorts_of (lefts_at b is)) ≡ Good → Adds b c n (Cong f is) (equal (App f t (lefts_at b is)) (App f t (rights_at b is)))) where
      pub all_there : IsThere c n
      all_there = adds-there _ _ _ _ _ (add s head)

      pub all_prove : Proves c n (App f s (of_list xs)) (App f s (of_list ys))
      all_prove =
          let same : equal (App f s (lefts_at b is)) (App f s (rights_at b is)) ≡ equal (App f s (of_list xs)) (App f s (of_list ys)) = λ i. equal (App f s (lefts b is xs ys h i)) (App f s (rights b is xs ys h i)) in
          adds-proves b c n (Cong f is) _ _ (rw (← same) (add s head))

pub all-same : (b : Book) (ss : List Sort) (rs : List Rewriting) (xs ys : List Tree) → All (λ (r : Rewriting). r.line ≡ None) rs → AllTurn b ss rs xs ys → xs ≡ ys
all-same b [] [] [] [] k h = refl
all-same b [] [] [] (y ∷ ys) k h = absurd h
all-same b [] [] (x ∷ xs) ys k h = absurd h
all-same b (s ∷ ss) [] xs ys k h = absurd h
all-same b [] (r ∷ rs) xs ys k h = absurd h
all-same b (s ∷ ss) (r ∷ rs) [] ys k h = absurd h
all-same b (s ∷ ss) (r ∷ rs) (x ∷ xs) [] k h = absurd h
all-same b (s ∷ ss) (r ∷ rs) (x ∷ xs) (y ∷ ys) k h =
    let p = turns-same b s r x y h.0 (All-head (λ (r : Rewriting). r.line ≡ None) r rs k) in
    let q = all-same b ss rs xs ys (All-tail (λ (r : Rewriting). r.line ≡ None) r rs k) h.1 in
    λ i. p i ∷ q i

pub all-rewriting : (b : Book) (ss : List Sort) (rs : List Rewriting) (xs ys : List Tree) → AllTurn b ss rs xs ys → All (IsRewriting b) rs
all-rewriting b [] [] [] [] h = All-nil (IsRewriting b)
all-rewriting b [] [] [] (y ∷ ys) h = absurd h
all-rewriting b [] [] (x ∷ xs) ys h = absurd h
all-rewriting b (s ∷ ss) [] xs ys h = absurd h
all-rewriting b [] (r ∷ rs) xs ys h = absurd h
all-rewriting b (s ∷ ss) (r ∷ rs) [] ys h = absurd h
all-rewriting b (s ∷ ss) (r ∷ rs) (x ∷ xs) [] h = absurd h
all-rewriting b (s ∷ ss) (r ∷ rs) (x ∷ xs) (y ∷ ys) h = All-cons (IsRewriting b) r rs (is-rewriting b s r x y h.0) (all-rewriting b ss rs xs ys h.1)

its-sorts : (b : Book) (ss : List Sort) (rs : List Rewriting) (xs ys : List Tree) → AllTurn b ss rs xs ys → map sort_of_tree xs ≡ ss
its-sorts b [] [] [] [] h = refl
its-sorts b [] [] [] (y ∷ ys) h = absurd h
its-sorts b [] [] (x ∷ xs) ys h = absurd h
its-sorts b (s ∷ ss) [] xs ys h = absurd h
its-sorts b [] (r ∷ rs) xs ys h = absurd h
its-sorts b (s ∷ ss) (r ∷ rs) [] ys h = absurd h
its-sorts b (s ∷ ss) (r ∷ rs) (x ∷ xs) [] h = absurd h
its-sorts b (s ∷ ss) (r ∷ rs) (x ∷ xs) (y ∷ ys) h =
    let q = its-sorts b ss rs xs ys h.1 in
    λ i. h.0.left i ∷ q i

heads-later : (a b : Book) (f : Sym) (s : Sort) (ss : List Sort) (rs : List Rewriting) (xs ys : List Tree) → Grows a b → AllTurn a ss rs xs ys → Heads a f s ss → Heads b f s (map sort_of_tree xs)
heads-later a b f s ss rs xs ys g h k = rw (its-sorts a ss rs xs ys h) (grows-heads a b f s ss g k)

pub kept-all : (b : Book) (e : ExprId) (f : Sym) (s : Sort) (ss : List Sort) (rs : List Rewriting) (xs ys : List Tree) → All (λ (r : Rewriting). r.line ≡ None) rs → Stands b s e (App f s (of_list xs)) → AllTurn b ss rs xs ys → Turns b s (record { to = e; line = None }) (App f s (of_list xs)) (App f s (of_list ys))
kept-all b e f s ss rs xs ys n h k =
    subst (λ (l : List Tree). Turns b s (record { to = e; line = None }) (App f s (of_list xs)) (App f s (of_list l))) (all-same b ss rs xs ys n k)
    (record { here = h.here; tree = h.tree; says = refl; sorted = h.sorted; left = refl; right = refl })

module _ (a b : Book) (f : Sym) (rs : List Rewriting) (is : List ℕ) (g : Grows a b) (p : (ss : List Sort) (xs ys : List Tree) → AllTurn a ss rs xs ys → AllProve b is xs ys) where
  pub can-stand : (s : Sort) (ss : List Sort) (xs ys : List Tree) → AllTurn a ss rs xs ys → Heads a f s ss → CanStand b f is
  can-stand s ss xs ys h k = record { sort = s; from = xs; into = ys; prove = p ss xs ys h; heads = heads-later a b f s ss rs xs ys g h k }

  pub all-later : (c : Book) (e : ExprId) (o : Result Rewriting Memory)
      → IfOk o (λ q. (s : Sort) → (xs ys : List Tree) → AllProve b is xs ys → Heads b f s (map sort_of_tree xs) → Turns c s q (App f s (of_list xs)) (App f s (of_list ys)))
      → IfOk o (λ q. (s : Sort) → (ss : List Sort) → (xs ys : List Tree) → Stands a s e (App f s (of_list xs)) → AllTurn a ss rs xs ys → Heads a f s ss → Turns c s q (App f s (of_list xs)) (App f s (of_list ys)))
  all-later c e (Ok q) h = λ s ss xs ys m k w. h s xs ys (p ss xs ys k) (heads-later a b f s ss rs xs ys g k w)
  all-later c e (Err m) h = tt

pub ruleset list_facts = (rewritings)
