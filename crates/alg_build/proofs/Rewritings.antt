-- Rewritings as the book grows, and what their lines tell.
use Rattle.std.proofs.Common.{◌≡◌, ℕ, ◌+◌, ◌≤◌, ◌^◌, List, [], ◌∷◌, refl, ap, sym, ◌∙◌, Some, None, true}
use Rattle.std.specs.Prelude.{Option}
use Rattle.alg_terms.specs.declared.sorts.Sort.{Sort}
use Rattle.alg_terms.specs.declared.symbols.Sym.{Sym}
use Rattle.alg_terms.specs.declared.relations.Rel.TheVariants.{Eq}
use Rattle.alg_terms.specs.Tree.{Tree, App, Statement, equal, node_count, of_list, sort_of_tree}
use Rattle.alg_expr.specs.declared.ids.ExprId.{ExprId}
use Rattle.alg_expr.specs.declared.ids.Stmt.{Stmt}
use Rattle.alg_expr.specs.Ids.{tree_of, statement_of, IsStatementIn}
use Rattle.alg_expr.proofs.ArenaLaws.{IsIn-extends, tree_of-extends}
use Rattle.alg_expr.specs.Applying.{sorts_fit}
use Rattle.alg_build.proofs.Fitting.{fits}
use Rattle.alg_law.specs.Derivations.{related}
use Rattle.alg_law.specs.WellSorted.{IsWellSorted, has_relation}
use Rattle.alg_proof.specs.Admissible.{IsFine}
use Rattle.alg_proof.specs.Steps.{Step}
use Rattle.alg_build.specs.Book.{Book, Concludes, Grows, Proves, Adds, IsThere, IsEquation, fact, left_at, right_at}
use Rattle.alg_build.proofs.Lines.{lines, grows-proves, adds-proves, adds-grows, proves-equation, proves-fact, proves-left, proves-right}
use Rattle.alg_build.specs.declared.rewriting.Rewriting.{Rewriting}
use Rattle.alg_build.specs.Rewriting.{Says, Turns, TurnsIn, Stands, Heads, IsTerm, IsProved, IsRewriting, Follows, Begins, StandsOver, StandsOverOne, Meet, Relates, Remains, PartsTurn, AllTurn}

-- growth

grows-says : (a b : Book) (o : Option ℕ) (t u : Tree) → Grows a b → Says a o t u → Says b o t u
grows-says a b None t u g h = h
grows-says a b (Some i) t u g h = grows-proves a b i t u g h

pub grows-sorted : (a b : Book) (t : Tree) → Grows a b → IsWellSorted a.theory.declarations t → IsWellSorted b.theory.declarations t
grows-sorted a b t g h = rw g.theory h

module _ (a b : Book) (g : Grows a b) where
  pub grows-turns : (s : Sort) (r : Rewriting) (t u : Tree) → Turns a s r t u → Turns b s r t u
  grows-turns s r t u h = record {
    here = IsIn-extends a.trees b.trees r.to g.trees h.here;
    tree = tree_of-extends a.trees b.trees r.to g.trees h.here ∙ h.tree;
    says = grows-says a b r.line t u g h.says;
    sorted = grows-sorted a b u g h.sorted;
    left = h.left;
    right = h.right;
  }

  pub grows-stands : (s : Sort) (e : ExprId) (t : Tree) → Stands a s e t → Stands b s e t
  grows-stands s e t h = record {
    here = IsIn-extends a.trees b.trees e g.trees h.here;
    tree = tree_of-extends a.trees b.trees e g.trees h.here ∙ h.tree;
    sorted = grows-sorted a b t g h.sorted;
    sort = h.sort;
  }

pub grows-heads : (a b : Book) (f : Sym) (s : Sort) (ts : List Sort) → Grows a b → Heads a f s ts → Heads b f s ts
grows-heads a b f s ts g h = record { good = rw g.theory h.good }

-- the line of a rewriting

says-some : (b : Book) (o : Option ℕ) (t u : Tree) (i : ℕ) → o ≡ Some i → Says b o t u → Proves b i t u
says-some b None t u i e h = cc
says-some b (Some j) t u i e h =
    let same : j ≡ i = cc in
    rw (← same) h

says-none : (b : Book) (o : Option ℕ) (t u : Tree) → o ≡ None → Says b o t u → t ≡ u
says-none b None t u e h = h
says-none b (Some j) t u e h = cc

module _ (b : Book) (s : Sort) (r : Rewriting) (t u : Tree) where
  pub turns-same : Turns b s r t u → r.line ≡ None → t ≡ u
  turns-same h e = says-none b r.line t u e h.says

  module _ (i : ℕ) (h : Turns b s r t u) (e : r.line ≡ Some i) where
    pub turns-proves : Proves b i t u
    turns-proves = says-some b r.line t u i e h.says

    pub its_equation : IsEquation b i
    its_equation = proves-equation b i t u turns-proves

    pub its_left : left_at b i ≡ t
    its_left = proves-left b i t u turns-proves

    pub its_right : right_at b i ≡ u
    its_right = proves-right b i t u turns-proves

pub proves-there : (b : Book) (i : ℕ) (x y : Tree) → Proves b i x y → IsThere b i
proves-there b i x y p = rw p.line refl

-- new rewritings

module _ (a b : Book) (s : Sort) (n : ℕ) (l : Step) (x y t u : Tree) (e : ExprId) (p : Adds a b n l (equal x y)) where
  pub added : x ≡ t → y ≡ u → Stands a s e u → sort_of_tree t ≡ s → Turns b s (record { to = e; line = Some n }) t u
  added q k h m =
      let g = adds-grows a b n l (equal x y) p in
      let w = grows-stands a b g s e u h in
      record { here = w.here; tree = w.tree; says = rw (← q, ← k) (adds-proves a b n l x y p); sorted = w.sorted; left = m; right = h.sort }

-- the right side of what a line concludes, and the line
pub concluded : (b : Book) (n : ℕ) (t u : Tree) (m : Stmt) → Proves b n t u → IsStatementIn b.trees m → statement_of b.trees m ≡ fact b n → IsFine b.theory.declarations b.theory.given (fact b n) → Turns b (sort_of_tree t) (record { to = m.rhs; line = Some n }) t u
concluded b n t u m p here e fine =
    let q : fact b n ≡ equal t u = proves-fact b n t u p in
    let f : IsFine b.theory.declarations b.theory.given (equal t u) = rw (← q) fine in
    record { here = here.1; tree = ap (λ (s : Statement). s.rhs) (e ∙ q); says = p; sorted = f.statement.right; left = refl; right = f.statement.right_sort ∙ sym f.statement.left_sort }

pub as_sort : (b : Book) (s t : Sort) (r : Rewriting) (x y : Tree) → s ≡ t → Turns b t r x y → Turns b s r x y
as_sort b s t r x y e h = rw e h

pub target : (b : Book) (s : Sort) (r : Rewriting) (t u : Tree) → Turns b s r t u → Stands b s r.to u
target b s r t u h = record { here = h.here; tree = h.tree; sorted = h.sorted; sort = h.right }

-- what calls ask for

module _ (b : Book) where
  pub is-term : (s : Sort) (e : ExprId) (t : Tree) → Stands b s e t → IsTerm b e
  is-term s e t h = record { sort = s; tree = t; stands = h }

  pub is-rewriting : (s : Sort) (r : Rewriting) (t u : Tree) → Turns b s r t u → IsRewriting b r
  is-rewriting s r t u h = record { sort = s; from = t; into = u; turns = h }

  pub turns-in : (s : Sort) (r : Rewriting) (t u : Tree) → Turns b s r t u → TurnsIn b s r
  turns-in s r t u h = record { from = t; into = u; turns = h }

  pub is-proved : (line : ℕ) (t u : Tree) → Proves b line t u → IsProved b line
  is-proved line t u h = record { from = t; into = u; proves = h }

  pub stands-over_one : (f : Sym) (sort s : Sort) (r : Rewriting) (x y : Tree) → Turns b s r x y → Heads b f sort (s ∷ []) → StandsOverOne b f sort r
  stands-over_one f sort s r x y h k = record { from_sort = s; from = x; into = y; turns = h; heads = k }

  pub follows : (s : Sort) (r q : Rewriting) (x y z : Tree) → Turns b s r x y → Turns b s q y z → Follows b r q
  follows s r q x y z h k = record { sort = s; from = x; by = y; into = z; first = h; second = k }

  pub begins : (s : Sort) (e : ExprId) (r : Rewriting) (x y : Tree) → Stands b s e x → Turns b s r x y → Begins b e r
  begins s e r x y h k = record { sort = s; from = x; into = y; stands = h; turns = k }

  pub stands-over : (f : Sym) (sort s t : Sort) (r q : Rewriting) (x y z w : Tree) → Turns b s r x y → Turns b t q z w → Heads b f sort (s ∷ t ∷ []) → StandsOver b f sort r q
  stands-over f sort s t r q x y z w h k m = record { left_sort = s; right_sort = t; from_left = x; from_right = z; into_left = y; into_right = w; left = h; right = k; heads = m }

  pub meets : (g : Stmt) (r q : Rewriting) (x y z : Tree) → g.rel ≡ Eq → Stands b g.sort g.lhs x → Stands b g.sort g.rhs y → Turns b g.sort r x z → Turns b g.sort q y z → Meet b g r q
  meets g r q x y z e h k m n = record { from_left = x; from_right = y; into = z; rel = e; left = h; right = k; left_turns = m; right_turns = n }

  pub relates : (g : Stmt) (r q : Rewriting) (line : ℕ) (x y z w : Tree) → Stands b g.sort g.lhs x → Stands b g.sort g.rhs y → Turns b g.sort r x z → Turns b g.sort q y w → Concludes b line (related g.rel g.sort z w) → Relates b g r q line
  relates g r q line x y z w h k m n p = record { from_left = x; from_right = y; into_left = z; into_right = w; left = h; right = k; left_turns = m; right_turns = n; relation = p }

  pub remains : (g : Stmt) (r q : Rewriting) (x y z w : Tree) → Stands b g.sort g.lhs x → Stands b g.sort g.rhs y → Turns b g.sort r x z → Turns b g.sort q y w → has_relation b.theory.declarations g.rel g.sort ≡ true → node_count z + node_count w ≤ 2 ^ 20 → Remains b g r q
  remains g r q x y z w h k m n p l = record { from_left = x; from_right = y; into_left = z; into_right = w; left = h; right = k; left_turns = m; right_turns = n; related = p; small = l }

  pub parts-turn : (e : ExprId) (f : Sym) (rs : List Rewriting) (s : Sort) (ss : List Sort) (xs ys : List Tree) → Stands b s e (App f s (of_list xs)) → AllTurn b ss rs xs ys → Heads b f s ss → PartsTurn b e f rs
  parts-turn e f rs s ss xs ys h k m = record { sort = s; sorts = ss; from = xs; into = ys; stands = h; turn = k; heads = m }

module _ (a b : Book) (g : Grows a b) where
  pub grows-term : (e : ExprId) → IsTerm a e → IsTerm b e
  grows-term e h = record { sort = h.sort; tree = h.tree; stands = grows-stands a b g h.sort e h.tree h.stands }

  pub grows-rewriting : (r : Rewriting) → IsRewriting a r → IsRewriting b r
  grows-rewriting r h = record { sort = h.sort; from = h.from; into = h.into; turns = grows-turns a b g h.sort r h.from h.into h.turns }

-- the arena takes the trees that two rewritings lead to, where the symbol may stand over the first ones
pub sorts_stay : (b : Book) (f : Sym) (sort : Sort) (r q : Rewriting) → StandsOver b f sort r q → sorts_fit f sort (sort_of_tree (tree_of b.trees r.to) ∷ sort_of_tree (tree_of b.trees q.to) ∷ []) ≡ true
sorts_stay b f sort r q h =
    ap (sorts_fit f sort) (λ i. (ap sort_of_tree h.left.tree ∙ h.left.right) i ∷ (ap sort_of_tree h.right.tree ∙ h.right.right) i ∷ [])
    ∙ (fits b.theory.declarations f sort (h.left_sort ∷ h.right_sort ∷ []) h.heads.good).sorts

pub ruleset rewritings = (lines, grows-turns, grows-stands, grows-heads, turns-proves, concluded, target, sorts_stay, is-term, is-rewriting, turns-in, is-proved, stands-over_one, follows, begins, stands-over, grows-term, grows-rewriting)

-- and what the calls ask for that end a goal or go under any number of parts
pub ruleset endings = (rewritings, meets, relates, remains, parts-turn)
