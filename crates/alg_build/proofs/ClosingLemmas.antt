-- A goal from the rewritings of its sides.
use Rattle.std.proofs.Common.{◌≡◌, ℕ, refl, sym, ◌∙◌, subst, None}
use Rattle.alg_terms.specs.declared.sorts.Sort.{Sort}
use Rattle.alg_terms.specs.Tree.{Tree, Statement, equal}
use Rattle.alg_expr.specs.declared.ids.Stmt.{Stmt}
use Rattle.alg_expr.specs.Ids.{tree_of, statement_of}
use Rattle.alg_law.specs.Derivations.{related}
use Rattle.alg_proof.specs.Steps.{Step}
use Rattle.alg_law.specs.WellSorted.{IsStatement}
use Rattle.alg_build.specs.Answer.{Leaves, IsLeft}
use Rattle.alg_build.specs.Backs.{Rewrites}
use Rattle.alg_build.specs.declared.outcome.Back.TheVariants as back
use Rattle.alg_build.specs.Book.{Book, Concludes, Proves, Grows, Adds, IsThere, IsEquation, fact, left_at, right_at}
use Rattle.alg_build.specs.declared.rewriting.Rewriting.{Rewriting}
use Rattle.alg_build.specs.Rewriting.{Turns, Stands, Meet, Relates, Remains}
use Rattle.alg_build.proofs.Lines.{adds-concludes, grows-proves, grows-then}
use Rattle.alg_build.proofs.Leading.{concludes-grows, replaced_there, replaced_left, replaced_right, replaced_left_same, replaced_right_same, replaced_is}
use Rattle.alg_build.proofs.Rewritings.{turns-same, grows-stands, grows-turns}

-- an equation of ids is the goal
pub meets-goal : (a b : Book) (g : Stmt) (r q : Rewriting) (n : ℕ) (m : Meet a g r q) → Proves b n m.from_left m.from_right → Concludes b n (statement_of a.trees g)
meets-goal a b g r q n m p =
    let same : equal m.from_left m.from_right ≡ statement_of a.trees g = λ i. record { rel = sym m.rel i; sort = m.left.sort i; lhs = sym m.left.tree i; rhs = sym m.right.tree i } in
    subst (λ (s : Statement). Concludes b n s) same (record { line = p.line })

-- neither side changes
pub relates-same : (a : Book) (g : Stmt) (r q : Rewriting) (line : ℕ) → Relates a g r q line → r.line ≡ None → q.line ≡ None → Concludes a line (statement_of a.trees g)
relates-same a g r q line m e f =
    let l : m.into_left ≡ tree_of a.trees g.lhs = sym (turns-same a g.sort r m.from_left m.into_left m.left_turns e) ∙ sym m.left.tree in
    let k : m.into_right ≡ tree_of a.trees g.rhs = sym (turns-same a g.sort q m.from_right m.into_right m.right_turns f) ∙ sym m.right.tree in
    let same : related g.rel g.sort m.into_left m.into_right ≡ statement_of a.trees g = λ i. related g.rel g.sort (l i) (k i) in
    subst (λ (s : Statement). Concludes a line s) same m.relation

-- the lines back are made one after another, and then the relation goes back over them
module _ (a b c : Book) (g : Stmt) (r q : Rewriting) (line i j : ℕ) (m : Relates a g r q line) (one : Grows a b) (two : Grows b c)
    (p : (t : Sort) (x y : Tree) → Stands a t g.lhs x → Turns a t r x y → Proves b i y x) (k : (t : Sort) (x y : Tree) → Stands b t g.rhs x → Turns b t q x y → Proves c j y x) where
  abbrev before : Statement
  before = related g.rel g.sort m.into_left m.into_right

  abbrev after : Statement
  after = related g.rel g.sort m.from_left m.from_right

  here : Concludes c line before
  here = concludes-grows a c line before (grows-then a b c one two) m.relation

  left : Proves c i m.into_left m.from_left
  left = grows-proves b c i m.into_left m.from_left two (p g.sort m.from_left m.into_left m.left m.left_turns)

  right : Proves c j m.into_right m.from_right
  right = k g.sort m.from_right m.into_right (grows-stands a b one g.sort g.rhs m.from_right m.right) (grows-turns a b one g.sort q m.from_right m.into_right m.right_turns)

  pub relates_there : IsThere c line
  relates_there = replaced_there c line i j after before here left right

  pub relates_left : IsEquation c i
  relates_left = replaced_left c line i j after before here left right

  pub relates_right : IsEquation c j
  relates_right = replaced_right c line i j after before here left right

  pub relates_left_same : left_at c i ≡ left_at c line
  relates_left_same = replaced_left_same c line i j after before here left right

  pub relates_right_same : left_at c j ≡ right_at c line
  relates_right_same = replaced_right_same c line i j after before here left right

  pub relates_ends : (d : Book) (x : ℕ) (u : Step) → Adds c d x u (related (fact c line).rel (fact c line).sort (right_at c i) (right_at c j)) → Concludes d x (statement_of a.trees g)
  relates_ends d x u w =
      let whole = replaced_is c line i j after before here left right refl refl in
      let same : after ≡ statement_of a.trees g = λ n. related g.rel g.sort (sym m.left.tree n) (sym m.right.tree n) in
      subst (λ (s : Statement). Concludes d x s) same (adds-concludes c d x u after (subst (λ (v : Statement). Adds c d x u v) whole w))

-- what remains of the goal leads back to it
module _ (a b c : Book) (g : Stmt) (r q : Rewriting) (i j : ℕ) (m : Remains a g r q) (one : Grows a b) (two : Grows b c)
    (p : (t : Sort) (x y : Tree) → Turns a t r x y → Proves b i x y) (k : (t : Sort) (x y : Tree) → Turns b t q x y → Proves c j x y) where
  abbrev rest : Stmt
  rest = record { rel = g.rel; sort = g.sort; lhs = r.to; rhs = q.to }

  whole : Grows a c
  whole = grows-then a b c one two

  to_left : Turns c g.sort r m.from_left m.into_left
  to_left = grows-turns a c whole g.sort r m.from_left m.into_left m.left_turns

  to_right : Turns c g.sort q m.from_right m.into_right
  to_right = grows-turns a c whole g.sort q m.from_right m.into_right m.right_turns

  is_rest : statement_of c.trees rest ≡ related g.rel g.sort m.into_left m.into_right
  is_rest = λ n. related g.rel g.sort (to_left.tree n) (to_right.tree n)

  fine : IsStatement c.theory.declarations (related g.rel g.sort m.into_left m.into_right)
  fine = record { left = to_left.sorted; right = to_right.sorted; left_sort = to_left.right; right_sort = to_right.right; related = rw whole.theory m.related }

  leads_back : Rewrites c i j (statement_of a.trees g) (related g.rel g.sort m.into_left m.into_right)
  leads_back = record {
    rel = refl;
    sort = refl;
    left = rw m.left.tree (grows-proves b c i m.from_left m.into_left two (p g.sort m.from_left m.into_left m.left_turns));
    right = rw m.right.tree (k g.sort m.from_right m.into_right (grows-turns a b one g.sort q m.from_right m.into_right m.right_turns));
  }

  pub remains-left : IsLeft c rest (back.Rewrite i j) (statement_of a.trees g)
  remains-left = record {
    here = (to_left.here, to_right.here);
    sorted = rw is_rest fine;
    small = rw (to_left.tree, to_right.tree) m.small;
    leads = rw is_rest leads_back;
  }

  pub remains-gives : (t u v w : Tree) → Turns a g.sort r t u → Turns a g.sort q v w → Leaves (related g.rel g.sort u w) ≡ Leaves (statement_of c.trees rest)
  remains-gives t u v w x y =
      let f = (grows-turns a c whole g.sort r t u x).tree in
      let h = (grows-turns a c whole g.sort q v w y).tree in
      λ n. Leaves (related g.rel g.sort (sym f n) (sym h n))
