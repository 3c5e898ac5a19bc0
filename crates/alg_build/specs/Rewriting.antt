-- When a tree is rewritten to another.
use Rattle.std.specs.Prelude.{◌≡◌, ℕ, ◌+◌, ◌≤◌, ◌^◌, true, List, map, [], ◌∷◌, Option, Some, None, ⊤}
use Rattle.alg_terms.specs.declared.sorts.Sort.{Sort}
use Rattle.alg_terms.specs.declared.symbols.Sym.{Sym}
use Rattle.alg_terms.specs.declared.relations.Rel.TheVariants.{Eq}
use Rattle.alg_terms.specs.Tree.{Tree, App, Cons, Nil, of_list, sort_of_tree, node_count}
use Rattle.alg_expr.specs.declared.ids.ExprId.{ExprId}
use Rattle.alg_expr.specs.declared.ids.Stmt.{Stmt}
use Rattle.alg_expr.specs.Ids.{tree_of, IsIn}
use Rattle.alg_law.specs.declared.marks.Mark.TheVariants.{Good}
use Rattle.alg_law.specs.WellSorted.{IsWellSorted, head_mark, has_relation}
use Rattle.alg_law.specs.Derivations.{related}
use Rattle.alg_build.specs.Book.{Book, Concludes, Proves}
use Rattle.alg_build.specs.declared.rewriting.Rewriting.{Rewriting}

-- the line concludes that the trees are equal, or there is none and they are one
abbrev pub Says : Book → Option ℕ → Tree → Tree → Type 0
Says b None t u = t ≡ u
Says b (Some i) t u = Proves b i t u

-- trees of a sort, of which the first equals the second, the one that it is rewritten to
pub record Turns (b : Book) (s : Sort) (r : Rewriting) (t u : Tree) : Type 0 where
  pub here : IsIn b.trees r.to
  pub tree : tree_of b.trees r.to ≡ u
  pub says : Says b r.line t u
  pub sorted : IsWellSorted b.theory.declarations u
  pub left : sort_of_tree t ≡ s
  pub right : sort_of_tree u ≡ s

-- the id stands for this tree, which is well sorted and of this sort
pub record Stands (b : Book) (s : Sort) (e : ExprId) (t : Tree) : Type 0 where
  pub here : IsIn b.trees e
  pub tree : tree_of b.trees e ≡ t
  pub sorted : IsWellSorted b.theory.declarations t
  pub sort : sort_of_tree t ≡ s

-- the symbol may stand over trees of these sorts
pub record Heads (b : Book) (f : Sym) (s : Sort) (ts : List Sort) : Type 0 where
  pub good : head_mark b.theory.declarations f s ts ≡ Good

-- what the calls ask for, with the trees that nobody has to name

pub record IsTerm (b : Book) (e : ExprId) : Type 0 where
  pub sort : Sort
  pub tree : Tree
  pub stands : Stands b sort e tree

pub record IsRewriting (b : Book) (r : Rewriting) : Type 0 where
  pub sort : Sort
  pub from : Tree
  pub into : Tree
  pub turns : Turns b sort r from into

-- a rewriting of a tree of this sort
pub record TurnsIn (b : Book) (s : Sort) (r : Rewriting) : Type 0 where
  pub from : Tree
  pub into : Tree
  pub turns : Turns b s r from into

-- the line concludes an equation
pub record IsProved (b : Book) (line : ℕ) : Type 0 where
  pub from : Tree
  pub into : Tree
  pub proves : Proves b line from into

-- the second goes on where the first ends
pub record Follows (b : Book) (r s : Rewriting) : Type 0 where
  pub sort : Sort
  pub from : Tree
  pub by : Tree
  pub into : Tree
  pub first : Turns b sort r from by
  pub second : Turns b sort s by into

-- the rewriting begins at the tree of the id
pub record Begins (b : Book) (e : ExprId) (r : Rewriting) : Type 0 where
  pub sort : Sort
  pub from : Tree
  pub into : Tree
  pub stands : Stands b sort e from
  pub turns : Turns b sort r from into

-- the symbol may stand over the tree that is rewritten
pub record StandsOverOne (b : Book) (f : Sym) (sort : Sort) (r : Rewriting) : Type 0 where
  pub from_sort : Sort
  pub from : Tree
  pub into : Tree
  pub turns : Turns b from_sort r from into
  pub heads : Heads b f sort (from_sort ∷ [])

-- the symbol may stand over the trees that are rewritten
pub record StandsOver (b : Book) (f : Sym) (sort : Sort) (r s : Rewriting) : Type 0 where
  pub left_sort : Sort
  pub right_sort : Sort
  pub from_left : Tree
  pub from_right : Tree
  pub into_left : Tree
  pub into_right : Tree
  pub left : Turns b left_sort r from_left into_left
  pub right : Turns b right_sort s from_right into_right
  pub heads : Heads b f sort (left_sort ∷ right_sort ∷ [])

abbrev pub over : Sym → Sort → Tree → Tree → Tree
over f s x y = App f s (Cons x (Cons y Nil))

-- each tree turns into the other of its place
abbrev pub AllTurn : Book → List Sort → List Rewriting → List Tree → List Tree → Type 0
AllTurn b [] [] [] [] = ⊤
AllTurn b (s ∷ ss) (r ∷ rs) (t ∷ ts) (u ∷ us) = Turns b s r t u × AllTurn b ss rs ts us
AllTurn b _ _ _ _ = ⊥

-- the lines conclude that the trees are equal, each with the one of its place
abbrev pub AllProve : Book → List ℕ → List Tree → List Tree → Type 0
AllProve b [] [] [] = ⊤
AllProve b (i ∷ is) (t ∷ ts) (u ∷ us) = Proves b i t u × AllProve b is ts us
AllProve b _ _ _ = ⊥

-- the symbol may stand over the left sides of these lines
pub record CanStand (b : Book) (f : Sym) (is : List ℕ) : Type 0 where
  pub sort : Sort
  pub from : List Tree
  pub into : List Tree
  pub prove : AllProve b is from into
  pub heads : Heads b f sort (map sort_of_tree from)

-- the parts of a tree that is the symbol over them
pub record PartsTurn (b : Book) (e : ExprId) (f : Sym) (rs : List Rewriting) : Type 0 where
  pub sort : Sort
  pub sorts : List Sort
  pub from : List Tree
  pub into : List Tree
  pub stands : Stands b sort e (App f sort (of_list from))
  pub turn : AllTurn b sorts rs from into
  pub heads : Heads b f sort sorts

-- an equation, both sides of which are rewritten to one tree
pub record Meet (b : Book) (goal : Stmt) (r q : Rewriting) : Type 0 where
  pub from_left : Tree
  pub from_right : Tree
  pub into : Tree
  pub rel : goal.rel ≡ Eq
  pub left : Stands b goal.sort goal.lhs from_left
  pub right : Stands b goal.sort goal.rhs from_right
  pub left_turns : Turns b goal.sort r from_left into
  pub right_turns : Turns b goal.sort q from_right into

-- the line relates the trees to which the sides of the goal are rewritten as the goal relates its sides
pub record Relates (b : Book) (goal : Stmt) (r q : Rewriting) (line : ℕ) : Type 0 where
  pub from_left : Tree
  pub from_right : Tree
  pub into_left : Tree
  pub into_right : Tree
  pub left : Stands b goal.sort goal.lhs from_left
  pub right : Stands b goal.sort goal.rhs from_right
  pub left_turns : Turns b goal.sort r from_left into_left
  pub right_turns : Turns b goal.sort q from_right into_right
  pub relation : Concludes b line (related goal.rel goal.sort into_left into_right)

-- the trees to which the sides of the goal are rewritten make a statement that isn't too large
pub record Remains (b : Book) (goal : Stmt) (r q : Rewriting) : Type 0 where
  pub from_left : Tree
  pub from_right : Tree
  pub into_left : Tree
  pub into_right : Tree
  pub left : Stands b goal.sort goal.lhs from_left
  pub right : Stands b goal.sort goal.rhs from_right
  pub left_turns : Turns b goal.sort r from_left into_left
  pub right_turns : Turns b goal.sort q from_right into_right
  pub related : has_relation b.theory.declarations goal.rel goal.sort ≡ true
  pub small : node_count into_left + node_count into_right ≤ 2 ^ 20
