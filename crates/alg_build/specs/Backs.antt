-- How a new goal leads back to the one that it was made of.
use Rattle.std.specs.Prelude.{◌≡◌, ℕ, List, [], ◌∷◌}
use Rattle.alg_terms.specs.declared.sorts.Sort.{Sort}
use Rattle.alg_terms.specs.declared.symbols.Sym.TheVariants.{Inv}
use Rattle.alg_terms.specs.declared.relations.Rel.TheVariants.{Eq}
use Rattle.alg_terms.specs.Tree.{Tree, App, Cons, Nil, Statement, product_tree}
use Rattle.alg_expr.specs.declared.ids.ExprId.{ExprId}
use Rattle.alg_expr.specs.Ids.{tree_of, IsIn}
use Rattle.alg_build.specs.declared.outcome.Back.{Back}
use Rattle.alg_build.specs.declared.outcome.Back.TheVariants as back
use Rattle.alg_law.specs.WellSorted.{IsWellSorted}
use Rattle.alg_build.specs.Book.{Book, Proves}

abbrev pub inverse_tree : Sort → Tree → Tree
inverse_tree s x = App Inv s (Cons x Nil)

-- the sides of the old goal are those of the new one
pub record Rewrites (b : Book) (i j : ℕ) (old new : Statement) : Type 0 where
  pub rel : new.rel ≡ old.rel
  pub sort : new.sort ≡ old.sort
  pub left : Proves b i old.lhs new.lhs
  pub right : Proves b j old.rhs new.rhs

-- both are equations, and the sides of the old goal times a tree, which goes away again, are those of the new one
pub record Scales (b : Book) (by : ExprId) (i j k l : ℕ) (old new : Statement) : Type 0 where
  pub here : IsIn b.trees by
  pub old_rel : old.rel ≡ Eq
  pub new_rel : new.rel ≡ Eq
  pub sort : new.sort ≡ old.sort
  pub left : Proves b i (product_tree old.sort old.lhs (tree_of b.trees by)) new.lhs
  pub right : Proves b j (product_tree old.sort old.rhs (tree_of b.trees by)) new.rhs
  pub back_left : Proves b k (product_tree old.sort (product_tree old.sort old.lhs (tree_of b.trees by)) (inverse_tree old.sort (tree_of b.trees by))) old.lhs
  pub back_right : Proves b l (product_tree old.sort (product_tree old.sort old.rhs (tree_of b.trees by)) (inverse_tree old.sort (tree_of b.trees by))) old.rhs

-- the lines that it names lead from the new goal to the old one
abbrev pub LeadsBack : Book → Back → Statement → Statement → Type 0
LeadsBack b (back.Rewrite left right) old new = Rewrites b left right old new
LeadsBack b (back.Scale by left right back_left back_right) old new = Scales b by left right back_left back_right old new

-- one after another, each of the new goal of the one before
abbrev pub LeadAllBack : Book → List Back → Statement → Statement → Type 0
LeadAllBack b [] first last = first ≡ last
LeadAllBack b (x ∷ xs) first last = (next : Statement) × LeadsBack b x first next × LeadAllBack b xs next last

-- a line is an equation of a sort, whose sides may be multiplied by the inverse of a tree
pub record MayScale (b : Book) (line : ℕ) (by : ExprId) (s : Sort) (x y : Tree) : Type 0 where
  pub here : IsIn b.trees by
  pub proves : Proves b line x y
  pub sorted : IsWellSorted b.theory.declarations (product_tree s x (inverse_tree s (tree_of b.trees by)))
