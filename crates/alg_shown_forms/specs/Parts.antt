-- Trees that are an operation over two parts.
use Rattle.std.specs.Prelude.{◌≡◌, ◌⊎◌, Option, Some, None}
use Rattle.alg_terms.specs.declared.sorts.Sort.{Sort}
use Rattle.alg_terms.specs.declared.symbols.Sym.{Sym}
use Rattle.alg_terms.specs.declared.symbols.Sym.TheVariants.{Add, Mul}
use Rattle.alg_terms.specs.Tree.{Tree, App, Cons, Nil}
use Rattle.alg_expr.specs.declared.ids.ExprId.{ExprId}
use Rattle.alg_expr.specs.Ids.{tree_of, IsIn}
use Rattle.alg_build.specs.Book.{Book}
use Rattle.alg_build.specs.Rewriting.{Stands}

-- a sum or a product
pub record IsOver (b : Book) (s : Sort) (e : ExprId) (f : Sym) (x y : Tree) : Type 0 where
  pub stands : Stands b s e (App f s (Cons x (Cons y Nil)))
  pub operation : (f ≡ Add) ⊎ (f ≡ Mul)

pub record IsOverTwo (b : Book) (e : ExprId) : Type 0 where
  pub sort : Sort
  pub symbol : Sym
  pub left : Tree
  pub right : Tree
  pub over : IsOver b sort e symbol left right

-- the ids of the parts, where the tree is an operation over two
abbrev pub AreArguments : Book → ExprId → Option (ExprId × ExprId) → Type 0
AreArguments b e None = (f : Sym) (s : Sort) (x y : Tree) → tree_of b.trees e ≡ App f s (Cons x (Cons y Nil)) → ⊥
AreArguments b e (Some p) = IsIn b.trees p.0 × IsIn b.trees p.1 × ((f : Sym) (s : Sort) (x y : Tree) → tree_of b.trees e ≡ App f s (Cons x (Cons y Nil)) → (tree_of b.trees p.0 ≡ x) × (tree_of b.trees p.1 ≡ y))
