-- What the calls of the arena answer.
use Rattle.std.specs.Prelude.{◌≡◌, ◌<◌, List, [], ◌∷◌, ◌++◌, All, ◌⊎◌, ⊤, ◌^◌}
use Rattle.alg_terms.specs.Tree.{Tree, Lit, Var, App, of_list}
use Rattle.alg_expr.specs.declared.ids.ExprId.{ExprId}
use Rattle.alg_expr.specs.declared.ids.View.{View}
use Rattle.alg_expr.specs.declared.ids.View.TheVariants as view
use Rattle.alg_expr.specs.Ids.{tree_of, IsIn, trees_at}

-- the old trees keep their ids
abbrev pub Extends : List Tree → List Tree → Type 0
Extends old new = (more : List Tree) × (new ≡ old ++ more)

-- at most this tree was added, and this id stands for it
pub record GrowsBy (old new : List Tree) (e : ExprId) (t : Tree) : Type 0 where
  pub grown : (new ≡ old) ⊎ (new ≡ old ++ t ∷ [])
  pub here : IsIn new e
  pub tree : tree_of new e ≡ t

-- the old trees keep their ids, and this id stands for this tree
pub record Imports (old new : List Tree) (e : ExprId) (t : Tree) : Type 0 where
  pub keeps : Extends old new
  pub here : IsIn new e
  pub tree : tree_of new e ≡ t

-- one level of the tree of an id, whose parts come before it
abbrev pub Shows : List Tree → ExprId → View → Type 0
Shows ts e (view.Lit s n) = tree_of ts e ≡ Lit s n
Shows ts e (view.Var d s) = tree_of ts e ≡ Var d s
Shows ts e (view.App f s args) =
    (tree_of ts e ≡ App f s (of_list (trees_at ts args.now))) × All (λ a. a.index < e.index) args.now

-- a literal is below 2^127
abbrev pub ShowsSmall : View → Type 0
ShowsSmall (view.Lit s n) = n < 2 ^ 127
ShowsSmall (view.Var d s) = ⊤
ShowsSmall (view.App f s args) = ⊤
