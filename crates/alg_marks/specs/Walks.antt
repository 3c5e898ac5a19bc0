-- What is found of the trees of a builder, one after another in the order of their ids, whatever it is.
use Rattle.std.specs.Prelude.{◌≡◌, ℕ, ◌<◌, ◌≤◌, Bool, true, false, List, length, get_or, All}
use Rattle.alg_terms.specs.declared.sorts.Sort.{Sort}
use Rattle.alg_terms.specs.declared.symbols.Sym.{Sym}
use Rattle.alg_terms.specs.Tree.{Tree, App, of_list}
use Rattle.alg_expr.specs.declared.ids.ExprId.{ExprId}
use Rattle.alg_expr.specs.Ids.{tree_of, trees_at, IsIn}
use Rattle.alg_build.specs.Book.{Book, nothing}

module _ {X : Type 0} (At : Book → Tree → X → Type 0) (none : X) where
  -- of the first trees, those that are wanted
  pub record AreAllAt (b : Book) (wanted : List Bool) (xs : List X) : Type 0 where
    pub within : length xs ≤ length b.trees
    pub each : (i : ℕ) → i < length xs → get_or wanted i false ≡ true → At b (get_or b.trees i nothing) (get_or xs i none)

  -- of the trees of these ids
  pub record ArePartsAt (b : Book) (xs : List X) (args : List ExprId) : Type 0 where
    pub here : All (IsIn b.trees) args
    pub below : All (λ a. a.index < length xs) args
    pub each : All (λ a. At b (tree_of b.trees a) (get_or xs a.index none)) args

  -- of the parts of a tree, whatever ids they have
  pub record HasPartsAt (b : Book) (xs : List X) (e : ExprId) : Type 0 where
    pub parts : (f : Sym) (s : Sort) (args : List ExprId) → tree_of b.trees e ≡ App f s (of_list (trees_at b.trees args)) → All (λ a. a.index < e.index) args → ArePartsAt b xs args
