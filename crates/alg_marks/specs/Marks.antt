-- Which trees of a builder are looked at.
use Rattle.std.specs.Prelude.{◌≡◌, ℕ, ◌<◌, ◌≤◌, Bool, true, false, List, [], ◌∷◌, length, get_or, slice_set, All}
use Rattle.alg_terms.specs.declared.sorts.Sort.{Sort}
use Rattle.alg_terms.specs.declared.symbols.Sym.{Sym}
use Rattle.alg_terms.specs.Tree.{Tree, Lit, Var, App, of_list}
use Rattle.alg_expr.specs.declared.ids.ExprId.{ExprId}
use Rattle.alg_expr.specs.Ids.{tree_of, trees_at}
use Rattle.alg_law.specs.WellSorted.{IsWellSorted}
use Rattle.alg_build.specs.Book.{Book, nothing}

-- with each tree its parts are wanted, whatever ids they have, and all are well sorted
pub record AreWanted (b : Book) (wanted : List Bool) : Type 0 where
  pub within : length wanted ≤ length b.trees
  pub sorted : (i : ℕ) → get_or wanted i false ≡ true → IsWellSorted b.theory.declarations (get_or b.trees i nothing)
  pub parts : (e : ExprId) (f : Sym) (s : Sort) (args : List ExprId) → get_or wanted e.index false ≡ true → tree_of b.trees e ≡ App f s (of_list (trees_at b.trees args)) → All (λ a. a.index < e.index) args → All (λ a. get_or wanted a.index false ≡ true) args

-- these are marked too
abbrev pub marked_all : List Bool → List ExprId → List Bool
marked_all flags [] = flags
marked_all flags (a ∷ rest) = marked_all (slice_set flags a.index true) rest

-- these are the parts of the tree
abbrev pub AreParts : Tree → List Tree → Type 0
AreParts (Lit s n) ts = ts ≡ []
AreParts (Var d s) ts = ts ≡ []
AreParts (App f s us) ts = us ≡ of_list ts

-- the parts of the tree are marked too
pub record MarksParts (b : Book) (e : ExprId) (old new : List Bool) : Type 0 where
  pub args : List ExprId
  pub below : All (λ a. a.index < e.index) args
  pub are : AreParts (tree_of b.trees e) (trees_at b.trees args)
  pub marks : new ≡ marked_all old args

-- the parts of the marked trees from the one of this number on are marked
pub record AreMarked (b : Book) (from : ℕ) (flags : List Bool) : Type 0 where
  pub size : length flags ≡ length b.trees
  pub sorted : (i : ℕ) → get_or flags i false ≡ true → IsWellSorted b.theory.declarations (get_or b.trees i nothing)
  pub parts : (e : ExprId) (f : Sym) (s : Sort) (args : List ExprId) → from ≤ e.index → get_or flags e.index false ≡ true → tree_of b.trees e ≡ App f s (of_list (trees_at b.trees args)) → All (λ a. a.index < e.index) args → All (λ a. get_or flags a.index false ≡ true) args
