-- Typed trees, and statements about them.
use Rattle.std.specs.Prelude.{ℕ, ◌+◌, List, [], ◌∷◌}
use Rattle.alg_terms.specs.declared.sorts.Sort.{Sort}
use Rattle.alg_terms.specs.declared.symbols.Sym.{Sym}
use Rattle.alg_terms.specs.declared.relations.Rel.{Rel}
use Rattle.alg_terms.specs.declared.relations.Rel.TheVariants.{Eq}
use Rattle.alg_terms.specs.declared.symbols.Sym.TheVariants.{Add, Mul}

mutual
  -- a literal with its sort, a variable by its declaration with its sort, or a symbol with its sort and arguments
  pub data Tree : Type 0 where
    Lit : Sort → ℕ → Tree
    Var : ℕ → Sort → Tree
    App : Sym → Sort → Trees → Tree

  -- a list of trees
  pub data Trees : Type 0 where
    Nil : Trees
    Cons : Tree → Trees → Trees

-- the trees of a `Trees` as a plain list, and back
abbrev pub to_list : Trees → List Tree
to_list Nil = []
to_list (Cons t ts) = t ∷ to_list ts

abbrev pub of_list : List Tree → Trees
of_list [] = Nil
of_list (t ∷ ts) = Cons t (of_list ts)

-- how many nodes a tree has, written out
abbrev mutual
  pub node_count : Tree → ℕ
  node_count (Lit s n) = 1
  node_count (Var d s) = 1
  node_count (App f s ts) = 1 + node_counts ts

  pub node_counts : Trees → ℕ
  node_counts Nil = 0
  node_counts (Cons t ts) = node_count t + node_counts ts

-- a relation between two trees, with the sort that both should have
pub record Statement : Type 0 where
  pub rel : Rel
  pub sort : Sort
  pub lhs : Tree
  pub rhs : Tree

-- the sort of the value of a tree
abbrev pub sort_of_tree : Tree → Sort
sort_of_tree (Lit s n) = s
sort_of_tree (Var d s) = s
sort_of_tree (App f s xs) = s

-- both sides of one sort are equal
abbrev pub equal : Tree → Tree → Statement
equal x y = record { rel = Eq; sort = sort_of_tree x; lhs = x; rhs = y }

-- the sum of two trees, of this sort
abbrev pub sum_tree : Sort → Tree → Tree → Tree
sum_tree s x y = App Add s (Cons x (Cons y Nil))

-- their product
abbrev pub product_tree : Sort → Tree → Tree → Tree
product_tree s x y = App Mul s (Cons x (Cons y Nil))
