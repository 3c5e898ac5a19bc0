-- Nodes, and the trees that a list of them stands for.
use Rattle.std.specs.Prelude.{◌≡◌, ℕ, suc, ◌<◌, List, [], ◌∷◌, ◌++◌, All, ⊤, map, ◌^◌}
use Rattle.alg_terms.specs.Tree.{Tree, Lit, Var, App, of_list}
use Rattle.alg_expr.specs.declared.nodes.Node.{Node}
use Rattle.alg_expr.specs.declared.nodes.Node.TheVariants as node
use Rattle.std.specs.Map.{keys_of, values_of}
use Rattle.alg_expr.specs.Sizes.{size_of}
use Rattle.alg_expr.specs.Distinct.{AreDistinct}
use Rattle.alg_expr.specs.Ids.{trees_at}

-- the tree of a node over the trees before it
abbrev pub tree_at : List Tree → Node → Tree
tree_at ts (node.Lit s n) = Lit s n
tree_at ts (node.Var d s) = Var d s
tree_at ts (node.App f s args) = App f s (of_list (trees_at ts args.items))

-- the trees so far, and those of the nodes after them
abbrev pub trees_after : List Tree → List Node → List Tree
trees_after ts [] = ts
trees_after ts (n ∷ ns) = trees_after (ts ++ tree_at ts n ∷ []) ns

-- the trees of a list of nodes
abbrev pub trees_of : List Node → List Tree
trees_of ns = trees_after [] ns

-- the parts of a node have numbers below k
abbrev pub IsBelow : ℕ → Node → Type 0
IsBelow k (node.Lit s n) = ⊤
IsBelow k (node.Var d s) = ⊤
IsBelow k (node.App f s args) = All (λ a. a.index < k) args.items

-- the parts of each node come before it, where k nodes come before the list
abbrev pub AllBelow_from : ℕ → List Node → Type 0
AllBelow_from k [] = ⊤
AllBelow_from k (n ∷ ns) = IsBelow k n × AllBelow_from (suc k) ns

-- the parts of each node come before it
abbrev pub AllBelow : List Node → Type 0
AllBelow ns = AllBelow_from 0 ns

-- a literal is below 2^127
abbrev pub IsSmall : Node → Type 0
IsSmall (node.Lit s n) = n < 2 ^ 127
IsSmall (node.Var d s) = ⊤
IsSmall (node.App f s args) = ⊤

-- the parts of each node come before it, its literals are small, no tree stands twice, and beside each node stands its size
pub record IsSound (es : List (Node × ℕ)) : Type 0 where
  pub below : AllBelow (keys_of es)
  pub small : All IsSmall (keys_of es)
  pub distinct : AreDistinct (trees_of (keys_of es))
  pub sizes : values_of es ≡ map size_of (trees_of (keys_of es))
