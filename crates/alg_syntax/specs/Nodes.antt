-- Nodes in a list, each behind its parts, and the expressions that they stand for.
use Rattle.std.specs.Prelude.{◌≡◌, ℕ, suc, ◌<◌, List, [], ◌∷◌, ◌++◌, get_or, ⊤, false}
use Rattle.alg_syntax.specs.declared.nodes.Node.{Node}
use Rattle.alg_syntax.specs.declared.nodes.Node.TheVariants as node
use Rattle.alg_syntax.specs.Expressions.{Tree, number, name, group, ascribed, minus, inverse, binary, apply}

abbrev pub tree_at : List Tree → ℕ → Tree
tree_at ts id = get_or ts id (number false 0)

-- the expression of a node over those before it
abbrev pub tree_of : List Tree → Node → Tree
tree_of ts (node.Number f n) = number f n
tree_of ts (node.Name n) = name n
tree_of ts (node.Group f a) = group f (tree_at ts a)
tree_of ts (node.Ascribed f a sort) = ascribed f (tree_at ts a) sort
tree_of ts (node.Minus a) = minus (tree_at ts a)
tree_of ts (node.Inverse a) = inverse (tree_at ts a)
tree_of ts (node.Binary o a b) = binary o (tree_at ts a) (tree_at ts b)
tree_of ts (node.Apply a b) = apply (tree_at ts a) (tree_at ts b)

abbrev pub trees_after : List Tree → List Node → List Tree
trees_after ts [] = ts
trees_after ts (n ∷ ns) = trees_after (ts ++ tree_of ts n ∷ []) ns

abbrev pub trees_of : List Node → List Tree
trees_of ns = trees_after [] ns

-- the parts of a node have numbers below k
abbrev pub IsBelow : ℕ → Node → Type 0
IsBelow k (node.Number f n) = ⊤
IsBelow k (node.Name n) = ⊤
IsBelow k (node.Group f a) = a < k
IsBelow k (node.Ascribed f a sort) = a < k
IsBelow k (node.Minus a) = a < k
IsBelow k (node.Inverse a) = a < k
IsBelow k (node.Binary o a b) = (a < k) × (b < k)
IsBelow k (node.Apply a b) = (a < k) × (b < k)

abbrev pub AllBelow_from : ℕ → List Node → Type 0
AllBelow_from k [] = ⊤
AllBelow_from k (n ∷ ns) = IsBelow k n × AllBelow_from (suc k) ns

abbrev pub AllBelow : List Node → Type 0
AllBelow ns = AllBelow_from 0 ns

-- the expressions that there were keep their numbers
abbrev pub Grows : List Tree → List Tree → Type 0
Grows old new = (more : List Tree) × (new ≡ old ++ more)
