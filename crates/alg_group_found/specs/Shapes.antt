-- What a tree is made of, as the words of groups take it.
use Rattle.std.specs.Prelude.{◌≡◌, ◌<◌, List}
use Rattle.alg_terms.specs.declared.sorts.Sort.{Sort}
use Rattle.alg_terms.specs.Tree.{Tree, Lit, sort_of_tree, product_tree}
use Rattle.alg_expr.specs.declared.ids.ExprId.{ExprId}
use Rattle.alg_expr.specs.Ids.{tree_of}
use Rattle.alg_law.specs.Declarations.{Declaration}
use Rattle.alg_rows.specs.Operations.{integer_power_tree, inverse_tree, power_tree, quotient_tree}
use Rattle.alg_group_found.specs.declared.shape.Shape.{Shape}
use Rattle.alg_group_found.specs.declared.shape.Shape.TheVariants as shape
use Rattle.alg_group_found.specs.Found.{IsAtom}

-- the tree of the id, over these parts, which come before it
abbrev pub IsShape : List Tree → ExprId → Sort → Shape → Type 0
IsShape ts e s shape.One = tree_of ts e ≡ Lit s 1
IsShape ts e s shape.Atom = (ds : List Declaration) → IsAtom ds (tree_of ts e)
IsShape ts e s (shape.Product a b) = (tree_of ts e ≡ product_tree s (tree_of ts a) (tree_of ts b)) × (a.index < e.index) × (b.index < e.index)
IsShape ts e s (shape.Quotient a b) = (tree_of ts e ≡ quotient_tree s (tree_of ts a) (tree_of ts b)) × (a.index < e.index) × (b.index < e.index)
IsShape ts e s (shape.Inverse a) = (tree_of ts e ≡ inverse_tree s (tree_of ts a)) × (a.index < e.index)
IsShape ts e s (shape.Power a k) = (tree_of ts e ≡ power_tree s (tree_of ts a) (tree_of ts k)) × (a.index < e.index) × (k.index < e.index)
IsShape ts e s (shape.IntegerPower a k) = (tree_of ts e ≡ integer_power_tree s (tree_of ts a) (tree_of ts k)) × (a.index < e.index) × (k.index < e.index)
