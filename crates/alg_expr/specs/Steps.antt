-- One look at two trees, or at two lists of them.
use Rattle.std.specs.Prelude.{◌≡◌, ◌<◌, List, Contains}
use Rattle.std.specs.declared.cmp.Ordering.TheVariants.{Equal}
use Rattle.alg_terms.specs.Tree.{Tree, of_list}
use Rattle.alg_terms.specs.Order.{tree_cmp, trees_cmp}
use Rattle.alg_expr.specs.declared.ids.ExprId.{ExprId}
use Rattle.alg_expr.specs.declared.comparing.Step.{Step}
use Rattle.alg_expr.specs.declared.comparing.Step.TheVariants as step
use Rattle.alg_expr.specs.Ids.{tree_of, trees_at}

-- x and y are parts that come before a and b and have their order
pub record HaveOrder (ts : List Tree) (a b x y : ExprId) : Type 0 where
  pub left : x.index < a.index
  pub right : y.index < b.index
  pub order : tree_cmp (tree_of ts x) (tree_of ts y) ≡ tree_cmp (tree_of ts a) (tree_of ts b)

-- the order of two trees, or two parts that have it
abbrev pub Steps : List Tree → ExprId → ExprId → Step → Type 0
Steps ts a b (step.Decided order) = order ≡ tree_cmp (tree_of ts a) (tree_of ts b)
Steps ts a b (step.Deeper x y) = HaveOrder ts a b x y

-- x and y are parts that differ and decide the order of the two lists
pub record AreApart (ts : List Tree) (xs ys : List ExprId) (x y : ExprId) : Type 0 where
  pub left : Contains xs x
  pub right : Contains ys y
  pub order : tree_cmp (tree_of ts x) (tree_of ts y) ≡ trees_cmp (of_list (trees_at ts xs)) (of_list (trees_at ts ys))
  pub differ : tree_cmp (tree_of ts x) (tree_of ts y) ≡ Equal → ⊥

-- the order of two lists, or two parts that decide it
abbrev pub StepsInto : List Tree → List ExprId → List ExprId → Step → Type 0
StepsInto ts xs ys (step.Decided order) = order ≡ trees_cmp (of_list (trees_at ts xs)) (of_list (trees_at ts ys))
StepsInto ts xs ys (step.Deeper x y) = AreApart ts xs ys x y
