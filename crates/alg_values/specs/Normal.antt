-- Trees whose parts with values are replaced by numerals.
use Rattle.alg_terms.specs.declared.sorts.Sort.{Sort}
use Rattle.alg_terms.specs.Tree.{Tree, Lit, Var, App, Trees, Nil, Cons}
use Rattle.alg_values.specs.Setting.{Setting}
use Rattle.alg_values.specs.Values.{value}
use Rattle.alg_values.specs.Numerals.{numeral_tree}
use Rattle.alg_values.specs.declared.value.Value.{Value}
use Rattle.alg_values.specs.declared.value.Value.TheVariants.{Num, Past, Without}

-- the numeral where there is a value, else the tree
abbrev pub numeral_or : Sort → Value → Tree → Tree
numeral_or s (Num p) t = numeral_tree s p
numeral_or s Past t = t
numeral_or s Without t = t

abbrev mutual
  -- every largest part that has a value is replaced by its numeral
  pub normal : Setting → Tree → Tree
  normal k (Lit s n) = Lit s n
  normal k (Var d s) = Var d s
  normal k (App f s ts) = numeral_or s (value k (App f s ts)) (App f s (normals k ts))

  pub normals : Setting → Trees → Trees
  normals k Nil = Nil
  normals k (Cons t ts) = Cons (normal k t) (normals k ts)
