-- The value of a tree.
use Rattle.std.specs.Prelude.{pos, Bool, true, false, ◌||◌, List, [], ◌∷◌, Option, Some, None, if◌then◌else◌}
use Rattle.alg_terms.specs.declared.sorts.Sort.{Sort}
use Rattle.alg_terms.specs.declared.symbols.Sym.{Sym}
use Rattle.alg_terms.specs.Tree.{Tree, Lit, Var, App, Trees, Nil, Cons}
use Rattle.alg_num.specs.Fraction.{Fraction}
use Rattle.alg_law.specs.declared.classes.Class.TheVariants.{Semiring}
use Rattle.alg_values.specs.Setting.{Setting}
use Rattle.alg_values.specs.Arithmetic.{whole_number, where_has, arithmetic_of}
use Rattle.alg_values.specs.Functions.{is_named, named_of}
use Rattle.alg_values.specs.declared.value.Value.{Value}
use Rattle.alg_values.specs.declared.value.Value.TheVariants.{Num, Past, Without}

-- a symbol over fractions: a named function has a value only where it is covered
abbrev pub operated : Setting → Sym → Sort → List Fraction → Value
operated k f s ps = if is_named f then (if k.covers f then named_of k.has f s ps else Without) else arithmetic_of k.has f s ps

-- a symbol over parts, each of which must have a value
abbrev pub over : Setting → Sym → Sort → Option (List Fraction) → Value
over k f s None = Without
over k f s (Some ps) = operated k f s ps

abbrev pub with_value : Value → Option (List Fraction) → Option (List Fraction)
with_value (Num p) (Some ps) = Some (p ∷ ps)
with_value (Num p) None = None
with_value Past ps = None
with_value Without ps = None

abbrev mutual
  -- the fraction that the tree denotes
  pub value : Setting → Tree → Value
  value k (Lit s n) = where_has (k.has s Semiring) (Num (whole_number (pos n)))
  value k (Var d s) = Without
  value k (App f s ts) = over k f s (values k ts)

  -- those of all the trees, if each has one
  pub values : Setting → Trees → Option (List Fraction)
  values k Nil = Some []
  values k (Cons t ts) = with_value (value k t) (values k ts)

abbrev pub is_past : Value → Bool
is_past (Num p) = false
is_past Past = true
is_past Without = false

abbrev mutual
  -- some node of the tree is past the range
  pub has_past : Setting → Tree → Bool
  has_past k (Lit s n) = false
  has_past k (Var d s) = false
  has_past k (App f s ts) = is_past (value k (App f s ts)) || have_past k ts

  pub have_past : Setting → Trees → Bool
  have_past k Nil = false
  have_past k (Cons t ts) = has_past k t || have_past k ts
