-- The sort of an expression, by the region that its root belongs to: the parts that must have one sort.
use Rattle.std.specs.Prelude.{List, [], ◌∷◌, ◌++◌, Bool, true, false, Option, Some, None}
use Rattle.alg_terms.specs.declared.sorts.Sort.{Sort}
use Rattle.alg_terms.specs.declared.sorts.Sort.TheVariants.{Nat, Int}
use Rattle.alg_syntax.specs.declared.signs.Operator.{Operator}
use Rattle.alg_syntax.specs.declared.signs.Operator.TheVariants.{Add, Sub, Mul, Div, Mod, Smul, Pow}
use Rattle.alg_names.specs.declared.scope.Scope.{Scope}
use Rattle.alg_names.specs.InForce.{meaning}
use Rattle.alg_elaborate.specs.Raw.{Raw, Raws, literal, named, negation, reciprocal, operation, applied, of_sort, none, more}
use Rattle.alg_elaborate.specs.Meanings.{type_of, value_sort, is_shared}

-- of the leaves of both parts those that belong to the region: an exponent and the left part of a multiple don't
abbrev pub parts : Operator → List Raw → List Raw → List Raw
parts Add a b = a ++ b
parts Sub a b = a ++ b
parts Mul a b = a ++ b
parts Div a b = a ++ b
parts Mod a b = a ++ b
parts Smul a b = b
parts Pow a b = a

abbrev pub either : Bool → List Raw → List Raw → List Raw
either true a b = a
either false a b = b

-- the leaves of the region that the root belongs to, from left to right; an application of a declared function and an
-- expression with its sort are leaves
abbrev mutual
  pub leaves : Scope → Raw → List Raw
  leaves s (literal n) = literal n ∷ []
  leaves s (named x) = named x ∷ []
  leaves s (negation a) = leaves s a
  leaves s (reciprocal a) = leaves s a
  leaves s (operation o a b) = parts o (leaves s a) (leaves s b)
  leaves s (applied f us) = either (is_shared (meaning s f)) (leaves_of_each s us) (applied f us ∷ [])
  leaves s (of_sort a x) = of_sort a x ∷ []

  pub leaves_of_each : Scope → Raws → List Raw
  leaves_of_each s none = []
  leaves_of_each s (more a us) = leaves s a ++ leaves_of_each s us

-- the sort of a leaf, where it is known and the leaf isn't a literal
abbrev pub leaf_sort : Scope → Raw → Option Sort
leaf_sort s (literal n) = None
leaf_sort s (named x) = value_sort (meaning s x)
leaf_sort s (negation a) = None
leaf_sort s (reciprocal a) = None
leaf_sort s (operation o a b) = None
leaf_sort s (applied f us) = value_sort (meaning s f)
leaf_sort s (of_sort a x) = type_of (meaning s x)

abbrev pub or_else : Option Sort → Option Sort → Option Sort
or_else (Some k) o = Some k
or_else None o = o

abbrev pub first_known : Scope → List Raw → Option Sort
first_known s [] = None
first_known s (t ∷ ts) = or_else (leaf_sort s t) (first_known s ts)

abbrev pub sort_or : Sort → Option Sort → Sort
sort_or k None = k
sort_or k (Some l) = l

-- without a known leaf: ℤ for an exponent that is a negation, else ℕ
abbrev pub exponent_default : Raw → Sort
exponent_default (literal n) = Nat
exponent_default (named x) = Nat
exponent_default (negation a) = Int
exponent_default (reciprocal a) = Nat
exponent_default (operation o a b) = Nat
exponent_default (applied f us) = Nat
exponent_default (of_sort a x) = Nat

-- the sort of an exponent, or of the left part of a multiple
abbrev pub exponent_sort : Scope → Raw → Sort
exponent_sort s t = sort_or (exponent_default t) (first_known s (leaves s t))
