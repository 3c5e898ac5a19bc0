-- The typed tree of an expression without a fault.
use Rattle.std.specs.Prelude.{List, [], ◌∷◌, length, map, Bool, true, false, ◌&&◌, nat_eq, nat_lt, ◌^◌, Option, Some, None}
use Rattle.alg_terms.specs.declared.sorts.Sort.{Sort}
use Rattle.alg_terms.specs.declared.symbols.Sym.{Sym}
use Rattle.alg_terms.specs.declared.symbols.Sym.TheVariants as sym
use Rattle.alg_terms.specs.Tree.{Tree, Lit, Var, App, of_list, sort_of_tree}
use Rattle.alg_expr.specs.Applying.{arity_fits, sorts_fit}
use Rattle.alg_syntax.specs.declared.signs.Operator.TheVariants.{Add, Sub, Mul, Div, Mod, Smul, Pow}
use Rattle.alg_names.specs.declared.meanings.Meaning.{Meaning}
use Rattle.alg_names.specs.declared.meanings.Meaning.TheVariants.{SortName, Variable, Function, Shared, Hypothesis}
use Rattle.alg_names.specs.declared.scope.Scope.{Scope}
use Rattle.alg_names.specs.InForce.{meaning}
use Rattle.alg_elaborate.specs.Raw.{Raw, Raws, literal, named, negation, reciprocal, operation, applied, of_sort, none, more, count}
use Rattle.alg_elaborate.specs.Meanings.{type_of, argument_sorts, symbol_of}
use Rattle.alg_elaborate.specs.Regions.{exponent_sort, sort_or}
use Rattle.alg_law.specs.Combinations.{difference_of, quotient_of}
use Rattle.alg_elaborate.specs.Operations.{power_of, multiple_of}

abbrev pub tree_where : Bool → Tree → Sort → Tree
tree_where true t k = t
tree_where false t k = Lit k 0

-- a compound tree; what doesn't fit has a fault, and its tree says nothing
abbrev pub compound : Sym → Sort → List Tree → Tree
compound f k ts = tree_where (arity_fits f (length ts) && sorts_fit f k (map sort_of_tree ts)) (App f k (of_list ts)) k

abbrev pub typed_name : Sort → Option Meaning → Tree
typed_name k None = Lit k 0
typed_name k (Some (SortName l)) = Lit k 0
typed_name k (Some (Variable d l)) = Var d k
typed_name k (Some (Function f ls l)) = Lit k 0
typed_name k (Some (Shared f n)) = Lit k 0
typed_name k (Some (Hypothesis n r l)) = Lit k 0

-- the tree in a region of the sort k
abbrev mutual
  pub typed : Scope → Sort → Raw → Tree
  typed s k (literal n) = tree_where (nat_lt n (2 ^ 127)) (Lit k n) k
  typed s k (named x) = typed_name k (meaning s x)
  typed s k (negation a) = compound sym.Neg k (typed s k a ∷ [])
  typed s k (reciprocal a) = compound sym.Inv k (typed s k a ∷ [])
  typed s k (operation Add a b) = compound sym.Add k (typed s k a ∷ typed s k b ∷ [])
  typed s k (operation Sub a b) = compound (difference_of k) k (typed s k a ∷ typed s k b ∷ [])
  typed s k (operation Mul a b) = compound sym.Mul k (typed s k a ∷ typed s k b ∷ [])
  typed s k (operation Div a b) = compound (quotient_of k) k (typed s k a ∷ typed s k b ∷ [])
  typed s k (operation Mod a b) = compound sym.Mod k (typed s k a ∷ typed s k b ∷ [])
  typed s k (operation Smul e a) = compound (multiple_of (exponent_sort s e)) k (typed s (exponent_sort s e) e ∷ typed s k a ∷ [])
  typed s k (operation Pow a e) = compound (power_of (exponent_sort s e)) k (typed s k a ∷ typed s (exponent_sort s e) e ∷ [])
  typed s k (applied f us) =
      tree_where (nat_eq (count us) (length (argument_sorts k (meaning s f)))) (compound (symbol_of (meaning s f)) k (typed_each s us (argument_sorts k (meaning s f)))) k
  typed s k (of_sort a x) = typed s (sort_or k (type_of (meaning s x))) a

  pub typed_each : Scope → Raws → List Sort → List Tree
  typed_each s none ks = []
  typed_each s (more a us) [] = []
  typed_each s (more a us) (k ∷ ks) = typed s k a ∷ typed_each s us ks
