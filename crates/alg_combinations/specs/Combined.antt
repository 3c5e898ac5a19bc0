-- What an expression says as a combination of hypotheses.
use Rattle.std.specs.Prelude.{List, [], ◌∷◌, ◌++◌, Bool, true, false, Option, Some, None}
use Rattle.alg_terms.specs.declared.sorts.Sort.{Sort}
use Rattle.alg_terms.specs.Tree.{Tree}
use Rattle.alg_law.specs.Combinations.{Part, hypothesis, expression, negative, sum, difference, product, quotient}
use Rattle.alg_syntax.specs.declared.signs.Operator.{Operator}
use Rattle.alg_syntax.specs.declared.signs.Operator.TheVariants.{Add, Sub, Mul, Div, Mod, Smul, Pow}
use Rattle.alg_names.specs.declared.meanings.Meaning.{Meaning}
use Rattle.alg_names.specs.declared.meanings.Meaning.TheVariants.{SortName, Variable, Function, Shared, Hypothesis}
use Rattle.alg_names.specs.declared.scope.Scope.{Scope}
use Rattle.alg_names.specs.InForce.{meaning}
use Rattle.alg_elaborate.specs.Raw.{Raw, literal, named, negation, reciprocal, operation, applied, of_sort}
use Rattle.alg_elaborate.specs.Combinations.{is_proof, combines}
use Rattle.alg_elaborate.specs.TypedTrees.{typed}

-- the operation of an operator; the last three combine nothing
abbrev pub joint : Operator → Part
joint Add = sum
joint Sub = difference
joint Mul = product
joint Div = quotient
joint Mod = sum
joint Smul = sum
joint Pow = sum

-- a hypothesis, or the tree of what is none
abbrev pub named_part : Tree → Option Meaning → Part
named_part t None = expression t
named_part t (Some (SortName l)) = expression t
named_part t (Some (Variable d l)) = expression t
named_part t (Some (Function f ls l)) = expression t
named_part t (Some (Shared f n)) = expression t
named_part t (Some (Hypothesis n r l)) = hypothesis n

abbrev pub where_proof : Bool → List Part → Tree → List Part
where_proof true xs t = xs
where_proof false xs t = expression t ∷ []

-- what an expression of the sort k says as a combination: its largest parts without hypotheses are expressions
abbrev pub combined : Scope → Sort → Raw → List Part
combined s k (literal n) = expression (typed s k (literal n)) ∷ []
combined s k (named x) = named_part (typed s k (named x)) (meaning s x) ∷ []
combined s k (negation a) = where_proof (is_proof s a) (combined s k a ++ negative ∷ []) (typed s k (negation a))
combined s k (reciprocal a) = expression (typed s k (reciprocal a)) ∷ []
combined s k (operation o a b) = where_proof (combines o (is_proof s a) (is_proof s b)) (combined s k a ++ (combined s k b ++ joint o ∷ [])) (typed s k (operation o a b))
combined s k (applied f us) = expression (typed s k (applied f us)) ∷ []
combined s k (of_sort a x) = expression (typed s k (of_sort a x)) ∷ []
