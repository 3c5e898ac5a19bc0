-- Which expressions are proofs, where hypotheses are combined.
use Rattle.std.specs.Prelude.{Bool, true, false, not, ◌&&◌, ◌||◌}
use Rattle.alg_syntax.specs.declared.signs.Operator.{Operator}
use Rattle.alg_syntax.specs.declared.signs.Operator.TheVariants.{Add, Sub, Mul, Div, Mod, Smul, Pow}
use Rattle.alg_names.specs.declared.scope.Scope.{Scope}
use Rattle.alg_names.specs.InForce.{meaning}
use Rattle.alg_elaborate.specs.Raw.{Raw, Raws, literal, named, negation, reciprocal, operation, applied, of_sort, none, more}
use Rattle.alg_elaborate.specs.Meanings.{is_hypothesis}

abbrev pub one_of : Bool → Bool → Bool
one_of true b = not b
one_of false b = b

-- an operation on parts of which these are proofs is a proof: a sum with one, a product with exactly one, a quotient
-- whose numerator alone is one
abbrev pub combines : Operator → Bool → Bool → Bool
combines Add a b = a || b
combines Sub a b = a || b
combines Mul a b = one_of a b
combines Div a b = a && not b
combines Mod a b = false
combines Smul a b = false
combines Pow a b = false

abbrev pub is_proof : Scope → Raw → Bool
is_proof s (literal n) = false
is_proof s (named x) = is_hypothesis (meaning s x)
is_proof s (negation a) = is_proof s a
is_proof s (reciprocal a) = false
is_proof s (operation o a b) = combines o (is_proof s a) (is_proof s b)
is_proof s (applied f us) = false
is_proof s (of_sort a x) = false

abbrev pub any_proof : Scope → Raws → Bool
any_proof s none = false
any_proof s (more a us) = is_proof s a || any_proof s us

-- some part is a proof, and the whole isn't
abbrev pub misuses : Scope → Raw → Bool
misuses s (literal n) = false
misuses s (named x) = false
misuses s (negation a) = false
misuses s (reciprocal a) = is_proof s a
misuses s (operation o a b) = (is_proof s a || is_proof s b) && not (combines o (is_proof s a) (is_proof s b))
misuses s (applied f us) = any_proof s us
misuses s (of_sort a x) = is_proof s a
