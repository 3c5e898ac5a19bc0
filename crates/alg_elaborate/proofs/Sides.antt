-- Both sides of a statement.
use Rattle.std.proofs.Common.{◌≡◌, refl, ap, ◌∙◌, List, [], ◌∷◌, ◌++◌, Option, Some, None}
use Rattle.alg_terms.specs.declared.sorts.Sort.{Sort}
use Rattle.alg_terms.specs.Tree as terms
use Rattle.alg_expr.specs.declared.ids.ExprId.{ExprId}
use Rattle.alg_expr.specs.Arena.{Extends}
use Rattle.alg_expr.proofs.ArenaLaws.{IsIn-extends, tree_of-extends}
use Rattle.alg_expr.specs.Ids.{IsIn, tree_of}
use Rattle.alg_names.specs.declared.scope.Scope.{Scope}
use Rattle.alg_elaborate.specs.declared.causes.Cause.{Cause}
use Rattle.alg_elaborate.specs.Raw.{Raw}
use Rattle.alg_elaborate.specs.Regions.{leaf_sort, or_else, first_known}
use Rattle.alg_elaborate.specs.Faults.{first}
use Rattle.alg_elaborate.specs.Tasks.{first_or}

else_assoc : (a b c : Option Sort) → or_else a (or_else b c) ≡ or_else (or_else a b) c
else_assoc (Some k) b c = refl
else_assoc None b c = refl

known_joined : (s : Scope) (xs ys : List Raw) → first_known s (xs ++ ys) ≡ or_else (first_known s xs) (first_known s ys)
known_joined s [] ys = refl
known_joined s (x ∷ xs) ys = ap (or_else (leaf_sort s x)) (known_joined s xs ys) ∙ else_assoc (leaf_sort s x) (first_known s xs) (first_known s ys)

pub known_left : (s : Scope) (xs ys : List Raw) (k : Sort) → first_known s xs ≡ Some k → first_known s (xs ++ ys) ≡ Some k
known_left s xs ys k e = known_joined s xs ys ∙ ap (λ o. or_else o (first_known s ys)) e

pub known_right : (s : Scope) (xs ys : List Raw) → first_known s xs ≡ None → first_known s (xs ++ ys) ≡ first_known s ys
known_right s xs ys e = known_joined s xs ys ∙ ap (λ o. or_else o (first_known s ys)) e

pub first_joined : (xs ys : List Cause) → first (xs ++ ys) ≡ first_or (first xs) ys
first_joined [] ys = refl
first_joined (x ∷ xs) ys = refl

pub no_first : (xs : List Cause) → first xs ≡ None → xs ≡ []
no_first [] e = refl
no_first (x ∷ xs) e = cc

-- the first side stays where the second is built
pub sides_in : (one two : List terms.Tree) (e : ExprId) (t : terms.Tree) → Extends one two → IsIn one e → tree_of one e ≡ t → IsIn two e × (tree_of two e ≡ t)
sides_in one two e t x h p = (IsIn-extends one two e x h, tree_of-extends one two e x h ∙ p)
