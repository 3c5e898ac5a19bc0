-- What is answered to a goal whose sides become other trees.
use Rattle.std.specs.Prelude.{◌+◌, ◌^◌, Bool, true, false, ◌&&◌, nat_lt, if◌then◌else◌}
use Rattle.alg_terms.specs.declared.relations.Rel.{Rel}
use Rattle.alg_terms.specs.declared.relations.Rel.TheVariants.{Eq, Ne, Lt, Le, Dvd}
use Rattle.alg_terms.specs.Tree.{Tree, Statement, node_count}
use Rattle.alg_terms.specs.Order.{tree_same}
use Rattle.alg_law.specs.Derivations.{related}
use Rattle.alg_build.specs.Answer.{Answer, Closes, Leaves, Fails}
use Rattle.alg_build.specs.declared.outcome.TacFault.TheVariants.{NoChange, TooLarge}

-- a tree stands in the relation to itself, whatever it is
abbrev pub is_reflexive : Rel → Bool
is_reflexive Eq = true
is_reflexive Ne = false
is_reflexive Lt = false
is_reflexive Le = true
is_reflexive Dvd = false

-- closed where the new sides are one tree and the relation is `=` or `≤`; else no change where they are the old ones;
-- else too large where they have more than 2^20 nodes together, written out; else they are left in place of the old ones
abbrev pub common_end : Statement → (left right : Tree) → Answer
common_end s l r =
    if is_reflexive s.rel && tree_same l r then Closes
    else (if tree_same l s.lhs && tree_same r s.rhs then Fails NoChange
    else (if nat_lt (2 ^ 20) (node_count l + node_count r) then Fails TooLarge
    else Leaves (related s.rel s.sort l r)))
