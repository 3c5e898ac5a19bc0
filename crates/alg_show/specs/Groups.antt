-- What is shown has the fewest groups.
use Rattle.std.specs.Prelude.{◌≡◌, ℕ, suc, ◌+◌, ◌≤◌, List, Bool, true, false, ⊤}
use Rattle.alg_terms.specs.Tree as terms
use Rattle.alg_law.specs.Declarations.{Declaration}
use Rattle.alg_syntax.specs.declared.statements.Statement.{Statement}
use Rattle.alg_syntax.specs.Expressions.{Tree, number, name, group, ascribed, minus, inverse, binary, apply}
use Rattle.alg_syntax.specs.Commands.{FitsStatement}
use Rattle.alg_elaborate.specs.Raw.{meant}
use Rattle.alg_show.specs.Knowing.{sides_ask}
use Rattle.alg_show.specs.Unparenthesized.{raw}
use Rattle.alg_show.specs.Shown.{shown_statement}

-- how many pairs of parentheses only group; those of a literal's sort don't
abbrev pub groups : Tree → ℕ
groups (number f n) = 0
groups (name w) = 0
groups (group f a) = suc (groups a)
groups (ascribed f a w) = groups a
groups (minus a) = groups a
groups (inverse a) = groups a
groups (binary o a b) = groups a + groups b
groups (apply a b) = groups a + groups b

-- it begins with a minus
abbrev pub first_minus : Tree → Bool
first_minus (number f n) = false
first_minus (name w) = false
first_minus (group f a) = false
first_minus (ascribed f a w) = false
first_minus (minus a) = true
first_minus (inverse a) = first_minus a
first_minus (binary o a b) = first_minus a
first_minus (apply a b) = first_minus a

-- no minus stands right before another one, so that no comment begins
abbrev pub IsApart : Tree → Type 0
IsApart (number f n) = ⊤
IsApart (name w) = ⊤
IsApart (group f a) = IsApart a
IsApart (ascribed f a w) = IsApart a
IsApart (minus a) = (first_minus a ≡ false) × IsApart a
IsApart (inverse a) = IsApart a
IsApart (binary o a b) = IsApart a × IsApart b
IsApart (apply a b) = IsApart a × IsApart b

-- Whatever stands in the grammar, has no two minuses that meet, and says the same, parentheses aside, has as many groups
-- at least.
abbrev pub HasFewestGroups : List Declaration → terms.Statement → Type 0
HasFewestGroups ds s =
    (q : Statement) → FitsStatement q → IsApart q.lhs → IsApart q.rhs
    → meant q.lhs ≡ raw ds (sides_ask s.sort s.lhs s.rhs) s.lhs → meant q.rhs ≡ raw ds false s.rhs
    → groups (shown_statement ds s).lhs + groups (shown_statement ds s).rhs ≤ groups q.lhs + groups q.rhs
