-- What is still to be written.
use Rattle.std.specs.Prelude.{◌≡◌, ℕ, suc, ◌+◌, ◌<◌, ◌^◌, List, [], ◌∷◌, ◌++◌, drop, Bool, true, false, not, ◌||◌, nat_le, if◌then◌else◌, Option, Some, None, ⊤}
use Rattle.std.specs.Fmt.{decimal}
use Rattle.alg_terms.specs.Tree.{Tree, Lit, Var, App, Trees, Nil, Cons, to_list, Statement}
use Rattle.alg_expr.specs.declared.ids.ExprId.{ExprId}
use Rattle.alg_expr.specs.Ids.{tree_of, IsIn}
use Rattle.alg_law.specs.Declarations.{Declaration}
use Rattle.alg_syntax.specs.Expressions as expressions
use Rattle.alg_syntax.specs.declared.signs.Operator as operators
use Rattle.alg_elaborate.specs.Raw.{Raw, Raws, literal, named, negation, reciprocal, operation, applied, of_sort, none, more}
use Rattle.alg_show.specs.declared.notation.Notation.{Notation}
use Rattle.alg_show.specs.declared.notation.Notation.TheVariants.{Negation, Infix, Shared, Own}
use Rattle.alg_show.specs.declared.notation.Notation.TheVariants as notation
use Rattle.alg_show.specs.declared.tasks.Place.{Place}
use Rattle.alg_show.specs.declared.tasks.Place.TheVariants.{Least, Negated}
use Rattle.alg_show.specs.declared.tasks.Task.{Task}
use Rattle.alg_show.specs.declared.tasks.Task.TheVariants.{Close, Inverse, Zero, Operator, Relation, Part, Arguments}
use Rattle.alg_show.specs.Notation.{operator_text, relation_text, blanked, operation_level, left_least, right_least}
use Rattle.alg_show.specs.Unparenthesized.{raw, asks_left, asks_right}
use Rattle.alg_show.specs.Knowing.{sides_ask}
use Rattle.alg_show.specs.Shown.{is_minus, wrapped, shown}
use Rattle.alg_show.specs.Text.{inverse_text, text}

-- the arguments of a compound
abbrev pub parts_of : Tree → List Tree
parts_of (Lit s n) = []
parts_of (Var d s) = []
parts_of (App f s xs) = to_list xs

-- an argument of the tree of an id, if there are so many
abbrev pub IsArgument : List Tree → ExprId → ℕ → Option ExprId → Type 0
IsArgument ts e k None = drop k (parts_of (tree_of ts e)) ≡ []
IsArgument ts e k (Some a) = (drop k (parts_of (tree_of ts e)) ≡ tree_of ts a ∷ drop (suc k) (parts_of (tree_of ts e))) × IsIn ts a

abbrev pub is_grouped : Place → expressions.Tree → Bool
is_grouped (Least m) t = not (nat_le m (expressions.level t))
is_grouped Negated t = is_minus t || not (nat_le 75 (expressions.level t))

abbrev pub placed : Place → expressions.Tree → expressions.Tree
placed p t = if is_grouped p t then expressions.group false t else t

-- what is written for the arguments of a function, from one on
abbrev pub argument_raws : List Declaration → Bool → List Tree → Raws
argument_raws ds ask [] = none
argument_raws ds ask (x ∷ xs) = more (raw ds ask x) (argument_raws ds false xs)

abbrev pub arguments_text : Raws → List ℕ
arguments_text none = []
arguments_text (more a us) = 32 ∷ (text (wrapped 100 (shown a)) ++ arguments_text us)

abbrev pub task_text : List Declaration → List Tree → Task → List ℕ
task_text ds ts Close = 41 ∷ []
task_text ds ts Inverse = inverse_text
task_text ds ts Zero = decimal 0
task_text ds ts (Operator o) = blanked (operator_text o)
task_text ds ts (Relation r) = blanked (relation_text r)
task_text ds ts (Part p ask e) = text (placed p (shown (raw ds ask (tree_of ts e))))
task_text ds ts (Arguments ask e k) = arguments_text (argument_raws ds ask (drop k (parts_of (tree_of ts e))))

-- the newest task is the last, and is written first
abbrev pub pending : List Declaration → List Tree → List Task → List ℕ
pending ds ts [] = []
pending ds ts (t ∷ us) = pending ds ts us ++ task_text ds ts t

-- a bound on the tasks that a tree makes
abbrev mutual
  pub weigh : Tree → ℕ
  weigh (Lit s n) = 1
  weigh (Var d s) = 1
  weigh (App f s xs) = 6 + weigh_all xs

  pub weigh_all : Trees → ℕ
  weigh_all Nil = 0
  weigh_all (Cons x xs) = 3 + weigh x + weigh_all xs

abbrev pub weigh_list : List Tree → ℕ
weigh_list [] = 0
weigh_list (x ∷ xs) = 3 + weigh x + weigh_list xs

abbrev pub weight : List Tree → Task → ℕ
weight ts Close = 1
weight ts Inverse = 1
weight ts Zero = 1
weight ts (Operator o) = 1
weight ts (Relation r) = 1
weight ts (Part p ask e) = weigh (tree_of ts e) + 2
weight ts (Arguments ask e k) = weigh_list (drop k (parts_of (tree_of ts e))) + 1

abbrev pub weights : List Tree → List Task → ℕ
weights ts [] = 0
weights ts (t ∷ us) = weight ts t + weights ts us

abbrev pub TaskInside : List Tree → Task → Type 0
TaskInside ts Close = ⊤
TaskInside ts Inverse = ⊤
TaskInside ts Zero = ⊤
TaskInside ts (Operator o) = ⊤
TaskInside ts (Relation r) = ⊤
TaskInside ts (Part p ask e) = IsIn ts e
TaskInside ts (Arguments ask e k) = IsIn ts e

abbrev pub AllInside : List Tree → List Task → Type 0
AllInside ts [] = ⊤
AllInside ts (t ∷ us) = TaskInside ts t × AllInside ts us

-- Each literal is one that the notation has: below 2^127.
abbrev mutual
  pub IsNarrow : Raw → Type 0
  IsNarrow (literal n) = n < 2 ^ 127
  IsNarrow (named x) = ⊤
  IsNarrow (negation a) = IsNarrow a
  IsNarrow (reciprocal a) = IsNarrow a
  IsNarrow (operation o a b) = IsNarrow a × IsNarrow b
  IsNarrow (applied f us) = AreNarrow us
  IsNarrow (of_sort a x) = IsNarrow a

  pub AreNarrow : Raws → Type 0
  AreNarrow none = ⊤
  AreNarrow (more a us) = IsNarrow a × AreNarrow us

abbrev pub TaskNarrow : List Declaration → List Tree → Task → Type 0
TaskNarrow ds ts Close = ⊤
TaskNarrow ds ts Inverse = ⊤
TaskNarrow ds ts Zero = ⊤
TaskNarrow ds ts (Operator o) = ⊤
TaskNarrow ds ts (Relation r) = ⊤
TaskNarrow ds ts (Part p ask e) = IsNarrow (raw ds ask (tree_of ts e))
TaskNarrow ds ts (Arguments ask e k) = AreNarrow (argument_raws ds ask (drop k (parts_of (tree_of ts e))))

abbrev pub AllNarrow : List Declaration → List Tree → List Task → Type 0
AllNarrow ds ts [] = ⊤
AllNarrow ds ts (t ∷ us) = TaskNarrow ds ts t × AllNarrow ds ts us

-- A turn wrote this text, or left it for later, by less than this weight; its literals are narrow where those for later are.
pub record Turn (ds : List Declaration) (ts : List Tree) (old new : List Task) (bytes more t : List ℕ) (n : ℕ) (Narrow : Type 0) : Type 0 where
  pub text : more ++ pending ds ts new ≡ bytes ++ (t ++ pending ds ts old)
  pub less : weights ts new < weights ts old + n
  pub inside : AllInside ts old → AllInside ts new
  pub narrow : AllNarrow ds ts new → AllNarrow ds ts old × Narrow

-- the part for an argument; a missing one is written as 0
abbrev pub part_task : Place → Bool → Option ExprId → Task
part_task p ask None = Zero
part_task p ask (Some e) = Part p ask e

-- the parts of an operation
abbrev pub left_task : List Tree → operators.Operator → Bool → Option ExprId → Task
left_task ts o ask None = Zero
left_task ts o ask (Some e) = Part (Least (left_least o)) (asks_left o ask (tree_of ts e)) e

abbrev pub right_task : List Tree → operators.Operator → Bool → Option ExprId → Task
right_task ts o ask None = Zero
right_task ts o ask (Some e) = Part (Least (right_least o)) (asks_right o ask (tree_of ts e)) e

-- the tree of an id was written without parentheses round it
abbrev pub TurnOf : List Declaration → List Tree → (old new : List Task) → (bytes more : List ℕ) → Bool → ExprId → Type 0
TurnOf ds ts old new bytes after ask e =
    Turn ds ts old new bytes after (text (shown (raw ds ask (tree_of ts e)))) (weigh (tree_of ts e) + 1) (IsNarrow (raw ds ask (tree_of ts e)))

-- the task was done
abbrev pub Performs : List Declaration → List Tree → (old new : List Task) → (bytes more : List ℕ) → Task → Type 0
Performs ds ts old new bytes after t = Turn ds ts old new bytes after (task_text ds ts t) (weight ts t) (TaskNarrow ds ts t)

-- all tasks were done, and their literals are narrow
abbrev pub Wrote : List Declaration → List Tree → List Task → (bytes more : List ℕ) → Type 0
Wrote ds ts tasks bytes after = (after ≡ bytes ++ pending ds ts tasks) × AllNarrow ds ts tasks

abbrev pub AreSidesNarrow : List Declaration → Statement → Type 0
AreSidesNarrow ds s = IsNarrow (raw ds (sides_ask s.sort s.lhs s.rhs) s.lhs) × IsNarrow (raw ds false s.rhs)

-- the level of what is written for a compound with these arguments
abbrev pub arguments_level : List Tree → ℕ
arguments_level [] = 100
arguments_level (x ∷ xs) = 76

abbrev pub notation_level : Notation → List Tree → ℕ
notation_level Negation xs = 75
notation_level notation.Inverse xs = 100
notation_level (Infix o) xs = operation_level o
notation_level Shared xs = arguments_level xs
notation_level Own xs = arguments_level xs

abbrev pub is_minus_sign : Notation → Bool
is_minus_sign Negation = true
is_minus_sign notation.Inverse = false
is_minus_sign (Infix o) = false
is_minus_sign Shared = false
is_minus_sign Own = false
