-- Binders: their faults, and what they declare.
use Rattle.std.specs.Prelude.{ℕ, List, [], ◌∷◌, ◌++◌, map, Bool, false, not, ◌||◌, Option, Some, None, is_some, unwrap_or}
use Rattle.std.specs.Str.{bytes_eq}
use Rattle.alg_terms.specs.declared.sorts.Sort.{Sort}
use Rattle.alg_terms.specs.declared.sorts.Sort.TheVariants.{Nat, Int, Rat, Decl}
use Rattle.alg_law.specs.declared.classes.Class.{Class}
use Rattle.alg_law.specs.declared.classes.Class.TheVariants.{Semigroup}
use Rattle.alg_law.specs.Declarations.{Declaration}
use Rattle.alg_law.specs.Declarations as declaration
use Rattle.alg_law.specs.Following.{needs, has_all, gives_again}
use Rattle.alg_syntax.specs.Written.{Written}
use Rattle.alg_syntax.specs.declared.binders.Domain.{Domain}
use Rattle.alg_syntax.specs.declared.binders.Domain.TheVariants as domain
use Rattle.alg_syntax.specs.declared.binders.Typed.{Typed}
use Rattle.alg_syntax.specs.declared.binders.Binder.{Binder}
use Rattle.alg_syntax.specs.declared.binders.Binder.TheVariants as binder
use Rattle.alg_names.specs.declared.meanings.Meaning.{Meaning}
use Rattle.alg_names.specs.declared.meanings.Meaning.TheVariants.{SortName, Variable, Function, Shared, Hypothesis}
use Rattle.alg_names.specs.declared.scope.Scope.{Scope}
use Rattle.alg_names.specs.Entering.{entered}
use Rattle.alg_names.specs.InForce.{meaning, instances}
use Rattle.alg_elaborate.specs.declared.causes.Cause.{Cause}
use Rattle.alg_elaborate.specs.declared.causes.Cause.TheVariants.{UnknownName, NameTaken, SortMismatch, NoInstance}
use Rattle.alg_elaborate.specs.Faults.{when}
use Rattle.alg_elaborate.specs.Meanings.{type_of}
use Rattle.alg_elaborate.specs.Statements.{statement_faults, typed_statement}
use Rattle.alg_binders.specs.ClassNames.{class_named}

abbrev pub text_of : Written → List ℕ
text_of w = w.text

-- the names that a binder declares
abbrev pub names_of : Typed → List (List ℕ)
names_of t = t.first.text ∷ map text_of t.more

abbrev pub is_among : List (List ℕ) → List ℕ → Bool
is_among [] x = false
is_among (y ∷ ys) x = bytes_eq x y || is_among ys x

-- a name that is in force, or that stands before
abbrev pub taken_faults : Scope → List (List ℕ) → List (List ℕ) → List Cause
taken_faults s before [] = []
taken_faults s before (x ∷ xs) = when (is_some (meaning s x) || is_among before x) NameTaken ++ taken_faults s (before ++ x ∷ []) xs

-- a name that stands for no sort
abbrev pub sort_faults : Option Meaning → List Cause
sort_faults None = UnknownName ∷ []
sort_faults (Some (SortName l)) = []
sort_faults (Some (Variable d l)) = SortMismatch ∷ []
sort_faults (Some (Function f ls l)) = SortMismatch ∷ []
sort_faults (Some (Shared f n)) = SortMismatch ∷ []
sort_faults (Some (Hypothesis n r l)) = SortMismatch ∷ []

abbrev pub all_sort_faults : Scope → List Written → List Cause
all_sort_faults s [] = []
all_sort_faults s (w ∷ ws) = sort_faults (meaning s w.text) ++ all_sort_faults s ws

abbrev pub domain_faults : Scope → Domain → List Cause
domain_faults s (domain.Carrier starred) = []
domain_faults s (domain.Sorts n ns) = sort_faults (meaning s n.text) ++ all_sort_faults s ns
domain_faults s (domain.Holds p) = statement_faults s p

-- the names, then what is said of them
abbrev pub typed_faults : Scope → Typed → List Cause
typed_faults s t = taken_faults s [] (names_of t) ++ domain_faults s t.domain

abbrev pub carrier_faults : Sort → List Cause
carrier_faults Nat = SortMismatch ∷ []
carrier_faults Int = SortMismatch ∷ []
carrier_faults Rat = SortMismatch ∷ []
carrier_faults (Decl d) = []

-- a name that stands for no type variable
abbrev pub type_variable_faults : Option Meaning → List Cause
type_variable_faults None = UnknownName ∷ []
type_variable_faults (Some (SortName l)) = carrier_faults l
type_variable_faults (Some (Variable d l)) = SortMismatch ∷ []
type_variable_faults (Some (Function f ls l)) = SortMismatch ∷ []
type_variable_faults (Some (Shared f n)) = SortMismatch ∷ []
type_variable_faults (Some (Hypothesis n r l)) = SortMismatch ∷ []

abbrev pub class_faults : Option Class → List Cause
class_faults None = UnknownName ∷ []
class_faults (Some c) = []

-- a class that gives an operation again, or whose needs are missing
abbrev pub instance_faults : Scope → Class → Sort → List Cause
instance_faults s c k = when (gives_again (instances s) k c) NoInstance ++ when (not (has_all (instances s) k (needs c))) NoInstance

abbrev pub class_of : List ℕ → Class
class_of x = unwrap_or (class_named x) Semigroup

-- the sort that a name stands for, or ℕ
abbrev pub sort_of : Scope → List ℕ → Sort
sort_of s x = unwrap_or (type_of (meaning s x)) Nat

abbrev pub binder_faults : Scope → Binder → List Cause
binder_faults s (binder.Explicit f t) = typed_faults s t
binder_faults s (binder.Implicit t) = typed_faults s t
binder_faults s (binder.Instance c w) = class_faults (class_named c.text) ++ (type_variable_faults (meaning s w.text) ++ instance_faults s (class_of c.text) (sort_of s w.text))

-- the sorts before the last, and the last
abbrev pub all_but_last : Sort → List Sort → List Sort
all_but_last k [] = []
all_but_last k (l ∷ ls) = k ∷ all_but_last l ls

abbrev pub last_of : Sort → List Sort → Sort
last_of k [] = k
last_of k (l ∷ ls) = last_of l ls

-- a variable, or a function where there are arguments
abbrev pub of_signature : List ℕ → List Sort → Sort → Declaration
of_signature x [] l = declaration.Variable x l
of_signature x (k ∷ ks) l = declaration.Function x (k ∷ ks) l

abbrev pub sorts_of : Scope → List Written → List Sort
sorts_of s ws = map (λ (w : Written). sort_of s w.text) ws

-- what is declared of one name
abbrev pub declared_as : Scope → Domain → List ℕ → Declaration
declared_as s (domain.Carrier starred) x = declaration.Carrier x
declared_as s (domain.Sorts n ns) x = of_signature x (all_but_last (sort_of s n.text) (sorts_of s ns)) (last_of (sort_of s n.text) (sorts_of s ns))
declared_as s (domain.Holds p) x = declaration.Hypothesis x (typed_statement s p)

abbrev pub number_of : Sort → ℕ
number_of Nat = 0
number_of Int = 0
number_of Rat = 0
number_of (Decl d) = d

-- what a binder without a fault declares
abbrev pub declared_by : Scope → Binder → List Declaration
declared_by s (binder.Explicit f t) = map (declared_as s t.domain) (names_of t)
declared_by s (binder.Implicit t) = map (declared_as s t.domain) (names_of t)
declared_by s (binder.Instance c w) = declaration.Instance (number_of (sort_of s w.text)) (class_of c.text) ∷ []

-- the binders from left to right, each in the scope of those before
abbrev pub binders_faults : Scope → List Binder → List Cause
binders_faults s [] = []
binders_faults s (b ∷ bs) = binder_faults s b ++ binders_faults (entered s (declared_by s b)) bs

abbrev pub declared_by_all : Scope → List Binder → List Declaration
declared_by_all s [] = []
declared_by_all s (b ∷ bs) = declared_by s b ++ declared_by_all (entered s (declared_by s b)) bs
