-- What names mean in an expression.
use Rattle.std.specs.Prelude.{ℕ, zero, suc, List, [], ◌∷◌, Bool, true, false, Option, Some, None}
use Rattle.alg_terms.specs.declared.sorts.Sort.{Sort}
use Rattle.alg_terms.specs.declared.symbols.Sym.{Sym}
use Rattle.alg_terms.specs.declared.symbols.Sym.TheVariants.{Add}
use Rattle.alg_names.specs.declared.meanings.Meaning.{Meaning}
use Rattle.alg_names.specs.declared.meanings.Meaning.TheVariants.{SortName, Variable, Function, Shared, Hypothesis}

-- the sort that a name stands for
abbrev pub type_of : Option Meaning → Option Sort
type_of None = None
type_of (Some (SortName l)) = Some l
type_of (Some (Variable d l)) = None
type_of (Some (Function f ls l)) = None
type_of (Some (Shared f n)) = None
type_of (Some (Hypothesis n r l)) = None

-- the sort of the value of a variable or a function
abbrev pub value_sort : Option Meaning → Option Sort
value_sort None = None
value_sort (Some (SortName l)) = None
value_sort (Some (Variable d l)) = Some l
value_sort (Some (Function f ls l)) = Some l
value_sort (Some (Shared f n)) = None
value_sort (Some (Hypothesis n r l)) = None

-- the function's arguments are of the sort of its value, whichever it is
abbrev pub is_shared : Option Meaning → Bool
is_shared None = false
is_shared (Some (SortName l)) = false
is_shared (Some (Variable d l)) = false
is_shared (Some (Function f ls l)) = false
is_shared (Some (Shared f n)) = true
is_shared (Some (Hypothesis n r l)) = false

abbrev pub is_hypothesis : Option Meaning → Bool
is_hypothesis None = false
is_hypothesis (Some (SortName l)) = false
is_hypothesis (Some (Variable d l)) = false
is_hypothesis (Some (Function f ls l)) = false
is_hypothesis (Some (Shared f n)) = false
is_hypothesis (Some (Hypothesis n r l)) = true

abbrev pub times : ℕ → Sort → List Sort
times zero k = []
times (suc n) k = k ∷ times n k

-- the sorts of a function's arguments, where its value has the sort k
abbrev pub argument_sorts : Sort → Option Meaning → List Sort
argument_sorts k None = []
argument_sorts k (Some (SortName l)) = []
argument_sorts k (Some (Variable d l)) = []
argument_sorts k (Some (Function f ls l)) = ls
argument_sorts k (Some (Shared f n)) = times n k
argument_sorts k (Some (Hypothesis n r l)) = []

-- the symbol of a function
abbrev pub symbol_of : Option Meaning → Sym
symbol_of None = Add
symbol_of (Some (SortName l)) = Add
symbol_of (Some (Variable d l)) = Add
symbol_of (Some (Function f ls l)) = f
symbol_of (Some (Shared f n)) = f
symbol_of (Some (Hypothesis n r l)) = Add
