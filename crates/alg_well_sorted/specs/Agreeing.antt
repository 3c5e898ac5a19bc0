-- When a scope says what declarations say.
use Rattle.std.specs.Prelude.{◌≡◌, ℕ, true, List, [], ◌∷◌, length, All, ⊤, Option, Some, None, slice_get}
use Rattle.alg_terms.specs.declared.sorts.Sort.{Sort}
use Rattle.alg_terms.specs.declared.symbols.Sym.{Sym}
use Rattle.alg_terms.specs.declared.symbols.Sym.TheVariants.{Apply}
use Rattle.alg_terms.specs.Symbols.{serves}
use Rattle.alg_terms.specs.Tree.{Statement}
use Rattle.alg_law.specs.declared.classes.Class.{Class}
use Rattle.alg_law.specs.declared.marks.Mark.TheVariants.{Good}
use Rattle.alg_law.specs.Declarations.{Declaration, hypotheses}
use Rattle.alg_law.specs.Following.{IsKnown}
use Rattle.alg_law.specs.Having.{instances_give}
use Rattle.alg_law.specs.Prefixes.{line_at}
use Rattle.alg_law.specs.WellSorted.{variable_of, function_of, symbol_mark, has_classes}
use Rattle.alg_names.specs.declared.meanings.Meaning.{Meaning}
use Rattle.alg_names.specs.declared.meanings.Meaning.TheVariants as meaning
use Rattle.alg_names.specs.declared.scope.Scope.{Scope}
use Rattle.alg_names.specs.InForce.{instances}
use Rattle.alg_elaborate.specs.Meanings.{times}

-- the symbol may stand before arguments of these sorts: a declared function with this signature, or a built-in one,
-- whatever is declared
pub data Applies (ds : List Declaration) : Sym → List Sort → Sort → Type 0 where
  by_declaration : (j : ℕ) (ls : List Sort) (l : Sort) → function_of (slice_get ds j) ≡ Some (ls, l) → Applies ds (Apply j) ls l
  always : (f : Sym) (ls : List Sort) (l : Sort) → ((es : List Declaration) → symbol_mark es f l ls ≡ Good) → Applies ds f ls l

-- a function over known sorts
pub record IsFunction (ds : List Declaration) (f : Sym) (ls : List Sort) (l : Sort) : Type 0 where
  pub arguments : All (IsKnown ds) ls
  pub value : IsKnown ds l
  pub applies : Applies ds f ls l

-- a function of n arguments of any one sort that has its classes
abbrev pub IsShared : Sym → ℕ → Type 0
IsShared f n = (es : List Declaration) (k : Sort) → serves f k ≡ true → has_classes es f k ≡ true → symbol_mark es f k (times n k) ≡ Good

-- the declarations say what the name means
abbrev pub Means : List Declaration → Meaning → Type 0
Means ds (meaning.SortName l) = IsKnown ds l
Means ds (meaning.Variable d l) = (variable_of (slice_get ds d) ≡ Some l) × IsKnown ds l
Means ds (meaning.Function f ls l) = IsFunction ds f ls l
Means ds (meaning.Shared f n) = IsShared f n
Means ds (meaning.Hypothesis n r l) = (h : Statement) × (line_at (hypotheses ds) n ≡ Some h) × (h.rel ≡ r) × (h.sort ≡ l)

abbrev pub IsMeant : List Declaration → Option Meaning → Type 0
IsMeant ds None = ⊤
IsMeant ds (Some m) = Means ds m

abbrev pub AreMeant : List Declaration → List (List ℕ × Meaning) → Type 0
AreMeant ds [] = ⊤
AreMeant ds (n ∷ ns) = Means ds n.1 × AreMeant ds ns

-- each name means what is declared, and the classes are those declared
pub record Agrees (s : Scope) (ds : List Declaration) : Type 0 where
  pub names : AreMeant ds s.names
  pub classes : (l : Sort) (c : Class) → instances_give (instances s) l c ≡ instances_give ds l c

-- and the next declaration and the next hypothesis get the next numbers
pub record Follows (s : Scope) (ds : List Declaration) : Type 0 where
  pub agrees : Agrees s ds
  pub counted : s.declared ≡ length ds
  pub given : s.hypotheses ≡ length (hypotheses ds)
