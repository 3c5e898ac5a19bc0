-- Well sorted trees and statements, and the first cause for which a tree isn't one.
use Rattle.std.specs.Prelude.{◌≡◌, ℕ, Bool, true, false, ◌&&◌, ◌||◌, if◌then◌else◌, nat_eq, List, [], ◌∷◌, length, Option, Some, None, slice_get}
use Rattle.alg_terms.specs.declared.sorts.Sort.{Sort}
use Rattle.alg_terms.specs.declared.sorts.Sort.TheVariants.{Nat, Int, Rat, Decl}
use Rattle.alg_terms.specs.declared.symbols.Sym.{Sym}
use Rattle.alg_terms.specs.declared.symbols.Sym.TheVariants.{Add, Mul, Neg, Sub, Inv, Div, Npow, Zpow, Nsmul, Zsmul, Abs, Min, Max, Apply}
use Rattle.alg_terms.specs.declared.relations.Rel.{Rel}
use Rattle.alg_terms.specs.declared.relations.Rel.TheVariants.{Eq, Ne, Lt, Le, Dvd}
use Rattle.alg_terms.specs.Tree.{Tree, Lit, Var, App, Trees, Nil, Cons, Statement, sort_of_tree}
use Rattle.alg_terms.specs.Order.{sort_same}
use Rattle.alg_terms.specs.Symbols.{places, arguments_fit, is_integral}
use Rattle.alg_law.specs.declared.classes.Class.{Class}
use Rattle.alg_law.specs.declared.classes.Class.TheVariants.{AddMonoid, Semigroup, AddGroup, Group, Field, Monoid, Semiring, Ring, IsStrictOrderedRing, LinearOrder}
use Rattle.alg_law.specs.declared.marks.Mark.{Mark}
use Rattle.alg_law.specs.declared.marks.Mark.TheVariants.{Good, NoInstance, BadSort, BadName}
use Rattle.alg_law.specs.Declarations.{Declaration, Carrier, Instance, Variable, Function, Hypothesis}
use Rattle.alg_law.specs.Having.{has_class}

-- the cause that is looked for first: a bad name, then a bad sort, then a missing class
abbrev pub worse : Mark → Mark → Mark
worse Good b = b
worse NoInstance Good = NoInstance
worse NoInstance NoInstance = NoInstance
worse NoInstance BadSort = BadSort
worse NoInstance BadName = BadName
worse BadSort Good = BadSort
worse BadSort NoInstance = BadSort
worse BadSort BadSort = BadSort
worse BadSort BadName = BadName
worse BadName b = BadName

abbrev pub type_in : Declaration → Bool
type_in (Carrier n) = true
type_in (Instance k c) = false
type_in (Variable n s) = false
type_in (Function n ss s) = false
type_in (Hypothesis n h) = false

-- a type variable is declared there
abbrev pub is_type : Option Declaration → Bool
is_type None = false
is_type (Some d) = type_in d

abbrev pub variable_in : Declaration → Option Sort
variable_in (Carrier n) = None
variable_in (Instance k c) = None
variable_in (Variable n s) = Some s
variable_in (Function n ss s) = None
variable_in (Hypothesis n h) = None

-- the sort of the variable that is declared there
abbrev pub variable_of : Option Declaration → Option Sort
variable_of None = None
variable_of (Some d) = variable_in d

abbrev pub function_in : Declaration → Option (List Sort × Sort)
function_in (Carrier n) = None
function_in (Instance k c) = None
function_in (Variable n s) = None
function_in (Function n ss s) = Some (ss, s)
function_in (Hypothesis n h) = None

-- the arguments' sorts and the value's sort of the function that is declared there
abbrev pub function_of : Option Declaration → Option (List Sort × Sort)
function_of None = None
function_of (Some d) = function_in d

-- the sort is built in or declared
abbrev pub sort_mark : List Declaration → Sort → Mark
sort_mark ds (Decl k) = if is_type (slice_get ds k) then Good else BadName
sort_mark ds Nat = Good
sort_mark ds Int = Good
sort_mark ds Rat = Good

-- the class that a literal needs
abbrev pub literal_class : ℕ → Class
literal_class n = if nat_eq n 0 then AddMonoid else (if nat_eq n 1 then Monoid else Semiring)

abbrev pub class_mark : Bool → Mark
class_mark there = if there then Good else NoInstance

abbrev pub same_mark : Bool → Mark
same_mark fits = if fits then Good else BadSort

abbrev pub literal_mark : List Declaration → Sort → ℕ → Mark
literal_mark ds s n = worse (sort_mark ds s) (class_mark (has_class ds s (literal_class n)))

abbrev pub of_sort : Option Sort → Sort → Mark
of_sort None s = BadName
of_sort (Some t) s = same_mark (sort_same t s)

abbrev pub variable_mark : List Declaration → ℕ → Sort → Mark
variable_mark ds d s = worse (sort_mark ds s) (of_sort (variable_of (slice_get ds d)) s)

-- each sort is that of its place, as far as both go
abbrev pub sorts_agree : List Sort → List Sort → Bool
sorts_agree [] ts = true
sorts_agree (s ∷ ss) [] = true
sorts_agree (s ∷ ss) (t ∷ ts) = sort_same s t && sorts_agree ss ts

-- the same sorts in order
abbrev pub sorts_same : List Sort → List Sort → Bool
sorts_same ss ts = nat_eq (length ss) (length ts) && sorts_agree ss ts

abbrev pub of_function : Option (List Sort × Sort) → Sort → List Sort → Mark
of_function None s ts = BadName
of_function (Some p) s ts = same_mark (sorts_same p.0 ts && sort_same p.1 s)

-- the sort has the classes that the symbol needs
abbrev pub has_classes : List Declaration → Sym → Sort → Bool
has_classes ds Add s = has_class ds s AddMonoid
has_classes ds Mul s = has_class ds s Semigroup
has_classes ds Neg s = has_class ds s AddGroup
has_classes ds Sub s = has_class ds s AddGroup
has_classes ds Inv s = has_class ds s Group || has_class ds s Field
has_classes ds Div s = has_class ds s Group || has_class ds s Field
has_classes ds Npow s = has_class ds s Monoid
has_classes ds Zpow s = has_class ds s Group || has_class ds s Field
has_classes ds Nsmul s = has_class ds s AddMonoid
has_classes ds Zsmul s = has_class ds s AddGroup
has_classes ds Abs s = has_class ds s Ring && has_class ds s IsStrictOrderedRing
has_classes ds Min s = has_class ds s LinearOrder
has_classes ds Max s = has_class ds s LinearOrder
has_classes ds _ s = true

-- a built-in symbol: the number and the sorts of its arguments, then the classes
abbrev pub built_in_mark : List Declaration → Sym → Sort → List Sort → Mark
built_in_mark ds f s ts =
    if nat_eq (length (places f)) (length ts) && arguments_fit f s ts then class_mark (has_classes ds f s) else BadSort

abbrev pub symbol_mark : List Declaration → Sym → Sort → List Sort → Mark
symbol_mark ds (Apply k) s ts = of_function (function_of (slice_get ds k)) s ts
symbol_mark ds f s ts = built_in_mark ds f s ts

abbrev pub sorts_of : Trees → List Sort
sorts_of Nil = []
sorts_of (Cons x xs) = sort_of_tree x ∷ sorts_of xs

-- the head of a compound, its sort and its arguments' sorts
abbrev pub head_mark : List Declaration → Sym → Sort → List Sort → Mark
head_mark ds f s ts = worse (sort_mark ds s) (symbol_mark ds f s ts)

-- the first cause over all nodes of a tree
abbrev mutual
  pub mark_of : List Declaration → Tree → Mark
  mark_of ds (Lit s n) = literal_mark ds s n
  mark_of ds (Var d s) = variable_mark ds d s
  mark_of ds (App f s xs) = worse (head_mark ds f s (sorts_of xs)) (marks_of ds xs)

  pub marks_of : List Declaration → Trees → Mark
  marks_of ds Nil = Good
  marks_of ds (Cons x xs) = worse (mark_of ds x) (marks_of ds xs)

-- arities, sorts and classes fit at every node
abbrev pub IsWellSorted : List Declaration → Tree → Type 0
IsWellSorted ds t = mark_of ds t ≡ Good

abbrev pub AreWellSorted : List Declaration → Trees → Type 0
AreWellSorted ds ts = marks_of ds ts ≡ Good

-- the sort has the relation
abbrev pub has_relation : List Declaration → Rel → Sort → Bool
has_relation ds Eq s = true
has_relation ds Ne s = true
has_relation ds Lt s = has_class ds s LinearOrder
has_relation ds Le s = has_class ds s LinearOrder
has_relation ds Dvd s = is_integral s

-- both sides are well sorted trees of the statement's sort, which has the relation
pub record IsStatement (ds : List Declaration) (s : Statement) : Type 0 where
  pub left : IsWellSorted ds s.lhs
  pub right : IsWellSorted ds s.rhs
  pub left_sort : sort_of_tree s.lhs ≡ s.sort
  pub right_sort : sort_of_tree s.rhs ≡ s.sort
  pub related : has_relation ds s.rel s.sort ≡ true
