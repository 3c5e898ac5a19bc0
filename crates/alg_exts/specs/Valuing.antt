-- What a numeral extension is asked, and what it answers.
use Rattle.std.specs.Prelude.{◌≡◌, List, map, Option, Some, None, Result, Ok, Err, Bool, true, All, ⊤}
use Rattle.alg_terms.specs.declared.sorts.Sort.{Sort}
use Rattle.alg_terms.specs.declared.symbols.Sym.{Sym}
use Rattle.alg_terms.specs.Tree.{Tree, Lit, Var, App, of_list, sort_of_tree}
use Rattle.alg_expr.specs.declared.ids.ExprId.{ExprId}
use Rattle.alg_expr.specs.Ids.{tree_of, IsIn}
use Rattle.alg_num.specs.Fraction.{Fraction}
use Rattle.alg_law.specs.WellSorted.{IsWellSorted}
use Rattle.alg_build.specs.Book.{Book, Proves}
use Rattle.alg_values.specs.Setting.{Classes}
use Rattle.alg_values.specs.Functions.{named_of}
use Rattle.alg_values.specs.Numerals.{numeral_tree}
use Rattle.alg_values.specs.declared.value.Value.{Value}
use Rattle.alg_values.specs.declared.value.Value.TheVariants.{Num, Past, Without}
use Rattle.alg_exts.specs.declared.num_ext.Valued.{Valued}
use Rattle.alg_exts.specs.declared.num_ext.NumFault.{NumFault}
use Rattle.alg_exts.specs.declared.num_ext.NumFault.TheVariants as fault

-- the tree is there, and its line concludes that it equals the numeral of its value
pub record IsValued (b : Book) (v : Valued) : Type 0 where
  pub here : IsIn b.trees v.expr
  pub proves : Proves b v.line (tree_of b.trees v.expr) (numeral_tree (sort_of_tree (tree_of b.trees v.expr)) v.value)

-- the trees of evaluated parts
abbrev pub trees_of : Book → List Valued → List Tree
trees_of b vs = map (λ v. tree_of b.trees v.expr) vs

-- their values
abbrev pub fractions_of : List Valued → List Fraction
fractions_of vs = map (λ v. v.value) vs

-- the tree is this symbol over these evaluated parts
pub record IsOver (b : Book) (e : ExprId) (f : Sym) (s : Sort) (args : List Valued) : Type 0 where
  pub here : IsIn b.trees e
  pub tree : tree_of b.trees e ≡ App f s (of_list (trees_of b args))
  pub sorted : IsWellSorted b.theory.declarations (tree_of b.trees e)
  pub valued : All (IsValued b) args

-- and its head is covered
pub record IsCalled (b : Book) (covers : Sym → Bool) (e : ExprId) (args : List Valued) : Type 0 where
  pub sym : Sym
  pub sort : Sort
  pub covered : covers sym ≡ true
  pub over : IsOver b e sym sort args

-- the value of the tree's head at these fractions, if it's a named function
abbrev pub value_over : Classes → Tree → List Fraction → Value
value_over has (Lit s n) ps = Without
value_over has (Var d s) ps = Without
value_over has (App f s ts) ps = named_of has f s ps

-- the answer is this value, with a line; want of memory is free
abbrev pub GivesValue : Book → ExprId → Result (Option Valued) NumFault → Value → Type 0
GivesValue b e (Ok (Some v)) a = (a ≡ Num v.value) × (v.expr ≡ e) × IsValued b v
GivesValue b e (Ok None) a = a ≡ Without
GivesValue b e (Err fault.Range) a = a ≡ Past
GivesValue b e (Err fault.Memory) a = ⊤
