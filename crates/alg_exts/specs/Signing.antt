-- What a sign extension is asked, and what it answers.
use Rattle.std.specs.Prelude.{◌≡◌, ℕ, List, map, Option, Some, None, option_map, IsSome, Result, Ok, Err, Bool, true, All, ⊤}
use Rattle.alg_terms.specs.declared.sorts.Sort.{Sort}
use Rattle.alg_terms.specs.declared.symbols.Sym.{Sym}
use Rattle.alg_terms.specs.declared.relations.Rel.TheVariants.{Ne, Lt, Le}
use Rattle.alg_terms.specs.Tree.{Tree, Lit, Var, App, of_list, sort_of_tree, Statement}
use Rattle.alg_expr.specs.declared.ids.ExprId.{ExprId}
use Rattle.alg_expr.specs.declared.memory.Memory.{Memory}
use Rattle.alg_expr.specs.Ids.{tree_of, IsIn}
use Rattle.alg_law.specs.declared.classes.Class.TheVariants.{IsStrictOrderedRing}
use Rattle.alg_law.specs.Having.{has_class}
use Rattle.alg_law.specs.WellSorted.{IsWellSorted}
use Rattle.alg_law.specs.Derivations.{related}
use Rattle.alg_build.specs.Book.{Book, Concludes}
use Rattle.alg_values.specs.Setting.{Classes}
use Rattle.alg_exts.specs.Signs.{Sign, is_signed, sign_of_head}
use Rattle.alg_exts.specs.declared.sign_ext.SignKind.{SignKind}
use Rattle.alg_exts.specs.declared.sign_ext.SignKind.TheVariants.{Pos, Nonneg, Nonzero}
use Rattle.alg_exts.specs.declared.sign_ext.Signed.{Signed}

-- what the sign of a tree says
abbrev pub sign_statement : SignKind → Tree → Statement
sign_statement Pos t = related Lt (sort_of_tree t) (Lit (sort_of_tree t) 0) t
sign_statement Nonneg t = related Le (sort_of_tree t) (Lit (sort_of_tree t) 0) t
sign_statement Nonzero t = related Ne (sort_of_tree t) t (Lit (sort_of_tree t) 0)

-- the line concludes the sign, if there is one
abbrev pub ProvesSign : Book → Option (SignKind × ℕ) → Tree → Type 0
ProvesSign b None t = ⊤
ProvesSign b (Some found) t = Concludes b found.1 (sign_statement found.0 t)

pub record IsSigned (b : Book) (p : Signed) : Type 0 where
  pub here : IsIn b.trees p.expr
  pub proves : ProvesSign b p.sign (tree_of b.trees p.expr)

-- the trees of parts
abbrev pub signed_trees : Book → List Signed → List Tree
signed_trees b ps = map (λ p. tree_of b.trees p.expr) ps

abbrev pub sign_in : Signed → Sign
sign_in p = option_map (λ found. found.0) p.sign

-- their signs
abbrev pub kinds_of : List Signed → List Sign
kinds_of ps = map sign_in ps

-- the tree is this symbol over these parts, and may be asked for its sign
pub record IsSignedOver (b : Book) (e : ExprId) (f : Sym) (s : Sort) (parts : List Signed) : Type 0 where
  pub here : IsIn b.trees e
  pub tree : tree_of b.trees e ≡ App f s (of_list (signed_trees b parts))
  pub sorted : IsWellSorted b.theory.declarations (tree_of b.trees e)
  pub signed : is_signed f ≡ true
  pub ordered : has_class b.theory.declarations s IsStrictOrderedRing ≡ true
  pub known : All (IsSigned b) parts

-- and its head is handled
pub record IsAsked (b : Book) (handles : Sym → Bool) (e : ExprId) (parts : List Signed) : Type 0 where
  pub sym : Sym
  pub sort : Sort
  pub handled : handles sym ≡ true
  pub over : IsSignedOver b e sym sort parts

-- the sign of the tree's head over parts with these signs
abbrev pub sign_over : Classes → Tree → List Sign → Sign
sign_over has (Lit s n) signs = None
sign_over has (Var d s) signs = None
sign_over has (App f s ts) signs = sign_of_head has f s signs

-- the answer is this sign, with a line; want of memory is free
abbrev pub GivesSign : Book → ExprId → Result (Option Signed) Memory → Sign → Type 0
GivesSign b e (Ok (Some p)) a = (a ≡ sign_in p) × IsSome a × (p.expr ≡ e) × IsSigned b p
GivesSign b e (Ok None) a = a ≡ None
GivesSign b e (Err f) a = ⊤
