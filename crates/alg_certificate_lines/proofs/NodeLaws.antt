-- A symbol over trees of an arena.
use Rattle.std.proofs.Common.{◌≡◌, ℕ, Bool, true, false, ◌&&◌, nat_eq, List, [], ◌∷◌, length, Option, Some, None, refl, sym, ap, ◌∙◌, arith, if◌then◌else◌}
use Rattle.std.proofs.lemmas.Bool.{and_parts, both_ways}
use Rattle.std.proofs.lemmas.Bool.Decides.{nat_tests}
use Rattle.alg_terms.specs.declared.sorts.Sort.{Sort}
use Rattle.alg_terms.specs.declared.symbols.Sym.{Sym}
use Rattle.alg_terms.specs.declared.symbols.Sym.TheVariants as symbol
use Rattle.alg_terms.specs.Symbols.{places, arguments_fit, is_built_in}
use Rattle.alg_terms.specs.Tree.{Tree, App, of_list, sort_of_tree}
use Rattle.alg_expr.specs.declared.ids.ExprId.{ExprId}
use Rattle.alg_expr.specs.Applying.{sorts_at, arity_fits, sorts_fit}
use Rattle.alg_expr.specs.Ids.{tree_of, trees_at}
use Rattle.alg_law.specs.declared.marks.Mark.{Mark}
use Rattle.alg_law.specs.declared.marks.Mark.TheVariants.{Good, NoInstance, BadSort, BadName}
use Rattle.alg_law.specs.Declarations.{Declaration}
use Rattle.alg_law.specs.WellSorted.{worse, sort_mark, class_mark, has_classes, symbol_mark, head_mark}
use Rattle.alg_proof.specs.Steps.{value_sort}
use Rattle.alg_certificate_lines.specs.Typed.{is_sorted, sorts, node_over, node_of}

pub sorts_listed : (ts : List Tree) (es : List ExprId) → sorts (trees_at ts es) ≡ sorts_at ts es
sorts_listed ts [] = refl
sorts_listed ts (e ∷ es) = ap (λ ss. sort_of_tree (tree_of ts e) ∷ ss) (sorts_listed ts es)

over_sorts : (ds : List Declaration) (f : Sym) (ts : List Tree) (es : List ExprId) (o : Option Sort) → value_sort ds f (sorts_at ts es) ≡ o → node_of ds f (trees_at ts es) ≡ node_over ds f (trees_at ts es) o
over_sorts ds f ts es o e = ap (λ ss. node_over ds f (trees_at ts es) (value_sort ds f ss)) (sorts_listed ts es) ∙ ap (node_over ds f (trees_at ts es)) e

pub node_unvalued : (ds : List Declaration) (f : Sym) (ts : List Tree) (es : List ExprId) → value_sort ds f (sorts_at ts es) ≡ None → node_of ds f (trees_at ts es) ≡ None
node_unvalued ds f ts es e = over_sorts ds f ts es None e

tested : (ds : List Declaration) (f : Sym) (ts : List Tree) (es : List ExprId) (s : Sort) (b : Bool) → value_sort ds f (sorts_at ts es) ≡ Some s → is_sorted (head_mark ds f s (sorts_at ts es)) ≡ b → node_of ds f (trees_at ts es) ≡ (if◌then◌else◌ {A = Option Tree} b (Some (App f s (of_list (trees_at ts es)))) None)
tested ds f ts es s b e d =
    over_sorts ds f ts es (Some s) e
    ∙ ap (λ c. if◌then◌else◌ {A = Option Tree} c (Some (App f s (of_list (trees_at ts es)))) None) (ap (λ ss. is_sorted (head_mark ds f s ss)) (sorts_listed ts es) ∙ d)

pub node_unsorted : (ds : List Declaration) (f : Sym) (ts : List Tree) (es : List ExprId) (s : Sort) → value_sort ds f (sorts_at ts es) ≡ Some s → is_sorted (head_mark ds f s (sorts_at ts es)) ≡ false → node_of ds f (trees_at ts es) ≡ None
node_unsorted ds f ts es s e d = tested ds f ts es s false e d

pub node_there : (ds : List Declaration) (f : Sym) (ts : List Tree) (es : List ExprId) (s : Sort) (t : Tree) → value_sort ds f (sorts_at ts es) ≡ Some s → is_sorted (head_mark ds f s (sorts_at ts es)) ≡ true → t ≡ App f s (of_list (trees_at ts es)) → node_of ds f (trees_at ts es) ≡ Some t
node_there ds f ts es s t e d h = tested ds f ts es s true e d ∙ ap (λ x. Some x) (sym h)

-- what is sorted fits
worse_sorted : (a b : Mark) → is_sorted (worse a b) ≡ true → is_sorted b ≡ true
worse_sorted Good b e = e
worse_sorted NoInstance Good e = refl
worse_sorted NoInstance NoInstance e = refl
worse_sorted NoInstance BadSort e = e
worse_sorted NoInstance BadName e = e
worse_sorted BadSort Good e = refl
worse_sorted BadSort NoInstance e = refl
worse_sorted BadSort BadSort e = e
worse_sorted BadSort BadName e = e
worse_sorted BadName b e = cc

test_sorted : (b : Bool) (m : Mark) → is_sorted (if◌then◌else◌ {A = Mark} b m BadSort) ≡ true → b ≡ true
test_sorted true m e = refl
test_sorted false m e = cc

swapped : (m n : ℕ) → nat_eq m n ≡ true → nat_eq n m ≡ true
swapped m n e = grind (arith, nat_tests)

abbrev Fits : Sym → Sort → List Sort → Type 0
Fits f s ts = (arity_fits f (length ts) ≡ true) × (sorts_fit f s ts ≡ true)

fits_by : (f : Sym) (s : Sort) (ts : List Sort) (m : Mark) → is_sorted (if◌then◌else◌ {A = Mark} (nat_eq (length (places f)) (length ts) && arguments_fit f s ts) m BadSort) ≡ true → is_built_in f ≡ true → Fits f s ts
fits_by f s ts m e b =
    let p = and_parts (nat_eq (length (places f)) (length ts)) (arguments_fit f s ts) (test_sorted _ m e) in
    (rw (b, swapped _ _ p.0) refl, rw (b, p.1) refl)

symbol_fits : (ds : List Declaration) (f : Sym) (s : Sort) (ts : List Sort) → is_sorted (symbol_mark ds f s ts) ≡ true → Fits f s ts
symbol_fits ds symbol.Add s ts e = fits_by symbol.Add s ts (class_mark (has_classes ds symbol.Add s)) e refl
symbol_fits ds symbol.Mul s ts e = fits_by symbol.Mul s ts (class_mark (has_classes ds symbol.Mul s)) e refl
symbol_fits ds symbol.Neg s ts e = fits_by symbol.Neg s ts (class_mark (has_classes ds symbol.Neg s)) e refl
symbol_fits ds symbol.Sub s ts e = fits_by symbol.Sub s ts (class_mark (has_classes ds symbol.Sub s)) e refl
symbol_fits ds symbol.Inv s ts e = fits_by symbol.Inv s ts (class_mark (has_classes ds symbol.Inv s)) e refl
symbol_fits ds symbol.Div s ts e = fits_by symbol.Div s ts (class_mark (has_classes ds symbol.Div s)) e refl
symbol_fits ds symbol.Npow s ts e = fits_by symbol.Npow s ts (class_mark (has_classes ds symbol.Npow s)) e refl
symbol_fits ds symbol.Zpow s ts e = fits_by symbol.Zpow s ts (class_mark (has_classes ds symbol.Zpow s)) e refl
symbol_fits ds symbol.Nsmul s ts e = fits_by symbol.Nsmul s ts (class_mark (has_classes ds symbol.Nsmul s)) e refl
symbol_fits ds symbol.Zsmul s ts e = fits_by symbol.Zsmul s ts (class_mark (has_classes ds symbol.Zsmul s)) e refl
symbol_fits ds symbol.Abs s ts e = fits_by symbol.Abs s ts (class_mark (has_classes ds symbol.Abs s)) e refl
symbol_fits ds symbol.Min s ts e = fits_by symbol.Min s ts (class_mark (has_classes ds symbol.Min s)) e refl
symbol_fits ds symbol.Max s ts e = fits_by symbol.Max s ts (class_mark (has_classes ds symbol.Max s)) e refl
symbol_fits ds symbol.NatSub s ts e = fits_by symbol.NatSub s ts (class_mark (has_classes ds symbol.NatSub s)) e refl
symbol_fits ds symbol.IDiv s ts e = fits_by symbol.IDiv s ts (class_mark (has_classes ds symbol.IDiv s)) e refl
symbol_fits ds symbol.Mod s ts e = fits_by symbol.Mod s ts (class_mark (has_classes ds symbol.Mod s)) e refl
symbol_fits ds symbol.Gcd s ts e = fits_by symbol.Gcd s ts (class_mark (has_classes ds symbol.Gcd s)) e refl
symbol_fits ds symbol.Lcm s ts e = fits_by symbol.Lcm s ts (class_mark (has_classes ds symbol.Lcm s)) e refl
symbol_fits ds symbol.Fact s ts e = fits_by symbol.Fact s ts (class_mark (has_classes ds symbol.Fact s)) e refl
symbol_fits ds symbol.Choose s ts e = fits_by symbol.Choose s ts (class_mark (has_classes ds symbol.Choose s)) e refl
symbol_fits ds symbol.Fib s ts e = fits_by symbol.Fib s ts (class_mark (has_classes ds symbol.Fib s)) e refl
symbol_fits ds (symbol.Apply k) s ts e = (refl, refl)

fitting : (ds : List Declaration) (f : Sym) (s : Sort) (ts : List Sort) → is_sorted (head_mark ds f s ts) ≡ true → Fits f s ts
fitting ds f s ts e = symbol_fits ds f s ts (worse_sorted (sort_mark ds s) (symbol_mark ds f s ts) e)

pub no_arity : (ds : List Declaration) (f : Sym) (s : Sort) (ts : List Sort) → is_sorted (head_mark ds f s ts) ≡ true → arity_fits f (length ts) ≡ false → ⊥
no_arity ds f s ts e d = both_ways (arity_fits f (length ts)) d (fitting ds f s ts e).0

pub no_sorts : (ds : List Declaration) (f : Sym) (s : Sort) (ts : List Sort) → is_sorted (head_mark ds f s ts) ≡ true → sorts_fit f s ts ≡ false → ⊥
no_sorts ds f s ts e d = both_ways (sorts_fit f s ts) d (fitting ds f s ts e).1
