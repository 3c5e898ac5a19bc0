-- The sides of earlier lines as trees, and what a good mark of a symbol tells.
use Rattle.std.proofs.Common.{◌≡◌, ℕ, zero, suc, List, [], ◌∷◌, length, refl, ap, arith, All, Bool, true, false, ◌&&◌, nat_eq, if◌then◌else◌}
use Rattle.std.proofs.lemmas.Bool.{and_parts}
use Rattle.std.proofs.lemmas.Bool.Decides.{nat_tests}
use Rattle.std.proofs.lemmas.List.Elements.{All-head, All-tail}
use Rattle.alg_terms.specs.declared.sorts.Sort.{Sort}
use Rattle.alg_terms.specs.declared.symbols.Sym.{Sym}
use Rattle.alg_terms.specs.declared.symbols.Sym.TheVariants.{Add, Mul, Neg, Sub, Inv, Div, Npow, Zpow, Nsmul, Zsmul, Abs, Min, Max, NatSub, IDiv, Mod, Gcd, Lcm, Fact, Choose, Fib, Apply}
use Rattle.alg_terms.specs.Symbols.{places, arguments_fit}
use Rattle.alg_terms.specs.Tree.{Tree, Cons, of_list, sort_of_tree}
use Rattle.alg_expr.specs.declared.ids.Stmt.{Stmt}
use Rattle.alg_expr.specs.Ids.{tree_of, trees_at, IsIn, statements_of, IsStatementIn}
use Rattle.alg_expr.specs.Applying.{arity_fits, sorts_fit, sorts_at}
use Rattle.alg_law.specs.declared.marks.Mark.{Mark}
use Rattle.alg_law.specs.declared.marks.Mark.TheVariants.{Good, NoInstance, BadSort, BadName}
use Rattle.alg_law.specs.Declarations.{Declaration}
use Rattle.alg_law.specs.WellSorted.{worse, sort_mark, head_mark, symbol_mark, built_in_mark, class_mark, has_classes, sorts_of}
use Rattle.alg_proof.specs.Steps.{left_sides, right_sides}
use Rattle.alg_kernel.specs.Sides.{left_ids, right_ids}

pub left_sides-ids : (ts : List Tree) (ss : List Stmt) → left_sides (statements_of ts ss) ≡ of_list (trees_at ts (left_ids ss))
left_sides-ids ts [] = refl
left_sides-ids ts (s ∷ ss) = ap (λ xs. Cons (tree_of ts s.lhs) xs) (left_sides-ids ts ss)

pub right_sides-ids : (ts : List Tree) (ss : List Stmt) → right_sides (statements_of ts ss) ≡ of_list (trees_at ts (right_ids ss))
right_sides-ids ts [] = refl
right_sides-ids ts (s ∷ ss) = ap (λ xs. Cons (tree_of ts s.rhs) xs) (right_sides-ids ts ss)

pub left-sorts : (ts : List Tree) (ss : List Stmt) → sorts_of (left_sides (statements_of ts ss)) ≡ sorts_at ts (left_ids ss)
left-sorts ts [] = refl
left-sorts ts (s ∷ ss) = ap (λ xs. sort_of_tree (tree_of ts s.lhs) ∷ xs) (left-sorts ts ss)

pub right-sorts : (ts : List Tree) (ss : List Stmt) → sorts_of (right_sides (statements_of ts ss)) ≡ sorts_at ts (right_ids ss)
right-sorts ts [] = refl
right-sorts ts (s ∷ ss) = ap (λ xs. sort_of_tree (tree_of ts s.rhs) ∷ xs) (right-sorts ts ss)

pub lefts-in : (ts : List Tree) (ss : List Stmt) → All (IsStatementIn ts) ss → All (IsIn ts) (left_ids ss)
lefts-in ts [] h k d l = absurd (omega (arith, l))
lefts-in ts (s ∷ ss) h zero d l = (All-head (IsStatementIn ts) s ss h).0
lefts-in ts (s ∷ ss) h (suc k) d l = lefts-in ts ss (All-tail (IsStatementIn ts) s ss h) k d (omega (arith, l))

pub rights-in : (ts : List Tree) (ss : List Stmt) → All (IsStatementIn ts) ss → All (IsIn ts) (right_ids ss)
rights-in ts [] h k d l = absurd (omega (arith, l))
rights-in ts (s ∷ ss) h zero d l = (All-head (IsStatementIn ts) s ss h).1
rights-in ts (s ∷ ss) h (suc k) d l = rights-in ts ss (All-tail (IsStatementIn ts) s ss h) k d (omega (arith, l))

-- a good mark of a symbol
built_in-good : (b : Bool) (m : Mark) → (if b then m else BadSort) ≡ Good → b ≡ true
built_in-good true m e = refl
built_in-good false m e = cc

flip : (m n : ℕ) → nat_eq m n ≡ true → nat_eq n m ≡ true
flip m n e = grind (arith, nat_tests)

built_in-fits : (ds : List Declaration) (f : Sym) (s : Sort) (ts : List Sort) → built_in_mark ds f s ts ≡ Good → (nat_eq (length ts) (length (places f)) ≡ true) × (arguments_fit f s ts ≡ true)
built_in-fits ds f s ts e =
    let b = built_in-good (nat_eq (length (places f)) (length ts) && arguments_fit f s ts) (class_mark (has_classes ds f s)) e in
    let p = and_parts (nat_eq (length (places f)) (length ts)) (arguments_fit f s ts) b in
    (flip (length (places f)) (length ts) p.0, p.1)

symbol-fits : (ds : List Declaration) (f : Sym) (s : Sort) (ts : List Sort) → symbol_mark ds f s ts ≡ Good → (arity_fits f (length ts) ≡ true) × (sorts_fit f s ts ≡ true)
symbol-fits ds (Apply k) s ts e = (refl, refl)
symbol-fits ds Add s ts e = built_in-fits ds Add s ts e
symbol-fits ds Mul s ts e = built_in-fits ds Mul s ts e
symbol-fits ds Neg s ts e = built_in-fits ds Neg s ts e
symbol-fits ds Sub s ts e = built_in-fits ds Sub s ts e
symbol-fits ds Inv s ts e = built_in-fits ds Inv s ts e
symbol-fits ds Div s ts e = built_in-fits ds Div s ts e
symbol-fits ds Npow s ts e = built_in-fits ds Npow s ts e
symbol-fits ds Zpow s ts e = built_in-fits ds Zpow s ts e
symbol-fits ds Nsmul s ts e = built_in-fits ds Nsmul s ts e
symbol-fits ds Zsmul s ts e = built_in-fits ds Zsmul s ts e
symbol-fits ds Abs s ts e = built_in-fits ds Abs s ts e
symbol-fits ds Min s ts e = built_in-fits ds Min s ts e
symbol-fits ds Max s ts e = built_in-fits ds Max s ts e
symbol-fits ds NatSub s ts e = built_in-fits ds NatSub s ts e
symbol-fits ds IDiv s ts e = built_in-fits ds IDiv s ts e
symbol-fits ds Mod s ts e = built_in-fits ds Mod s ts e
symbol-fits ds Gcd s ts e = built_in-fits ds Gcd s ts e
symbol-fits ds Lcm s ts e = built_in-fits ds Lcm s ts e
symbol-fits ds Fact s ts e = built_in-fits ds Fact s ts e
symbol-fits ds Choose s ts e = built_in-fits ds Choose s ts e
symbol-fits ds Fib s ts e = built_in-fits ds Fib s ts e

worse-good-right : (a b : Mark) → worse a b ≡ Good → b ≡ Good
worse-good-right Good b e = e
worse-good-right NoInstance Good e = refl
worse-good-right NoInstance NoInstance e = cc
worse-good-right NoInstance BadSort e = cc
worse-good-right NoInstance BadName e = cc
worse-good-right BadSort Good e = refl
worse-good-right BadSort NoInstance e = cc
worse-good-right BadSort BadSort e = cc
worse-good-right BadSort BadName e = cc
worse-good-right BadName b e = cc

pub head-fits : (ds : List Declaration) (f : Sym) (s : Sort) (ts : List Sort) → head_mark ds f s ts ≡ Good → (arity_fits f (length ts) ≡ true) × (sorts_fit f s ts ≡ true)
head-fits ds f s ts e = symbol-fits ds f s ts (worse-good-right (sort_mark ds s) (symbol_mark ds f s ts) e)
