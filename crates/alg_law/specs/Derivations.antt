-- Derivations: Birkhoff's equational logic with relations and premises.
use Rattle.std.specs.Prelude.{◌≡◌, ℕ, suc, ℤ, pos, negsuc, unsigned_abs, List, [], ◌∷◌, map, Option, Some, Contains, true, ◌||◌}
use Rattle.std.specs.Int.{◌∣◌}
use Rattle.alg_terms.specs.declared.sorts.Sort.{Sort}
use Rattle.alg_terms.specs.declared.sorts.Sort.TheVariants.{Nat, Int}
use Rattle.alg_terms.specs.declared.symbols.Sym.{Sym}
use Rattle.alg_terms.specs.declared.symbols.Sym.TheVariants.{Neg, Nsmul, Zsmul, Npow, Zpow}
use Rattle.alg_terms.specs.declared.relations.Rel.{Rel}
use Rattle.alg_terms.specs.declared.relations.Rel.TheVariants.{Ne, Dvd}
use Rattle.alg_terms.specs.Tree.{Tree, Lit, App, Trees, Nil, Cons, of_list, Statement, sort_of_tree, equal, sum_tree, product_tree}
use Rattle.alg_law.specs.declared.classes.Class.TheVariants.{Semiring, CharZero, AddGroup, Group, Field}
use Rattle.alg_law.specs.declared.marks.Mark.TheVariants.{Good}
use Rattle.alg_law.specs.Declarations.{Declaration, hypotheses}
use Rattle.alg_law.specs.Having.{has_class}
use Rattle.alg_law.specs.WellSorted.{sort_mark, IsWellSorted}
use Rattle.alg_law.specs.Patterns.{fill_statement}
use Rattle.alg_law.specs.Rows.{Row, letters_of, MayFill}
use Rattle.alg_law.specs.Laws.{law_table}
use Rattle.alg_law.specs.LeanFunctions.{IsNaturalValue, IsIntegerValue}

-- the equations of two lists of trees, as far as both go
abbrev pub equations : Trees → Trees → List Statement
equations Nil ys = []
equations (Cons x xs) Nil = []
equations (Cons x xs) (Cons y ys) = equal x y ∷ equations xs ys

abbrev pub count_of : Trees → ℕ
count_of Nil = 0
count_of (Cons x xs) = suc (count_of xs)

abbrev pub related : Rel → Sort → Tree → Tree → Statement
related r s x y = record { rel = r; sort = s; lhs = x; rhs = y }

-- an integer as a tree: a literal, or the negation of one where it is below 0
abbrev pub numeral : ℤ → Tree
numeral (pos n) = Lit Int n
numeral (negsuc n) = App Neg Int (Cons (Lit Int (suc n)) Nil)

-- the laws of literals: the next one, different ones, multiples and powers by a literal, the values of
-- Lean's functions, and what divides what
pub data LiteralLaw (ds : List Declaration) : Statement → Type 0 where
  next_literal : (s : Sort) (n : ℕ) → sort_mark ds s ≡ Good → has_class ds s Semiring ≡ true → LiteralLaw ds (equal (Lit s (suc n)) (sum_tree s (Lit s n) (Lit s 1)))
  distinct : (s : Sort) (m n : ℕ) → sort_mark ds s ≡ Good → has_class ds s CharZero ≡ true → (m ≡ n → ⊥) → LiteralLaw ds (related Ne s (Lit s m) (Lit s n))
  smul_literal : (x : Tree) (n : ℕ) → IsWellSorted ds x → has_class ds (sort_of_tree x) Semiring ≡ true → LiteralLaw ds (equal (App Nsmul (sort_of_tree x) (Cons (Lit Nat n) (Cons x Nil))) (product_tree (sort_of_tree x) (Lit (sort_of_tree x) n) x))
  zsmul_literal : (x : Tree) (n : ℕ) → IsWellSorted ds x → has_class ds (sort_of_tree x) AddGroup ≡ true → LiteralLaw ds (equal (App Zsmul (sort_of_tree x) (Cons (Lit Int n) (Cons x Nil))) (App Nsmul (sort_of_tree x) (Cons (Lit Nat n) (Cons x Nil))))
  zpow_literal : (x : Tree) (n : ℕ) → IsWellSorted ds x → (has_class ds (sort_of_tree x) Group || has_class ds (sort_of_tree x) Field) ≡ true → LiteralLaw ds (equal (App Zpow (sort_of_tree x) (Cons x (Cons (Lit Int n) Nil))) (App Npow (sort_of_tree x) (Cons x (Cons (Lit Nat n) Nil))))
  natural_value : (f : Sym) (xs : List ℕ) (v : ℕ) → IsNaturalValue f xs v → LiteralLaw ds (equal (App f Nat (of_list (map (Lit Nat) xs))) (Lit Nat v))
  integer_value : (f : Sym) (xs : List ℤ) (v : ℤ) → IsIntegerValue f xs v → LiteralLaw ds (equal (App f Int (of_list (map numeral xs))) (numeral v))
  natural_divides : (x y : ℕ) → x ∣ y → LiteralLaw ds (related Dvd Nat (Lit Nat x) (Lit Nat y))
  integer_divides : (x y : ℤ) → unsigned_abs x ∣ unsigned_abs y → LiteralLaw ds (related Dvd Int (numeral x) (numeral y))

mutual
  -- a derivation under declarations and, where there is one, a given statement; its index is its root
  pub data Derivable (ds : List Declaration) (given : Option Statement) : Statement → Type 0 where
    reflexive : (x : Tree) → IsWellSorted ds x → Derivable ds given (equal x x)
    symmetric : (x y : Tree) → sort_of_tree y ≡ sort_of_tree x → Derivable ds given (equal x y) → Derivable ds given (equal y x)
    transitive : (x y z : Tree) → Derivable ds given (equal x y) → Derivable ds given (equal y z) → Derivable ds given (equal x z)
    congruent : (f : Sym) (s : Sort) (xs ys : Trees) → IsWellSorted ds (App f s xs) → IsWellSorted ds (App f s ys) → count_of xs ≡ count_of ys → AllDerivable ds given (equations xs ys) → Derivable ds given (equal (App f s xs) (App f s ys))
    substitution : (r : Rel) (s : Sort) (x y u v : Tree) → Derivable ds given (related r s x y) → Derivable ds given (equal x u) → Derivable ds given (equal y v) → Derivable ds given (related r s u v)
    row : (r : Row) (s : Sort) (with : List Tree) → Contains law_table r → MayFill ds r s with → AllDerivable ds given (map (fill_statement (letters_of r) s with) r.premises) → Derivable ds given (fill_statement (letters_of r) s with r.conclusion)
    literal_law : (s : Statement) → LiteralLaw ds s → Derivable ds given s
    hypothesis : (s : Statement) → Contains (hypotheses ds) s → Derivable ds given s
    rest : (s : Statement) → given ≡ Some s → Derivable ds given s

  -- a derivation of each
  pub data AllDerivable (ds : List Declaration) (given : Option Statement) : List Statement → Type 0 where
    none : AllDerivable ds given []
    more : (s : Statement) (ss : List Statement) → Derivable ds given s → AllDerivable ds given ss → AllDerivable ds given (s ∷ ss)
