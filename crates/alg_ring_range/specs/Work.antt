-- What it costs to expand a tree, and whether a step of it is too large.
use Rattle.std.specs.List.{list_any}
use Rattle.std.specs.Prelude.{sum, ◌≡◌, ℕ, ◌+◌, ◌*◌, ◌<◌, ◌≤◌, ◌^◌, nat_lt, Bool, true, false, ◌||◌, Option, Some, None, List, [], ◌∷◌, length, get_or, All}
use Rattle.alg_terms.specs.declared.sorts.Sort.{Sort}
use Rattle.alg_terms.specs.declared.sorts.Sort.TheVariants.{Nat}
use Rattle.alg_terms.specs.declared.symbols.Sym.{Sym}
use Rattle.alg_terms.specs.declared.symbols.Sym.TheVariants.{Add, Mul, Neg, Sub, Inv, Div, Npow}
use Rattle.alg_terms.specs.Tree.{Tree, Lit, Var, App, Trees, Nil, Cons, of_list}
use Rattle.alg_num.specs.Fraction.{Fraction}
use Rattle.alg_expr.specs.declared.ids.ExprId.{ExprId}
use Rattle.alg_expr.specs.Ids.{tree_of, trees_at}
use Rattle.alg_sums.specs.Rational.{rational}
use Rattle.alg_expansions.specs.Numerals.{numeral}
use Rattle.alg_expansions.specs.Cost.{terms, power_steps}
use Rattle.alg_ring_range.specs.Capped.{capped}
use Rattle.alg_expansions.specs.Setting.{Setting}
use Rattle.alg_ring_range.specs.Numbers.{Numbers, all_numbers}
use Rattle.alg_ring_range.specs.declared.work.Work.{Work}

-- what the work depends on: how many monomials a tree has, and of a power what the steps of its expansion cost and
-- whether one of them is too large
pub record Counts : Type 0 where
  pub terms : Tree → ℕ
  pub steps : Tree → Work

abbrev pub leaf : Work
leaf = record { cost = 1; is_large = false }

abbrev pub sum_work : ℕ → ℕ → Work → Work → Work
sum_work m n x y = record { cost = x.cost + y.cost + 1; is_large = nat_lt 4096 (m + n) || (x.is_large || y.is_large) }

abbrev pub product_work : ℕ → ℕ → Work → Work → Work
product_work m n x y = record { cost = x.cost + y.cost + m * n; is_large = nat_lt 4096 (m * n) || (x.is_large || y.is_large) }

abbrev pub one_more : Work → Work
one_more x = record { cost = x.cost + 1; is_large = x.is_large }

abbrev pub power_work : Option ℕ → Work → Work → Work → Work
power_work None steps x y = leaf
power_work (Some c) steps x y = record { cost = x.cost + y.cost + 1 + steps.cost; is_large = steps.is_large || (x.is_large || y.is_large) }

abbrev pub inverse_work : Option Fraction → Work → Work
inverse_work None x = leaf
inverse_work (Some q) x = one_more x

abbrev pub quotient_work : Option Fraction → ℕ → Work → Work → Work
quotient_work None m x y = record { cost = x.cost + m; is_large = x.is_large }
quotient_work (Some q) m x y = record { cost = x.cost + m + y.cost; is_large = x.is_large || y.is_large }

-- by the head, the parts, their numbers and their work
abbrev pub work_over : Counts → Sym → Sort → Trees → List Numbers → List Work → Work
work_over o Add s (Cons a (Cons b Nil)) ns (x ∷ y ∷ []) = sum_work (o.terms a) (o.terms b) x y
work_over o Sub s (Cons a (Cons b Nil)) ns (x ∷ y ∷ []) = sum_work (o.terms a) (o.terms b) x y
work_over o Mul s (Cons a (Cons b Nil)) ns (x ∷ y ∷ []) = product_work (o.terms a) (o.terms b) x y
work_over o Neg s (Cons a Nil) ns (x ∷ []) = one_more x
work_over o Npow s (Cons a (Cons b Nil)) (m ∷ n ∷ []) (x ∷ y ∷ []) = power_work n.numeral (o.steps (App Npow s (Cons a (Cons b Nil)))) x y
work_over o Inv s (Cons a Nil) (m ∷ []) (x ∷ []) = inverse_work m.fraction x
work_over o Div s (Cons a (Cons b Nil)) (m ∷ n ∷ []) (x ∷ y ∷ []) = quotient_work n.fraction (o.terms a) x y
work_over o f s ts ns xs = leaf

abbrev mutual
  pub work : Counts → Setting → Tree → Work
  work o k (Lit s n) = leaf
  work o k (Var d s) = leaf
  work o k (App f s ts) = work_over o f s ts (all_numbers k ts) (all_work o k ts)

  pub all_work : Counts → Setting → Trees → List Work
  all_work o k Nil = []
  all_work o k (Cons t ts) = work o k t ∷ all_work o k ts

-- the work of several trees
abbrev pub both_works : Work → Work → Work
both_works x y = record { cost = x.cost + y.cost; is_large = x.is_large || y.is_large }

abbrev pub works_of : Counts → Setting → List Tree → Work
works_of o k [] = record { cost = 0; is_large = false }
works_of o k (t ∷ ts) = both_works (work o k t) (works_of o k ts)

-- a visited step of a tree is too large, or the trees cost more than 2^18 together
abbrev pub are_too_costly : Counts → Setting → List Tree → Bool
are_too_costly o k ts = nat_lt (2 ^ 18) (works_of o k ts).cost || (works_of o k ts).is_large

-- how many terms trees have, and what the steps of powers cost, by expanding

abbrev pub steps_by : Setting → Tree → Option ℕ → Work
steps_by k a None = record { cost = 0; is_large = false }
steps_by k a (Some n) = record { cost = sum (power_steps rational k a n); is_large = list_any (nat_lt 4096) (power_steps rational k a n) }

abbrev pub steps_of : Setting → Tree → Work
steps_of k (App Npow s (Cons a (Cons e Nil))) = steps_by k a (numeral e)
steps_of k t = record { cost = 0; is_large = false }

abbrev pub counts_of : Setting → Counts
counts_of k = record { terms = terms rational k; steps = steps_of k }

-- what stands for a tree that isn't wanted
abbrev pub no_work : Work
no_work = record { cost = 0; is_large = false }

-- the cost is capped
pub record IsWork (w v : Work) : Type 0 where
  pub cost : w.cost ≡ capped v.cost
  pub large : w.is_large ≡ v.is_large

-- what the code is told of the trees of an arena
pub record AreCounts (o : Counts) (trees : List Tree) (counts : List ℕ) (steps : List Work) : Type 0 where
  pub counted : length counts ≡ length trees
  pub stepped : length steps ≡ length trees
  pub terms : (i : ℕ) → i < length trees → get_or counts i 0 ≡ o.terms (get_or trees i (Lit Nat 0))
  pub steps_are : (i : ℕ) → i < length trees → IsWork (get_or steps i no_work) (o.steps (get_or trees i (Lit Nat 0)))

-- of the first trees, those that are wanted
pub record AreWorks (o : Counts) (k : Setting) (trees : List Tree) (wanted : List Bool) (works : List Work) : Type 0 where
  pub within : length works ≤ length trees
  pub each : (i : ℕ) → i < length works → get_or wanted i false ≡ true → IsWork (get_or works i no_work) (work o k (get_or trees i (Lit Nat 0)))

-- the parts are found
pub record ArePartsWorks (o : Counts) (k : Setting) (trees : List Tree) (works : List Work) (args : List ExprId) : Type 0 where
  pub within : All (λ a. a.index < length works) args
  pub each : All (λ a. IsWork (get_or works a.index no_work) (work o k (tree_of trees a))) args

-- the parts of a tree are found, whatever ids they have
abbrev pub HasWorks : Counts → Setting → List Tree → List Work → ExprId → Type 0
HasWorks o k trees works e = (f : Sym) (s : Sort) (args : List ExprId) → tree_of trees e ≡ App f s (of_list (trees_at trees args)) → All (λ a. a.index < e.index) args → ArePartsWorks o k trees works args
