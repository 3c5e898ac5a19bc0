-- What the lines conclude that speak of literals: sums, products, relations and bridges.
use Rattle.std.specs.Prelude.{ℕ, ◌+◌, ◌*◌, Bool, true, false, ◌&&◌, ◌||◌, not, nat_eq, nat_lt, List, Ok}
use Rattle.alg_terms.specs.declared.sorts.Sort.{Sort}
use Rattle.alg_terms.specs.declared.sorts.Sort.TheVariants.{Nat, Int}
use Rattle.alg_terms.specs.declared.symbols.Sym.TheVariants as sym
use Rattle.alg_terms.specs.declared.relations.Rel.{Rel}
use Rattle.alg_terms.specs.declared.relations.Rel.TheVariants.{Eq, Ne, Lt, Le, Dvd}
use Rattle.alg_terms.specs.declared.causes.BadCause.TheVariants as cause
use Rattle.alg_terms.specs.Symbols.{is_integral}
use Rattle.alg_terms.specs.Tree.{Tree, Lit, App, Nil, Cons, equal, sort_of_tree, sum_tree, product_tree}
use Rattle.alg_law.specs.declared.classes.Class.TheVariants.{Semiring, CharZero, IsStrictOrderedRing, AddGroup, Group, Field}
use Rattle.alg_law.specs.Declarations.{Declaration}
use Rattle.alg_law.specs.Having.{has_class}
use Rattle.alg_law.specs.WellSorted.{literal_class}
use Rattle.alg_law.specs.Derivations.{related}
use Rattle.alg_proof.specs.declared.lines.BridgeKind.{BridgeKind}
use Rattle.alg_proof.specs.declared.lines.BridgeKind.TheVariants.{Smul, Zsmul, Zpow}
use Rattle.alg_proof.specs.Causes.{Concludes, only_if, is_small}

-- the sum of two literals, where the sort is a semiring and no literal is too large
abbrev pub sum_of : List Declaration → Sort → ℕ → ℕ → Concludes
sum_of ds s m n =
    only_if (has_class ds s Semiring) cause.NoInstance
    (only_if (is_small m && is_small n && is_small (m + n)) cause.Literal (Ok (equal (sum_tree s (Lit s m) (Lit s n)) (Lit s (m + n)))))

abbrev pub product_of : List Declaration → Sort → ℕ → ℕ → Concludes
product_of ds s m n =
    only_if (has_class ds s Semiring) cause.NoInstance
    (only_if (is_small m && is_small n && is_small (m * n)) cause.Literal (Ok (equal (product_tree s (Lit s m) (Lit s n)) (Lit s (m * n)))))

-- the sort has the class that a relation between its literals needs
abbrev pub relation_class : List Declaration → Rel → Sort → Bool
relation_class ds Eq s = true
relation_class ds Ne s = has_class ds s CharZero
relation_class ds Lt s = has_class ds s IsStrictOrderedRing
relation_class ds Le s = has_class ds s IsStrictOrderedRing
relation_class ds Dvd s = is_integral s

-- the sort has the classes that the literal needs
abbrev pub has_literal : List Declaration → Sort → ℕ → Bool
has_literal ds s n = has_class ds s (literal_class n)

-- the relation is `≠`, `<` or `≤`, and holds
abbrev pub relation_holds : Rel → ℕ → ℕ → Bool
relation_holds Eq m n = false
relation_holds Ne m n = not (nat_eq m n)
relation_holds Lt m n = nat_lt m n
relation_holds Le m n = not (nat_lt n m)
relation_holds Dvd m n = false

abbrev pub relation_of : List Declaration → Rel → Sort → ℕ → ℕ → Concludes
relation_of ds r s m n =
    only_if (relation_class ds r s && has_literal ds s m && has_literal ds s n) cause.NoInstance
    (only_if (is_small m && is_small n && relation_holds r m n) cause.Literal (Ok (related r s (Lit s m) (Lit s n))))

-- the sort has the class that the bridge needs
abbrev pub bridge_class : List Declaration → BridgeKind → Sort → Bool
bridge_class ds Smul s = has_class ds s Semiring
bridge_class ds Zsmul s = has_class ds s AddGroup
bridge_class ds Zpow s = has_class ds s Group || has_class ds s Field

abbrev pub bridge_from : BridgeKind → ℕ → Tree → Tree
bridge_from Smul n x = App sym.Nsmul (sort_of_tree x) (Cons (Lit Nat n) (Cons x Nil))
bridge_from Zsmul n x = App sym.Zsmul (sort_of_tree x) (Cons (Lit Int n) (Cons x Nil))
bridge_from Zpow n x = App sym.Zpow (sort_of_tree x) (Cons x (Cons (Lit Int n) Nil))

abbrev pub bridge_to : BridgeKind → ℕ → Tree → Tree
bridge_to Smul n x = product_tree (sort_of_tree x) (Lit (sort_of_tree x) n) x
bridge_to Zsmul n x = App sym.Nsmul (sort_of_tree x) (Cons (Lit Nat n) (Cons x Nil))
bridge_to Zpow n x = App sym.Npow (sort_of_tree x) (Cons x (Cons (Lit Nat n) Nil))

abbrev pub bridge_of : List Declaration → BridgeKind → ℕ → Tree → Concludes
bridge_of ds k n x =
    only_if (bridge_class ds k (sort_of_tree x)) cause.NoInstance
    (only_if (is_small n) cause.Literal (Ok (equal (bridge_from k n x) (bridge_to k n x))))
