-- Which regions a reader would give another sort.
use Rattle.std.specs.Prelude.{Bool, true, false, not, ◌&&◌, ◌||◌}
use Rattle.alg_terms.specs.declared.sorts.Sort.{Sort}
use Rattle.alg_terms.specs.declared.sorts.Sort.TheVariants.{Nat, Int}
use Rattle.alg_terms.specs.Order.{sort_same}
use Rattle.alg_terms.specs.Tree.{Tree, Lit, Var, App, Trees, Nil, Cons, sort_of_tree}
use Rattle.alg_show.specs.declared.notation.Notation.{Notation}
use Rattle.alg_show.specs.declared.notation.Notation.TheVariants.{Negation, Inverse, Infix, Shared, Own}
use Rattle.alg_show.specs.Notation.{notation_of, leads, follows}

-- the first argument belongs to the region of the whole
abbrev pub holds_first : Notation → Bool
holds_first Negation = true
holds_first Inverse = true
holds_first (Infix o) = leads o
holds_first Shared = true
holds_first Own = false

-- the second argument does
abbrev pub holds_second : Notation → Bool
holds_second Negation = false
holds_second Inverse = false
holds_second (Infix o) = follows o
holds_second Shared = true
holds_second Own = false

-- seen from outside, the whole is a leaf of a known sort
abbrev pub is_own : Notation → Bool
is_own Negation = false
is_own Inverse = false
is_own (Infix o) = false
is_own Shared = false
is_own Own = true

-- The region of the tree's root has a leaf that is no literal.
abbrev mutual
  pub knows : Tree → Bool
  knows (Lit s n) = false
  knows (Var d s) = true
  knows (App f s xs) = is_own (notation_of f) || knows_first (notation_of f) xs

  -- among the arguments
  pub knows_first : Notation → Trees → Bool
  knows_first n Nil = false
  knows_first n (Cons x xs) = (holds_first n && knows x) || knows_second n xs

  -- behind the first one
  pub knows_second : Notation → Trees → Bool
  knows_second n Nil = false
  knows_second n (Cons x xs) = holds_second n && knows x

abbrev pub negation_default : Notation → Sort
negation_default Negation = Int
negation_default Inverse = Nat
negation_default (Infix o) = Nat
negation_default Shared = Nat
negation_default Own = Nat

-- the sort that an exponent is read at where no leaf has a known one: ℤ for a negation, else ℕ
abbrev pub default_of : Tree → Sort
default_of (Lit s n) = Nat
default_of (Var d s) = Nat
default_of (App f s xs) = negation_default (notation_of f)

-- an exponent, or the left part of a multiple, that would be read at another sort
abbrev pub asks : Tree → Bool
asks t = not (knows t) && not (sort_same (default_of t) (sort_of_tree t))

-- both sides of a relation would be read at another sort
abbrev pub sides_ask : Sort → Tree → Tree → Bool
sides_ask k a b = not (knows a || knows b) && not (sort_same Nat k)
