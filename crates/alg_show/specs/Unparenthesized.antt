-- What is written for a tree, parentheses aside: names, and the sort of a literal where it has to be said.
use Rattle.std.specs.Prelude.{ℕ, List, Bool, true, false}
use Rattle.alg_terms.specs.declared.sorts.Sort.{Sort}
use Rattle.alg_terms.specs.Tree.{Tree, Lit, Var, App, Trees, Nil, Cons}
use Rattle.alg_law.specs.Declarations.{Declaration}
use Rattle.alg_syntax.specs.declared.signs.Operator.{Operator}
use Rattle.alg_syntax.specs.declared.signs.Operator.TheVariants.{Add, Sub, Mul, Div, Mod, Smul, Pow}
use Rattle.alg_elaborate.specs.Raw.{Raw, Raws, literal, named, negation, reciprocal, operation, applied, of_sort, none, more}
use Rattle.alg_show.specs.declared.notation.Notation.{Notation}
use Rattle.alg_show.specs.declared.notation.Notation.TheVariants.{Negation, Inverse, Infix, Shared, Own}
use Rattle.alg_show.specs.Notation.{notation_of}
use Rattle.alg_show.specs.Names.{name_at, sort_name, function_name}
use Rattle.alg_show.specs.Knowing.{asks}

-- a literal, with its sort where that is asked
abbrev pub number_raw : List Declaration → Bool → Sort → ℕ → Raw
number_raw ds true s n = of_sort (literal n) (sort_name ds s)
number_raw ds false s n = literal n

-- The question goes to the leftmost part of a region; an exponent and the left part of a multiple are regions of their own.
abbrev pub asks_left : Operator → Bool → Tree → Bool
asks_left Add ask x = ask
asks_left Sub ask x = ask
asks_left Mul ask x = ask
asks_left Div ask x = ask
asks_left Mod ask x = ask
asks_left Smul ask x = asks x
asks_left Pow ask x = ask

abbrev pub asks_right : Operator → Bool → Tree → Bool
asks_right Add ask x = false
asks_right Sub ask x = false
asks_right Mul ask x = false
asks_right Div ask x = false
asks_right Mod ask x = false
asks_right Smul ask x = ask
asks_right Pow ask x = asks x

abbrev pub asks_first : Notation → Bool → Tree → Bool
asks_first Negation ask x = ask
asks_first Inverse ask x = ask
asks_first (Infix o) ask x = asks_left o ask x
asks_first Shared ask x = ask
asks_first Own ask x = false

abbrev pub asks_later : Notation → Bool → Tree → Bool
asks_later Negation ask x = false
asks_later Inverse ask x = false
asks_later (Infix o) ask x = asks_right o ask x
asks_later Shared ask x = false
asks_later Own ask x = false

abbrev pub first : Raws → Raw
first none = literal 0
first (more a us) = a

abbrev pub second : Raws → Raw
second none = literal 0
second (more a us) = first us

-- a symbol with its arguments; a missing one is written as 0
abbrev pub composed : Notation → List ℕ → Raws → Raw
composed Negation f us = negation (first us)
composed Inverse f us = reciprocal (first us)
composed (Infix o) f us = operation o (first us) (second us)
composed Shared f us = applied f us
composed Own f us = applied f us

-- The flag says whether the first literal of the root's region is written with its sort.
abbrev mutual
  pub raw : List Declaration → Bool → Tree → Raw
  raw ds ask (Lit s n) = number_raw ds ask s n
  raw ds ask (Var d s) = named (name_at ds d)
  raw ds ask (App f s xs) = composed (notation_of f) (function_name ds f) (raws ds (notation_of f) ask xs)

  -- the arguments
  pub raws : List Declaration → Notation → Bool → Trees → Raws
  raws ds n ask Nil = none
  raws ds n ask (Cons x xs) = more (raw ds (asks_first n ask x) x) (later_raws ds n ask xs)

  -- behind the first one
  pub later_raws : List Declaration → Notation → Bool → Trees → Raws
  later_raws ds n ask Nil = none
  later_raws ds n ask (Cons x xs) = more (raw ds (asks_later n ask x) x) (later_raws ds n ask xs)
