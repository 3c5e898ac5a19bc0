-- Expressions without parentheses, with the arguments of an application in a list.
use Rattle.std.specs.Prelude.{ℕ, suc, ◌+◌, List, [], ⊤, Option, Some, None}
use Rattle.alg_syntax.specs.declared.signs.Operator.{Operator}
use Rattle.alg_syntax.specs.Expressions.{Tree, number, name, group, ascribed, minus, inverse, binary, apply}

-- a literal, a name, a negation, an inverse, an operation, a name with arguments, or an expression with its sort's name
mutual
  pub data Raw : Type 0 where
    literal : ℕ → Raw
    named : List ℕ → Raw
    negation : Raw → Raw
    reciprocal : Raw → Raw
    operation : Operator → Raw → Raw → Raw
    applied : List ℕ → Raws → Raw
    of_sort : Raw → List ℕ → Raw

  pub data Raws : Type 0 where
    none : Raws
    more : Raw → Raws → Raws

abbrev pub count : Raws → ℕ
count none = 0
count (more a us) = suc (count us)

-- the function of an application
abbrev pub head_of : Tree → Option (List ℕ)
head_of (number f n) = None
head_of (name w) = Some w.text
head_of (group f a) = None
head_of (ascribed f a w) = None
head_of (minus a) = None
head_of (inverse a) = None
head_of (binary o a b) = None
head_of (apply a b) = head_of a

-- only a name is applied
abbrev pub applied_at : Option (List ℕ) → Raws → Raw
applied_at (Some x) us = applied x us
applied_at None us = literal 0

-- what a written expression means, parentheses aside
abbrev mutual
  pub meant : Tree → Raw
  meant (number f n) = literal n
  meant (name w) = named w.text
  meant (group f a) = meant a
  meant (ascribed f a w) = of_sort (meant a) w.text
  meant (minus a) = negation (meant a)
  meant (inverse a) = reciprocal (meant a)
  meant (binary o a b) = operation o (meant a) (meant b)
  meant (apply a b) = applied_at (head_of a) (arguments a (more (meant b) none))

  -- the arguments that a tree is applied to already, before others
  pub arguments : Tree → Raws → Raws
  arguments (number f n) us = us
  arguments (name w) us = us
  arguments (group f a) us = us
  arguments (ascribed f a w) us = us
  arguments (minus a) us = us
  arguments (inverse a) us = us
  arguments (binary o a b) us = us
  arguments (apply a b) us = arguments a (more (meant b) us)

-- the text of a name
abbrev pub name_in : Tree → List ℕ
name_in (number f n) = []
name_in (name w) = w.text
name_in (group f a) = []
name_in (ascribed f a w) = []
name_in (minus a) = []
name_in (inverse a) = []
name_in (binary o a b) = []
name_in (apply a b) = []

-- how many nodes a written expression has
abbrev pub size : Tree → ℕ
size (number f n) = 1
size (name w) = 1
size (group f a) = suc (size a)
size (ascribed f a w) = suc (size a)
size (minus a) = suc (size a)
size (inverse a) = suc (size a)
size (binary o a b) = suc (size a + size b)
size (apply a b) = suc (size a + size b)

-- a name with arguments
abbrev pub IsApply : Tree → Type 0
IsApply (number f n) = ⊥
IsApply (name w) = ⊥
IsApply (group f a) = ⊥
IsApply (ascribed f a w) = ⊥
IsApply (minus a) = ⊥
IsApply (inverse a) = ⊥
IsApply (binary o a b) = ⊥
IsApply (apply a b) = ⊤
