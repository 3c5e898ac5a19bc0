-- The statement as it is written: with the parentheses that the table of levels needs.
use Rattle.std.specs.Prelude.{ℕ, List, Bool, true, false, nat_le, if◌then◌else◌}
use Rattle.alg_terms.specs.Tree as terms
use Rattle.alg_law.specs.Declarations.{Declaration}
use Rattle.alg_syntax.specs.Written.{Written}
use Rattle.alg_syntax.specs.declared.statements.Statement.{Statement}
use Rattle.alg_syntax.specs.Expressions.{Tree, number, name, group, ascribed, minus, inverse, binary, apply, level}
use Rattle.alg_elaborate.specs.Raw.{Raw, Raws, literal, named, negation, reciprocal, operation, applied, of_sort, none, more}
use Rattle.alg_show.specs.Notation.{left_least, right_least, relation_of}
use Rattle.alg_show.specs.Knowing.{sides_ask}
use Rattle.alg_show.specs.Unparenthesized.{raw}

abbrev pub is_minus : Tree → Bool
is_minus (number f n) = false
is_minus (name w) = false
is_minus (group f a) = false
is_minus (ascribed f a w) = false
is_minus (minus a) = true
is_minus (inverse a) = false
is_minus (binary o a b) = false
is_minus (apply a b) = false

-- in parentheses where its level is below what its place needs
abbrev pub wrapped : ℕ → Tree → Tree
wrapped least a = if nat_le least (level a) then a else group false a

-- a negation in a negation too, so that no comment begins
abbrev pub negated : Tree → Tree
negated a = if is_minus a then group false a else wrapped 75 a

-- a name in the middle of a line
abbrev pub word : List ℕ → Written
word text = record { begins_line = false; text = text }

abbrev mutual
  pub shown : Raw → Tree
  shown (literal n) = number false n
  shown (named x) = name (word x)
  shown (negation a) = minus (negated (shown a))
  shown (reciprocal a) = inverse (wrapped 100 (shown a))
  shown (operation o a b) = binary o (wrapped (left_least o) (shown a)) (wrapped (right_least o) (shown b))
  shown (applied f us) = with_arguments (name (word f)) us
  shown (of_sort a x) = ascribed false (shown a) (word x)

  -- what is applied to further arguments
  pub with_arguments : Tree → Raws → Tree
  with_arguments h none = h
  with_arguments h (more a us) = with_arguments (apply h (wrapped 100 (shown a))) us

-- a tree, where the flag says whether the first literal of its region is written with its sort
abbrev pub shown_tree : List Declaration → Bool → terms.Tree → Tree
shown_tree ds ask t = shown (raw ds ask t)

-- both sides are one region, and no side needs parentheses
abbrev pub shown_statement : List Declaration → terms.Statement → Statement
shown_statement ds s = record {
  lhs = shown_tree ds (sides_ask s.sort s.lhs s.rhs) s.lhs;
  relation = relation_of s.rel;
  rhs = shown_tree ds false s.rhs;
}
