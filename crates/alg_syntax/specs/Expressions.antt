-- Expressions: how each is spelled, and by a table of levels which part may stand where.
use Rattle.std.specs.Prelude.{◌≡◌, ℕ, ◌≤◌, List, [], ◌∷◌, ◌++◌, Bool, true, false}
use Rattle.alg_syntax.specs.declared.signs.Sign.{Sign}
use Rattle.alg_syntax.specs.declared.signs.Sign.TheVariants.{Number, Name, Open, Close, Operator, Inverse, Relation, Fixed}
use Rattle.alg_syntax.specs.declared.signs.Fixed.TheVariants.{Colon}
use Rattle.alg_syntax.specs.Written.{Written}
use Rattle.alg_syntax.specs.declared.signs.Operator as operator
use Rattle.alg_syntax.specs.declared.signs.Operator.TheVariants.{Add, Sub, Mul, Div, Mod, Smul, Pow}

-- An expression as it is written, with its parentheses.
-- The flag of a number or a parenthesis says whether it begins a line.
pub data Tree : Type 0 where
  number : Bool → ℕ → Tree
  name : Written → Tree
  group : Bool → Tree → Tree
  ascribed : Bool → Tree → Written → Tree
  minus : Tree → Tree
  inverse : Tree → Tree
  binary : operator.Operator → Tree → Tree → Tree
  apply : Tree → Tree → Tree

-- `f x y` is apply (apply f x) y
abbrev pub spell : Tree → List Sign
spell (number f n) = Number f n ∷ []
spell (name n) = Name n ∷ []
spell (group f a) = Open f ∷ (spell a ++ Close ∷ [])
spell (ascribed f a sort) = Open f ∷ (spell a ++ Fixed Colon ∷ Name sort ∷ Close ∷ [])
spell (minus a) = Operator Sub ∷ spell a
spell (inverse a) = spell a ++ Inverse ∷ []
spell (binary o a b) = spell a ++ Operator o ∷ spell b
spell (apply a b) = spell a ++ spell b

-- operators of one precedence
pub data Tier : Type 0 where
  sum : Tier
  product : Tier
  scaling : Tier
  power : Tier

abbrev pub tier : operator.Operator → Tier
tier Add = sum
tier Sub = sum
tier Mul = product
tier Div = product
tier Mod = product
tier Smul = scaling
tier Pow = power

-- The table: the level of an operator, and the least level of its left and of its right part.
abbrev pub level_of : Tier → ℕ
level_of sum = 65
level_of product = 70
level_of scaling = 73
level_of power = 75

abbrev pub left_of : Tier → ℕ
left_of sum = 65
left_of product = 70
left_of scaling = 75
left_of power = 76

abbrev pub right_of : Tier → ℕ
right_of sum = 70
right_of product = 73
right_of scaling = 73
right_of power = 75

abbrev pub level : Tree → ℕ
level (number f n) = 100
level (name n) = 100
level (group f a) = 100
level (ascribed f a sort) = 100
level (minus a) = 75
level (inverse a) = 100
level (binary o a b) = level_of (tier o)
level (apply a b) = 76

-- what may have a further argument: a name, with the arguments that it has
abbrev pub is_head : Tree → Bool
is_head (number f n) = false
is_head (name n) = true
is_head (group f a) = false
is_head (ascribed f a sort) = false
is_head (minus a) = false
is_head (inverse a) = false
is_head (binary o a b) = false
is_head (apply a b) = true

-- whether the first sign, of those that may begin an argument, begins a line
abbrev pub begins_line : List Sign → Bool
begins_line (Number f n ∷ ts) = f
begins_line (Name n ∷ ts) = n.begins_line
begins_line (Open f ∷ ts) = f
begins_line _ = false

-- Each part has the level that its place needs, and no argument begins a line.
abbrev pub Fits : Tree → Type 0
Fits (number f n) = Unit {0}
Fits (name n) = Unit {0}
Fits (group f a) = Fits a
Fits (ascribed f a sort) = Fits a
Fits (minus a) = (75 ≤ level a) × Fits a
Fits (inverse a) = (100 ≤ level a) × Fits a
Fits (binary o a b) = (left_of (tier o) ≤ level a) × (right_of (tier o) ≤ level b) × Fits a × Fits b
Fits (apply a b) = (is_head a ≡ true) × (100 ≤ level b) × (begins_line (spell b) ≡ false) × Fits a × Fits b

-- No expression goes on with these signs: it ends before them.
abbrev pub Ends : List Sign → Type 0
Ends [] = Unit {0}
Ends (Number f n ∷ ts) = f ≡ true
Ends (Name n ∷ ts) = n.begins_line ≡ true
Ends (Open f ∷ ts) = f ≡ true
Ends (Close ∷ ts) = Unit {0}
Ends (Operator o ∷ ts) = ⊥
Ends (Inverse ∷ ts) = ⊥
Ends (Relation r ∷ ts) = Unit {0}
Ends (Fixed k ∷ ts) = Unit {0}
