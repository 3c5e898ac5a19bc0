-- What stands at the front of a list of signs.
use Rattle.std.specs.Prelude.{ℕ, List, [], ◌∷◌, ◌==◌, if◌then◌else◌, Option, Some, None}
use Rattle.alg_syntax.specs.Written.{Written}
use Rattle.alg_syntax.specs.declared.signs.Fixed as fixed
use Rattle.alg_syntax.specs.declared.signs.Fixed.TheVariants.{Colon, Assign, Semicolon, Arrow, OpenBrace, CloseBrace, OpenBracket, CloseBracket, Import, Variable, Theorem, Example, By, TypeWord, Unknown}
use Rattle.alg_syntax.specs.declared.signs.Sign.{Sign}
use Rattle.alg_syntax.specs.declared.signs.Sign.TheVariants.{Number, Name, Open, Close, Operator, Inverse, Relation, Fixed}

-- a number for each word and mark, to tell them apart
abbrev pub number_of : fixed.Fixed → ℕ
number_of Colon = 0
number_of Assign = 1
number_of Semicolon = 2
number_of Arrow = 3
number_of OpenBrace = 4
number_of CloseBrace = 5
number_of OpenBracket = 6
number_of CloseBracket = 7
number_of Import = 8
number_of Variable = 9
number_of Theorem = 10
number_of Example = 11
number_of By = 12
number_of TypeWord = 13
number_of Unknown = 14

-- what follows this word or mark
abbrev pub after_fixed : fixed.Fixed → List Sign → Option (List Sign)
after_fixed k [] = None
after_fixed k (Number f n ∷ ts) = None
after_fixed k (Name n ∷ ts) = None
after_fixed k (Open f ∷ ts) = None
after_fixed k (Close ∷ ts) = None
after_fixed k (Operator o ∷ ts) = None
after_fixed k (Inverse ∷ ts) = None
after_fixed k (Relation r ∷ ts) = None
after_fixed k (Fixed j ∷ ts) = if number_of j == number_of k then Some ts else None

-- what follows a closing parenthesis
abbrev pub after_close : List Sign → Option (List Sign)
after_close [] = None
after_close (Number f n ∷ ts) = None
after_close (Name n ∷ ts) = None
after_close (Open f ∷ ts) = None
after_close (Close ∷ ts) = Some ts
after_close (Operator o ∷ ts) = None
after_close (Inverse ∷ ts) = None
after_close (Relation r ∷ ts) = None
after_close (Fixed j ∷ ts) = None

-- a name, and what follows it
abbrev pub name_first : List Sign → Option (Written × List Sign)
name_first [] = None
name_first (Number f n ∷ ts) = None
name_first (Name n ∷ ts) = Some (n, ts)
name_first (Open f ∷ ts) = None
name_first (Close ∷ ts) = None
name_first (Operator o ∷ ts) = None
name_first (Inverse ∷ ts) = None
name_first (Relation r ∷ ts) = None
name_first (Fixed j ∷ ts) = None
