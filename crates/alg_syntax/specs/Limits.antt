-- How long a command may be, and how deep its parentheses, braces and brackets.
use Rattle.std.specs.Prelude.{ℕ, ◌+◌, ◌-◌, ◌||◌, nat_lt, List, [], ◌∷◌, length, Bool}
use Rattle.alg_syntax.specs.declared.signs.Fixed as fixed
use Rattle.alg_syntax.specs.declared.signs.Fixed.TheVariants.{Colon, Assign, Semicolon, Arrow, OpenBrace, CloseBrace, OpenBracket, CloseBracket, Import, Variable, Theorem, Example, By, TypeWord, Unknown}
use Rattle.alg_syntax.specs.declared.signs.Sign.{Sign}
use Rattle.alg_syntax.specs.declared.signs.Sign.TheVariants.{Number, Name, Open, Close, Operator, Inverse, Relation, Fixed}

abbrev pub fixed_depth : ℕ → fixed.Fixed → ℕ
fixed_depth d Colon = d
fixed_depth d Assign = d
fixed_depth d Semicolon = d
fixed_depth d Arrow = d
fixed_depth d OpenBrace = d + 1
fixed_depth d CloseBrace = d - 1
fixed_depth d OpenBracket = d + 1
fixed_depth d CloseBracket = d - 1
fixed_depth d Import = d
fixed_depth d Variable = d
fixed_depth d Theorem = d
fixed_depth d Example = d
fixed_depth d By = d
fixed_depth d TypeWord = d
fixed_depth d Unknown = d

-- How many of the marks ( { [ are open behind the sign. Each of ) } ] closes one where one is open.
abbrev pub depth_after : ℕ → Sign → ℕ
depth_after d (Number f n) = d
depth_after d (Name n) = d
depth_after d (Open f) = d + 1
depth_after d Close = d - 1
depth_after d (Operator o) = d
depth_after d Inverse = d
depth_after d (Relation r) = d
depth_after d (Fixed k) = fixed_depth d k

-- whether at some place more than 256 are open, where so many are open before
abbrev pub is_deep : ℕ → List Sign → Bool
is_deep d [] = nat_lt 256 d
is_deep d (t ∷ ts) = nat_lt 256 d || is_deep (depth_after d t) ts

-- more than 4,096 tokens, or more than 256 open marks
abbrev pub too_deep : List Sign → Bool
too_deep ts = nat_lt 4096 (length ts) || is_deep 0 ts
