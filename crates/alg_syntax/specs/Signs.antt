-- What tokens are to the grammar.
use Rattle.std.specs.Prelude.{ℕ, List, [], ◌∷◌, map, Bool, if◌then◌else◌, codes, Option, Some, None, unwrap_or}
use Rattle.std.specs.Str.{bytes_eq}
use Rattle.alg_lex.specs.declared.Token.{Token}
use Rattle.alg_lex.specs.declared.Kind.{Kind}
use Rattle.alg_lex.specs.declared.Kind.TheVariants as kind
use Rattle.alg_syntax.specs.declared.signs.Operator as operator
use Rattle.alg_syntax.specs.declared.signs.Operator.TheVariants.{Add, Sub, Mul, Div, Mod, Smul, Pow}
use Rattle.alg_syntax.specs.declared.signs.Relation as relation
use Rattle.alg_syntax.specs.declared.signs.Relation.TheVariants.{Eq, Ne, Lt, Le, Gt, Ge, Dvd}
use Rattle.alg_syntax.specs.declared.signs.Fixed as fixed
use Rattle.alg_syntax.specs.declared.signs.Fixed.TheVariants.{Colon, Assign, Semicolon, Arrow, OpenBrace, CloseBrace, OpenBracket, CloseBracket, Import, Variable, Theorem, Example, By, TypeWord, Unknown}
use Rattle.alg_syntax.specs.declared.signs.Sign.{Sign}
use Rattle.alg_syntax.specs.declared.signs.Sign.TheVariants.{Number, Name, Open, Close, Operator, Inverse, Relation, Fixed}

-- what stands beside a text in a table
abbrev pub found_in : {A : Type 0} → List (List ℕ × A) → List ℕ → Option A
found_in [] text = None
found_in (row ∷ rows) text = if bytes_eq text row.0 then Some row.1 else found_in rows text

-- `lemma` is read as `theorem`
abbrev pub words : List (List ℕ × fixed.Fixed)
words = (codes "import", Import) ∷ (codes "variable", Variable) ∷ (codes "theorem", Theorem) ∷ (codes "lemma", Theorem) ∷ (codes "example", Example) ∷ (codes "by", By) ∷ (codes "Type", TypeWord) ∷ []

-- { } [ ] : := ; → and -> for →; what is outside ASCII stands in UTF-8
abbrev pub punctuation : List (List ℕ × fixed.Fixed)
punctuation = (codes "{", OpenBrace) ∷ (codes "}", CloseBrace) ∷ (codes "[", OpenBracket) ∷ (codes "]", CloseBracket) ∷ (codes ":", Colon) ∷ (codes ":=", Assign) ∷ (codes ";", Semicolon) ∷ (0xE2 ∷ 0x86 ∷ 0x92 ∷ [], Arrow) ∷ (codes "->", Arrow) ∷ []

-- = ≠ < ≤ <= > ≥ >= ∣, of which <= is ≤ and >= is ≥
abbrev pub relations : List (List ℕ × relation.Relation)
relations = (codes "=", Eq) ∷ (0xE2 ∷ 0x89 ∷ 0xA0 ∷ [], Ne) ∷ (codes "<", Lt) ∷ (0xE2 ∷ 0x89 ∷ 0xA4 ∷ [], Le) ∷ (codes "<=", Le) ∷ (codes ">", Gt) ∷ (0xE2 ∷ 0x89 ∷ 0xA5 ∷ [], Ge) ∷ (codes ">=", Ge) ∷ (0xE2 ∷ 0x88 ∷ 0xA3 ∷ [], Dvd) ∷ []

-- + - * / % • ^
abbrev pub operators : List (List ℕ × operator.Operator)
operators = (codes "+", Add) ∷ (codes "-", Sub) ∷ (codes "*", Mul) ∷ (codes "/", Div) ∷ (codes "%", Mod) ∷ (0xE2 ∷ 0x80 ∷ 0xA2 ∷ [], Smul) ∷ (codes "^", Pow) ∷ []

abbrev pub fixed_of : Option fixed.Fixed → Sign
fixed_of word = Fixed (unwrap_or word Unknown)

abbrev pub relation_or : Option relation.Relation → Sign → Sign
relation_or (Some r) other = Relation r
relation_or None other = other

abbrev pub operator_or : Option operator.Operator → Sign → Sign
operator_or (Some o) other = Operator o
operator_or None other = other

abbrev pub sign_of_punctuation : Bool → List ℕ → Sign
sign_of_punctuation f text =
    if bytes_eq text (codes "(") then Open f
    else (if bytes_eq text (codes ")") then Close
    else (if bytes_eq text (0xE2 ∷ 0x81 ∷ 0xBB ∷ 0xC2 ∷ 0xB9 ∷ []) then Inverse
    else relation_or (found_in relations text) (fixed_of (found_in punctuation text))))

abbrev pub sign_of_mark : Bool → List ℕ → Sign
sign_of_mark f text = operator_or (found_in operators text) (sign_of_punctuation f text)

abbrev pub sign_of : Kind → Bool → List ℕ → Sign
sign_of (kind.Literal n) f text = Number f n
sign_of kind.Name f text = Name (record { begins_line = f; text = text })
sign_of kind.Word f text = fixed_of (found_in words text)
sign_of kind.Mark f text = sign_of_mark f text

-- a token, up to its place
abbrev pub seen : Token → Sign
seen t = sign_of t.kind t.after_newline t.text.now

abbrev pub signs : List Token → List Sign
signs ts = map seen ts
