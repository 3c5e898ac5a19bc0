-- How symbols are written.
use Rattle.std.specs.Prelude.{ℕ, List, [], ◌∷◌, ◌++◌, Bool, true, false}
use Rattle.alg_terms.specs.declared.symbols.Sym.{Sym}
use Rattle.alg_terms.specs.declared.symbols.Sym.TheVariants as sym
use Rattle.alg_terms.specs.declared.relations.Rel.{Rel}
use Rattle.alg_terms.specs.declared.relations.Rel.TheVariants as rel
use Rattle.alg_syntax.specs.declared.signs.Operator.{Operator}
use Rattle.alg_syntax.specs.declared.signs.Operator.TheVariants.{Add, Sub, Mul, Div, Mod, Smul, Pow}
use Rattle.alg_syntax.specs.declared.signs.Relation.{Relation}
use Rattle.alg_syntax.specs.declared.signs.Relation.TheVariants as relation
use Rattle.alg_syntax.specs.Expressions.{tier, level_of, left_of, right_of}
use Rattle.alg_show.specs.declared.notation.Notation.{Notation}
use Rattle.alg_show.specs.declared.notation.Notation.TheVariants.{Negation, Inverse, Infix, Shared, Own}

abbrev pub notation_of : Sym → Notation
notation_of sym.Add = Infix Add
notation_of sym.Mul = Infix Mul
notation_of sym.Neg = Negation
notation_of sym.Sub = Infix Sub
notation_of sym.Inv = Inverse
notation_of sym.Div = Infix Div
notation_of sym.Npow = Infix Pow
notation_of sym.Zpow = Infix Pow
notation_of sym.Nsmul = Infix Smul
notation_of sym.Zsmul = Infix Smul
notation_of sym.Abs = Shared
notation_of sym.Min = Shared
notation_of sym.Max = Shared
notation_of sym.NatSub = Infix Sub
notation_of sym.IDiv = Infix Div
notation_of sym.Mod = Infix Mod
notation_of sym.Gcd = Own
notation_of sym.Lcm = Own
notation_of sym.Fact = Own
notation_of sym.Choose = Own
notation_of sym.Fib = Own
notation_of (sym.Apply k) = Own

-- the left part of the operator belongs to the region of the operation
abbrev pub leads : Operator → Bool
leads Add = true
leads Sub = true
leads Mul = true
leads Div = true
leads Mod = true
leads Smul = false
leads Pow = true

-- the right part does
abbrev pub follows : Operator → Bool
follows Add = true
follows Sub = true
follows Mul = true
follows Div = true
follows Mod = true
follows Smul = true
follows Pow = false

-- the level of an operation, and the least levels of its left and of its right part
abbrev pub operation_level : Operator → ℕ
operation_level o = level_of (tier o)

abbrev pub left_least : Operator → ℕ
left_least o = left_of (tier o)

abbrev pub right_least : Operator → ℕ
right_least o = right_of (tier o)

-- + - * / % • ^ as bytes
abbrev pub operator_text : Operator → List ℕ
operator_text Add = 43 ∷ []
operator_text Sub = 45 ∷ []
operator_text Mul = 42 ∷ []
operator_text Div = 47 ∷ []
operator_text Mod = 37 ∷ []
operator_text Smul = 0xE2 ∷ 0x80 ∷ 0xA2 ∷ []
operator_text Pow = 94 ∷ []

-- = ≠ < ≤ ∣ as bytes; > and ≥ are never written
abbrev pub relation_text : Rel → List ℕ
relation_text rel.Eq = 61 ∷ []
relation_text rel.Ne = 0xE2 ∷ 0x89 ∷ 0xA0 ∷ []
relation_text rel.Lt = 60 ∷ []
relation_text rel.Le = 0xE2 ∷ 0x89 ∷ 0xA4 ∷ []
relation_text rel.Dvd = 0xE2 ∷ 0x88 ∷ 0xA3 ∷ []

abbrev pub relation_of : Rel → Relation
relation_of rel.Eq = relation.Eq
relation_of rel.Ne = relation.Ne
relation_of rel.Lt = relation.Lt
relation_of rel.Le = relation.Le
relation_of rel.Dvd = relation.Dvd

-- with a blank on each side
abbrev pub blanked : List ℕ → List ℕ
blanked text = 32 ∷ (text ++ 32 ∷ [])
