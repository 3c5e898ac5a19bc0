-- The text of what is written, as bytes: one blank round relations and operators and before arguments, and no other.
use Rattle.std.specs.Prelude.{ℕ, List, [], ◌∷◌, ◌++◌, false}
use Rattle.std.specs.Fmt.{decimal}
use Rattle.alg_terms.specs.Tree as terms
use Rattle.alg_law.specs.Declarations.{Declaration}
use Rattle.alg_syntax.specs.Expressions.{Tree, number, name, group, ascribed, minus, inverse, binary, apply}
use Rattle.alg_show.specs.Notation.{operator_text, relation_text}
use Rattle.alg_show.specs.Knowing.{sides_ask}
use Rattle.alg_show.specs.Shown.{shown_tree}

-- ⁻¹ as bytes
abbrev pub inverse_text : List ℕ
inverse_text = 0xE2 ∷ 0x81 ∷ 0xBB ∷ 0xC2 ∷ 0xB9 ∷ []

abbrev pub text : Tree → List ℕ
text (number f n) = decimal n
text (name w) = w.text
text (group f a) = 40 ∷ (text a ++ 41 ∷ [])
text (ascribed f a w) = 40 ∷ (text a ++ (32 ∷ 58 ∷ 32 ∷ (w.text ++ 41 ∷ [])))
text (minus a) = 45 ∷ text a
text (inverse a) = text a ++ inverse_text
text (binary o a b) = text a ++ (32 ∷ (operator_text o ++ (32 ∷ text b)))
text (apply a b) = text a ++ (32 ∷ text b)

abbrev pub shown_text : List Declaration → terms.Statement → List ℕ
shown_text ds s =
    text (shown_tree ds (sides_ask s.sort s.lhs s.rhs) s.lhs) ++ (32 ∷ (relation_text s.rel ++ (32 ∷ text (shown_tree ds false s.rhs))))
