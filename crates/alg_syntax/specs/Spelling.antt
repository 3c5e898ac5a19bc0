-- Lists of things that are spelled one after another.
use Rattle.std.specs.Prelude.{List, [], ◌∷◌, ◌++◌}
use Rattle.alg_syntax.specs.declared.signs.Sign.{Sign}

-- one after another
abbrev pub spell_all : {A : Type 0} → (A → List Sign) → List A → List Sign
spell_all spell [] = []
spell_all spell (x ∷ xs) = spell x ++ spell_all spell xs

abbrev pub AllFit : {A : Type 0} → (A → Type 0) → List A → Type 0
AllFit Fits [] = Unit {0}
AllFit Fits (x ∷ xs) = Fits x × AllFit Fits xs
