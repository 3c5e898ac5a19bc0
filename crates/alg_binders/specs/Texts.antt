-- The texts of names, and which are new.
use Rattle.std.specs.Prelude.{◌≡◌, ℕ, List, [], ◌∷◌, ◌++◌, map, false, ⊤}
use Rattle.alg_syntax.specs.Written.{Written}
use Rattle.alg_names.specs.declared.meanings.Meaning.{Meaning}
use Rattle.alg_binders.specs.Binders.{text_of, is_among}

abbrev pub texts : List (List ℕ × Meaning) → List (List ℕ)
texts ds = map (λ (d : List ℕ × Meaning). d.0) ds

abbrev pub texts_of : List Written → List (List ℕ)
texts_of ws = map text_of ws

-- none of these names is among the others, nor stands twice
abbrev pub AreNew : List (List ℕ) → List (List ℕ) → Type 0
AreNew ys [] = ⊤
AreNew ys (x ∷ xs) = (is_among ys x ≡ false) × AreNew (ys ++ x ∷ []) xs
