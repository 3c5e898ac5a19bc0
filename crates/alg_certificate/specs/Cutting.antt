-- A text cut at its line feeds, and what follows a given front.
use Rattle.std.specs.Prelude.{ℕ, Bool, true, false, List, [], ◌∷◌, Option, Some, None, ◌==◌, if◌then◌else◌}

-- what follows a front
abbrev pub after : List ℕ → List ℕ → Option (List ℕ)
after [] text = Some text
after (p ∷ ps) [] = None
after (p ∷ ps) (c ∷ cs) = if c == p then after ps cs else None

abbrev pub is_empty : List ℕ → Bool
is_empty [] = true
is_empty (c ∷ cs) = false

-- the whole lines of a text, and what follows the last line feed
abbrev pub Cut : Type 0
Cut = List (List ℕ) × List ℕ

abbrev pub into : ℕ → List (List ℕ) → List ℕ → Cut
into c [] tail = ([], c ∷ tail)
into c (l ∷ ls) tail = ((c ∷ l) ∷ ls, tail)

abbrev pub add : ℕ → Cut → Cut
add c x = if c == 10 then ([] ∷ x.0, x.1) else into c x.0 x.1

unfoldable pub cut : List ℕ → Cut
cut [] = ([], [])
cut (c ∷ cs) = add c (cut cs)
