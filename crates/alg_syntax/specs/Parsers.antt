-- Readers on lists of signs: what is read from the front, and what is left.
use Rattle.std.specs.Prelude.{ℕ, zero, suc, List, [], ◌∷◌, ◌++◌, length, Bool, cond, Option, Some, None, option_map, option_and_then}
use Rattle.alg_syntax.specs.declared.signs.Sign.{Sign}

abbrev pub Parser : Type 0 → Type 0
Parser A = List Sign → Option (A × List Sign)

-- what passes a sign
abbrev pub Skip : Type 0
Skip = List Sign → Option (List Sign)

abbrev pub mapped : {A B : Type 0} → (A → B) → Parser A → Parser B
mapped f p ts = option_map (λ x. (f x.0, x.1)) (p ts)

-- one, and then the other
abbrev pub both : {A B : Type 0} → Parser A → Parser B → Parser (A × B)
both p q ts = option_and_then (λ x. option_map (λ y. ((x.0, y.0), y.1)) (q x.1)) (p ts)

abbrev pub behind : {A : Type 0} → Skip → Parser A → Parser A
behind s p ts = option_and_then p (s ts)

abbrev pub ahead : {A : Type 0} → Parser A → Skip → Parser A
ahead p s ts = option_and_then (λ x. option_map (λ us. (x.0, us)) (s x.1)) (p ts)

-- the one behind the sign, where it is passed, or else the other
abbrev pub choice : {A : Type 0} → Option (List Sign) → Parser A → Option (A × List Sign) → Option (A × List Sign)
choice (Some us) p other = p us
choice None p other = other

-- Reads on while the test says that there is more. The number bounds the turns.
unfoldable pub many : {A : Type 0} → Parser A → (List Sign → Bool) → ℕ → List A → Parser (List A)
many p more zero done ts = Some (done, ts)
many p more (suc n) done ts = cond (more ts) (option_and_then (λ x. many p more n (done ++ x.0 ∷ []) x.1) (p ts)) (Some (done, ts))

abbrev pub all_of : {A : Type 0} → Parser A → (List Sign → Bool) → Parser (List A)
all_of p more ts = many p more (suc (length ts)) [] ts
