-- The names that laws and lemmas may have.
use Rattle.std.specs.Prelude.{◌≡◌, ℕ, Bool, true, false, ◌&&◌, ◌||◌, not, nat_eq, nat_lt, List, [], ◌∷◌}

-- the byte is from the first to the last
abbrev pub is_from : ℕ → ℕ → ℕ → Bool
is_from first last b = not (nat_lt b first) && not (nat_lt last b)

-- a small letter, a digit or `_`
abbrev pub is_name_byte : ℕ → Bool
is_name_byte b = is_from 97 122 b || (is_from 48 57 b || nat_eq b 95)

abbrev pub are_name_bytes : List ℕ → Bool
are_name_bytes [] = true
are_name_bytes (b ∷ bs) = is_name_byte b && are_name_bytes bs

-- at least one byte, and each of a name
abbrev pub is_name : List ℕ → Bool
is_name [] = false
is_name (b ∷ bs) = is_name_byte b && are_name_bytes bs

abbrev pub IsName : List ℕ → Type 0
IsName n = is_name n ≡ true
