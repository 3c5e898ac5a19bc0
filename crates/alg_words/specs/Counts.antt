-- Which words are a number of lines: one to five ASCII digits, of a value up to 10,000.
use Rattle.std.specs.Prelude.{ℕ, ◌+◌, ◌-◌, ◌*◌, List, [], ◌∷◌, length, Bool, ◌&&◌, nat_le, Option, None, Some, if◌then◌else◌}

abbrev pub is_digit : ℕ → Bool
is_digit b = nat_le 48 b && nat_le b 57

-- the value of these digits behind those that came to n
abbrev pub digits_value : ℕ → List ℕ → Option ℕ
digits_value n [] = Some n
digits_value n (b ∷ bs) = if is_digit b then digits_value (n * 10 + (b - 48)) bs else None

abbrev pub at_most : ℕ → Option ℕ → Option ℕ
at_most most None = None
at_most most (Some n) = if nat_le n most then Some n else None

abbrev pub count_of : List ℕ → Option ℕ
count_of word = if nat_le 1 (length word) && nat_le (length word) 5 then at_most 10000 (digits_value 0 word) else None
