-- Comments.
use Rattle.std.specs.Prelude.{ℕ, suc, ◌+◌, ◌-◌, ◌==◌, ◌&&◌, List, [], ◌∷◌, Option, Some, None, option_map, if◌then◌else◌, nat_le}

-- the characters up to the next line feed
abbrev pub line_len : List ℕ → ℕ
line_len [] = 0
line_len (c ∷ cs) = if c == 10 then 0 else suc (line_len cs)

-- The characters up to the end of the comments, where so many are open before the text.
-- `/-` opens one more and `-/` closes one; they are cut from the left without overlap.
abbrev pub comment_len : (depth : ℕ) → List ℕ → Option ℕ
comment_len depth [] = None
comment_len depth (c ∷ []) = None
comment_len depth (c ∷ d ∷ cs) =
    if (c == 47) && (d == 45) then option_map (λ n. n + 2) (comment_len (depth + 1) cs)
    else (if (c == 45) && (d == 47) then (if nat_le depth 1 then Some 2 else option_map (λ n. n + 2) (comment_len (depth - 1) cs))
    else option_map (λ n. n + 1) (comment_len depth (d ∷ cs)))
