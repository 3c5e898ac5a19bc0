-- Which texts are tokens. A text is its list of characters.
use Rattle.std.specs.Prelude.{ℕ, ◌==◌, ◌&&◌, ◌||◌, List, [], ◌∷◌, Bool, true, false, if◌then◌else◌, codes}
use Rattle.std.specs.List.{list_all, list_any}
use Rattle.std.specs.Str.{bytes_eq}
use Rattle.alg_lex.specs.Characters.{is_digit, is_start, is_continue}

-- a run of digits
abbrev pub is_literal : List ℕ → Bool
is_literal [] = false
is_literal (c ∷ cs) = is_digit c && list_all is_digit cs

abbrev mutual
  -- a name: a part, and a further part behind each dot
  pub is_name : List ℕ → Bool
  is_name [] = false
  is_name (c ∷ cs) = is_start c && is_name_tail cs

  -- what may stand behind the first character of a part
  pub is_name_tail : List ℕ → Bool
  is_name_tail [] = true
  is_name_tail (c ∷ cs) = if c == 46 then is_name cs else (is_continue c && is_name_tail cs)

-- the names that are words of the notation
abbrev pub words : List (List ℕ)
words = codes "import" ∷ codes "variable" ∷ codes "theorem" ∷ codes "lemma" ∷ codes "example" ∷ codes "by" ∷ codes "Type" ∷ []

abbrev pub is_word : List ℕ → Bool
is_word text = list_any (bytes_eq text) words

-- ( ) { } [ ] : := ; = ≠ < ≤ <= > ≥ >= ∣ + - * / % ^ • ⁻¹ → ->
abbrev pub marks : List (List ℕ)
marks =
    codes "(" ∷ codes ")" ∷ codes "{" ∷ codes "}" ∷ codes "[" ∷ codes "]" ∷ codes ":" ∷ codes ":=" ∷ codes ";" ∷ codes "="
    ∷ (0x2260 ∷ []) ∷ codes "<" ∷ (0x2264 ∷ []) ∷ codes "<=" ∷ codes ">" ∷ (0x2265 ∷ []) ∷ codes ">=" ∷ (0x2223 ∷ [])
    ∷ codes "+" ∷ codes "-" ∷ codes "*" ∷ codes "/" ∷ codes "%" ∷ codes "^" ∷ (0x2022 ∷ []) ∷ (0x207B ∷ 0xB9 ∷ [])
    ∷ (0x2192 ∷ []) ∷ codes "->" ∷ []

abbrev pub is_mark : List ℕ → Bool
is_mark text = list_any (bytes_eq text) marks

abbrev pub is_token : List ℕ → Bool
is_token text = is_literal text || (is_name text || is_mark text)
