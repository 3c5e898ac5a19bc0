-- The tokens of a line, their bytes, and how the first is read.
use Rattle.std.specs.Prelude.{◌≡◌, ℕ, ◌≤◌, Bool, true, false, ◌&&◌, ◌||◌, List, [], ◌∷◌, ◌++◌, Option, Some, None, nat_le, ◌==◌, if◌then◌else◌, decimal, option_map}
use Rattle.alg_certificate.specs.Numbers.{Read, read_number, max_number}

pub data Tok : Type 0 where
  Blank : Tok
  Close : Tok
  Semi : Tok
  -- `(` and a word
  Open : List ℕ → Tok
  -- `#`, a word, `:` and a number
  Lit : List ℕ → ℕ → Tok
  -- `$` and a number
  Var : ℕ → Tok
  Word : List ℕ → Tok

abbrev pub token_bytes : Tok → List ℕ
token_bytes Blank = 32 ∷ []
token_bytes Close = 41 ∷ []
token_bytes Semi = 59 ∷ []
token_bytes (Open w) = 40 ∷ w
token_bytes (Lit s n) = 35 ∷ (s ++ 58 ∷ decimal n)
token_bytes (Var k) = 36 ∷ decimal k
token_bytes (Word w) = w

-- a letter, a digit, `_`, `-` or `@`
abbrev pub is_word : ℕ → Bool
is_word c = (nat_le 48 c && nat_le c 57) || ((nat_le 97 c && nat_le c 122) || ((nat_le 64 c && nat_le c 90) || ((c == 95) || (c == 45))))

abbrev pub all_word : List ℕ → Bool
all_word [] = true
all_word (c ∷ cs) = is_word c && all_word cs

abbrev pub begins_word : List ℕ → Bool
begins_word [] = false
begins_word (c ∷ cs) = is_word c

abbrev pub is_some_word : List ℕ → Bool
is_some_word w = begins_word w && all_word w

-- the words and numbers of a token are such
abbrev pub Good : Tok → Type 0
Good Blank = Unit {0}
Good Close = Unit {0}
Good Semi = Unit {0}
Good (Open w) = is_some_word w ≡ true
Good (Lit s n) = (is_some_word s ≡ true) × (n ≤ max_number)
Good (Var k) = k ≤ max_number
Good (Word w) = is_some_word w ≡ true

-- the word at the front, and what follows it
abbrev pub front : List ℕ → List ℕ
front [] = []
front (c ∷ cs) = if is_word c then c ∷ front cs else []

abbrev pub behind : List ℕ → List ℕ
behind [] = []
behind (c ∷ cs) = if is_word c then behind cs else c ∷ cs

-- the word at the front, where there is one, and what follows it
abbrev pub first_word : List ℕ → Option (List ℕ × List ℕ)
first_word cs = if begins_word cs then Some (front cs, behind cs) else None

-- a word that is not empty is made a token
abbrev pub word_then : (List ℕ → List ℕ → Read Tok) → List ℕ → Read Tok
word_then f cs = if begins_word cs then f (front cs) (behind cs) else None

abbrev pub number_then : (ℕ → Tok) → List ℕ → Read Tok
number_then f cs = option_map {U = Tok × List ℕ} (λ x. (f x.0, x.1)) (read_number cs)

abbrev pub colon_then : (ℕ → Tok) → List ℕ → Read Tok
colon_then f [] = None
colon_then f (c ∷ cs) = if c == 58 then number_then f cs else None

abbrev pub lit_then : List ℕ → List ℕ → Read Tok
lit_then s rest = colon_then (λ n. Lit s n) rest

abbrev pub open_then : List ℕ → List ℕ → Read Tok
open_then w rest = Some (Open w, rest)

abbrev pub name_then : List ℕ → List ℕ → Read Tok
name_then w rest = Some (Word w, rest)

abbrev pub token_at : ℕ → List ℕ → Read Tok
token_at c cs =
    if c == 32 then Some (Blank, cs)
    else (if c == 41 then Some (Close, cs)
    else (if c == 59 then Some (Semi, cs)
    else (if c == 40 then word_then open_then cs
    else (if c == 35 then word_then lit_then cs
    else (if c == 36 then number_then (λ k. Var k) cs
    else word_then name_then (c ∷ cs))))))

unfoldable pub read_token : List ℕ → Read Tok
read_token [] = None
read_token (c ∷ cs) = token_at c cs
