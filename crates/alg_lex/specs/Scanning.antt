-- How far the parts of a text reach, a character at a time.
use Rattle.std.specs.Prelude.{◌≡◌, ℕ, zero, suc, ◌+◌, ◌==◌, List, [], ◌∷◌, ◌++◌, length, if◌then◌else◌, Option, Some, None}
use Rattle.std.specs.Str.{chars, encode_utf8_all, IsUtf8}
use Rattle.alg_lex.specs.declared.scan.Piece.{Piece}
use Rattle.alg_lex.specs.declared.scan.Piece.TheVariants.{Number, Identifier, Sign, Stray}
use Rattle.alg_lex.specs.Characters.{is_digit, is_start, is_continue, first}
use Rattle.alg_lex.specs.Tokens.{is_mark}

abbrev pub digits_len : List ℕ → ℕ
digits_len [] = 0
digits_len (c ∷ cs) = if is_digit c then suc (digits_len cs) else 0

-- a dot, where a part follows at once
abbrev pub dotted : ℕ → ℕ
dotted zero = 0
dotted (suc n) = suc (suc n)

abbrev mutual
  -- a name from here on
  pub name_len : List ℕ → ℕ
  name_len [] = 0
  name_len (c ∷ cs) = if is_start c then suc (tail_len cs) else 0

  -- what goes on with a name
  pub tail_len : List ℕ → ℕ
  tail_len [] = 0
  tail_len (c ∷ cs) = if c == 46 then dotted (name_len cs) else (if is_continue c then suc (tail_len cs) else 0)

-- the mark here, with the number of its characters behind the first
abbrev pub marked : ℕ → List ℕ → Piece × ℕ
marked c cs = if is_mark (c ∷ first cs ∷ []) then (Sign, 1) else (if is_mark (c ∷ []) then (Sign, 0) else (Stray, 0))

-- the token here, with the number of its characters behind the first
abbrev pub scanned : ℕ → List ℕ → Piece × ℕ
scanned c cs = if is_digit c then (Number, digits_len cs) else (if is_start c then (Identifier, tail_len cs) else marked c cs)

-- rest is the text without its first n characters
pub record Leaves (n : ℕ) (text rest : List ℕ) : Type 0 where
  pub front : List ℕ
  pub size : length front ≡ n
  pub bytes : text ≡ encode_utf8_all front ++ rest
  pub characters : chars text ≡ front ++ chars rest

-- A front of the text has been passed, and with it so much of all that is to be passed that this many characters are left.
pub record Scans (all : ℕ) (text left : List ℕ) (more : ℕ) : Type 0 where
  pub front : List ℕ
  pub bytes : text ≡ encode_utf8_all front ++ left
  pub characters : chars text ≡ front ++ chars left
  pub count : all ≡ length front + more
  pub utf8 : IsUtf8 left

-- rest, if there is one, is the text without so many characters
abbrev pub LeavesIf : Option ℕ → List ℕ → Option (List ℕ) → Type 0
LeavesIf None text None = Unit {0}
LeavesIf None text (Some rest) = ⊥
LeavesIf (Some n) text None = ⊥
LeavesIf (Some n) text (Some rest) = Leaves n text rest

-- A piece of this kind stands at the front of the text, and rest behind it.
pub record Cuts (found : Piece × ℕ) (text : List ℕ) (kind : Piece) (rest : List ℕ) : Type 0 where
  pub piece : kind ≡ found.0
  pub leaves : Leaves found.1 text rest
