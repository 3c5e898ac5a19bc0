-- The words and numbers that a text begins with, each behind a blank, and what follows them.
use Rattle.std.specs.Prelude.{ℕ, ℤ, List, [], ◌∷◌, Option, Some, None, codes, ◌==◌, if◌then◌else◌}
use Rattle.alg_certificate.specs.Numbers.{Read}
use Rattle.alg_certificate.specs.Cutting.{after}
use Rattle.alg_certificate.specs.Tokens.{first_word}
use Rattle.alg_certificate_lines.specs.Words.{number_named, numeral_named}

abbrev pub CutWord : Type 0
CutWord = Option (List ℕ × List ℕ)

abbrev pub word_behind : Option (List ℕ) → CutWord
word_behind None = None
word_behind (Some rest) = first_word rest

abbrev pub next_word : List ℕ → CutWord
next_word text = word_behind (after (codes " ") text)

abbrev pub with_rest : Option ℕ → List ℕ → Read ℕ
with_rest None rest = None
with_rest (Some n) rest = Some (n, rest)

abbrev pub number_of_word : CutWord → Read ℕ
number_of_word None = None
number_of_word (Some x) = with_rest (number_named x.0) x.1

abbrev pub next_number : List ℕ → Read ℕ
next_number text = number_of_word (next_word text)

abbrev pub number_alone : Read ℕ → Option ℕ
number_alone None = None
number_alone (Some x) = Some x.0

abbrev pub one_number : List ℕ → Option ℕ
one_number text = number_alone (next_number text)

abbrev pub before_one : ℕ → Option ℕ → Option (ℕ × ℕ)
before_one m None = None
before_one m (Some n) = Some (m, n)

abbrev pub then_one : Read ℕ → Option (ℕ × ℕ)
then_one None = None
then_one (Some x) = before_one x.0 (one_number x.1)

abbrev pub two_numbers : List ℕ → Option (ℕ × ℕ)
two_numbers text = then_one (next_number text)

abbrev pub before_two : ℕ → Option (ℕ × ℕ) → Option (ℕ × ℕ × ℕ)
before_two m None = None
before_two m (Some x) = Some (m, x.0, x.1)

abbrev pub then_two : Read ℕ → Option (ℕ × ℕ × ℕ)
then_two None = None
then_two (Some x) = before_two x.0 (two_numbers x.1)

abbrev pub three_numbers : List ℕ → Option (ℕ × ℕ × ℕ)
three_numbers text = then_two (next_number text)

-- a word, and two numbers behind it
abbrev pub word_before_two : List ℕ → Option (ℕ × ℕ) → Option (List ℕ × ℕ × ℕ)
word_before_two w None = None
word_before_two w (Some x) = Some (w, x.0, x.1)

abbrev pub word_then_two : CutWord → Option (List ℕ × ℕ × ℕ)
word_then_two None = None
word_then_two (Some x) = word_before_two x.0 (two_numbers x.1)

abbrev pub word_and_two : List ℕ → Option (List ℕ × ℕ × ℕ)
word_and_two text = word_then_two (next_word text)

abbrev pub numeral_before : Option ℤ → List ℕ → Read ℤ
numeral_before None rest = None
numeral_before (Some x) rest = Some (x, rest)

abbrev pub numeral_of_word : CutWord → Read ℤ
numeral_of_word None = None
numeral_of_word (Some x) = numeral_before (numeral_named x.0) x.1

abbrev pub next_numeral : List ℕ → Read ℤ
next_numeral text = numeral_of_word (next_word text)

-- what follows the first semicolon
abbrev pub behind_semicolon : List ℕ → Option (List ℕ)
behind_semicolon [] = None
behind_semicolon (c ∷ cs) = if c == 59 then Some cs else behind_semicolon cs
