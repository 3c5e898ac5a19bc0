-- A text of the grammar has no line feed.
use Rattle.std.proofs.Common.{◌≡◌, ◌≢◌, ℕ, ◌≤◌, true, List, [], ◌∷◌, ◌++◌, codes, decimal, refl, sym, ap, subst, arith}
use Rattle.std.proofs.lemmas.Bool.{and_parts, both_ways}
use Rattle.alg_certificate.specs.declared.patterns.Part.{Part}
use Rattle.alg_certificate.specs.Numbers.{max_number}
use Rattle.alg_certificate.specs.Tokens.{Tok, Blank, Close, Semi, Open, Lit, Var, Word, token_bytes, Good, is_word, all_word, begins_word, is_some_word}
use Rattle.alg_certificate.specs.Patterns.{given_pattern}
use Rattle.alg_certificate.specs.Spelling.{bytes, numbers, spell_items, line_of, goal_bytes}
use Rattle.alg_certificate.specs.Items.{AreItems, IsProofText, IsGivenText}
use Rattle.alg_certificate.specs.Grammar.{HasNoFeed}
use Rattle.alg_certificate.proofs.ApartLaws.{Separated}
use Rattle.alg_certificate.proofs.Wordlike.{number_word}
use Rattle.alg_certificate.proofs.Walkable.{items_separated}
use Rattle.alg_certificate.proofs.FirstWords.{is_first}

plain_append : (xs ys : List ℕ) → HasNoFeed xs → HasNoFeed ys → HasNoFeed (xs ++ ys)
plain_append [] ys p q = q
plain_append (x ∷ xs) ys p q = (p.0, plain_append xs ys p.1 q)

all_plain : (w : List ℕ) → all_word w ≡ true → HasNoFeed w
all_plain [] e = tt
all_plain (c ∷ cs) e =
    let p = and_parts (is_word c) (all_word cs) e in
    (λ same. both_ways (is_word c) (ap is_word same) p.0, all_plain cs p.1)

word_plain : (w : List ℕ) → is_some_word w ≡ true → HasNoFeed w
word_plain w e = all_plain w (and_parts (begins_word w) (all_word w) e).1

number_plain : (n : ℕ) → n ≤ max_number → HasNoFeed (decimal n)
number_plain n fits = word_plain (decimal n) (number_word n fits)

begun_plain : (c : ℕ) (cs : List ℕ) → c ≢ 10 → HasNoFeed cs → HasNoFeed (c ∷ cs)
begun_plain c cs e p = (e, p)

token_plain : (t : Tok) → Good t → HasNoFeed (token_bytes t)
token_plain Blank g = begun_plain 32 [] (omega arith) tt
token_plain Close g = begun_plain 41 [] (omega arith) tt
token_plain Semi g = begun_plain 59 [] (omega arith) tt
token_plain (Open w) g = begun_plain 40 w (omega arith) (word_plain w g)
token_plain (Lit s n) g =
    let number = begun_plain 58 (decimal n) (omega arith) (number_plain n g.1) in
    begun_plain 35 (s ++ 58 ∷ decimal n) (omega arith) (plain_append s (58 ∷ decimal n) (word_plain s g.0) number)
token_plain (Var k) g = begun_plain 36 (decimal k) (omega arith) (number_plain k g)
token_plain (Word w) g = word_plain w g

tokens_plain : (ts : List Tok) → Separated ts → HasNoFeed (bytes ts)
tokens_plain [] s = tt
tokens_plain (t ∷ ts) s = plain_append (token_bytes t) (bytes ts) (token_plain t s.0) (tokens_plain ts s.2)

items_plain : (ps : List Part) (text : List ℕ) → AreItems ps text → HasNoFeed text
items_plain ps text a = subst HasNoFeed (sym a.same) (tokens_plain (spell_items a.items) (items_separated ps a.items a.matches))

pub proof_text_plain : (text : List ℕ) → IsProofText text → HasNoFeed text
proof_text_plain text p =
    let first = word_plain p.first (is_first p.first p.parts p.known).word in
    subst HasNoFeed (sym p.whole) (plain_append p.first p.rest first (items_plain p.parts p.rest p.items))

pub given_text_plain : (text : List ℕ) → IsGivenText text → HasNoFeed text
given_text_plain text p =
    let first = word_plain (codes "given") refl in
    subst HasNoFeed (sym p.whole) (plain_append (codes "given") p.rest first (items_plain given_pattern p.rest p.items))

pub goal_plain : (n : ℕ) → n ≤ max_number → HasNoFeed (goal_bytes n)
goal_plain n fits = tokens_plain (line_of (codes "goal") (numbers (n ∷ []))) (refl, refl, (tt, tt, (number_word n fits, refl, tt)))

pub end_plain : HasNoFeed (codes "end")
end_plain = word_plain (codes "end") refl
