-- A line of the grammar is taken for what it is.
use Rattle.std.proofs.Common.{◌≡◌, ℕ, ◌≤◌, true, false, List, [], ◌∷◌, ◌++◌, Option, Some, None, codes, refl, sym, ap, ◌∙◌, arith, ne_eqb, if◌then◌else◌}
use Rattle.std.proofs.lemmas.Bool.{and_parts}
use Rattle.std.proofs.lemmas.Option.{none-some}
use Rattle.alg_certificate.specs.declared.patterns.Part.{Part}
use Rattle.alg_certificate.specs.declared.reader.Kind.{Kind}
use Rattle.alg_certificate.specs.declared.reader.Kind.TheVariants as kind
use Rattle.alg_certificate.specs.declared.reader.State.{State}
use Rattle.alg_certificate.specs.declared.reader.State.TheVariants.{Outside, Begun, Proving, Broken}
use Rattle.alg_certificate.specs.Numbers.{max_number}
use Rattle.alg_certificate.specs.Tokens.{begins_word, is_some_word, first_word}
use Rattle.alg_certificate.specs.Words.{is_word_of}
use Rattle.alg_certificate.specs.Patterns.{pattern_of, given_pattern}
use Rattle.alg_certificate.specs.Walks.{allows}
use Rattle.alg_certificate.specs.Spelling.{goal_bytes}
use Rattle.alg_certificate.specs.Items.{AreItems}
use Rattle.alg_certificate.specs.Reader.{TextLine, goal_line, given_line, proof_line, end_line, of_number, of_pattern, of_word, of_goal, kind_of, line_in}
use Rattle.alg_certificate.specs.Grammar.{IsTextOf, behind_line}
use Rattle.alg_certificate.proofs.NumberLaws.{number_complete, some_is}
use Rattle.alg_certificate.proofs.LexingLaws.{front_is, behind_is}
use Rattle.alg_certificate.proofs.Walkable.{allows_complete, items_quiet}
use Rattle.alg_certificate.proofs.FirstWords.{is_first}

begins_front : (w rest : List ℕ) → is_some_word w ≡ true → begins_word (w ++ rest) ≡ true
begins_front [] rest e = cc
begins_front (c ∷ cs) rest e = (and_parts _ _ e).0

-- the first word of a text, and what follows it
cut_first : (w rest : List ℕ) → is_some_word w ≡ true → begins_word rest ≡ false → first_word (w ++ rest) ≡ Some (w, rest)
cut_first w rest good e =
    let all = (and_parts _ _ good).1 in
    rw (begins_front w rest good, front_is w rest all e, behind_is w rest all e) refl

quiet : (ps : List Part) (rest : List ℕ) → AreItems ps rest → begins_word rest ≡ false
quiet ps rest a = ap begins_word a.same ∙ items_quiet a.items

proof_kind : (w rest : List ℕ) (ps : List Part) → pattern_of w ≡ Some ps → AreItems ps rest → kind_of (w ++ rest) ≡ Some kind.Proof
proof_kind w rest ps p a =
    let f = is_first w ps p in
    let cut : first_word (w ++ rest) ≡ Some (w, rest) = cut_first w rest f.word (quiet ps rest a) in
    ap (λ o. of_goal o (if is_word_of (codes "end") (w ++ rest) then Some kind.End else of_word (first_word (w ++ rest)))) (f.no_goal rest)
    ∙ (ap (λ b. if◌then◌else◌ {A = Option Kind} b (Some kind.End) (of_word (first_word (w ++ rest)))) (f.no_end rest)
    ∙ (ap of_word cut
    ∙ (ap (λ b. if◌then◌else◌ {A = Option Kind} b (if allows given_pattern rest then Some kind.Given else None) (of_pattern (pattern_of w) rest)) f.no_given
    ∙ (ap (λ o. of_pattern o rest) p
    ∙ ap (λ b. if◌then◌else◌ {A = Option Kind} b (Some kind.Proof) None) (allows_complete ps rest f.clear a)))))

given_kind : (rest : List ℕ) → AreItems given_pattern rest → kind_of (codes "given" ++ rest) ≡ Some kind.Given
given_kind rest a =
    ap of_word (cut_first (codes "given") rest refl (quiet given_pattern rest a))
    ∙ ap (λ b. if◌then◌else◌ {A = Option Kind} b (Some kind.Given) None) (allows_complete given_pattern rest tt a)

goal_kind : (n : ℕ) → 1 ≤ n → n ≤ max_number → kind_of (goal_bytes n) ≡ Some (kind.Goal n)
goal_kind n some fits = ap of_number (number_complete n [] fits refl) ∙ ap (λ b. if◌then◌else◌ {A = Option Kind} b None (Some (kind.Goal n))) (ne_eqb n 0 (omega (arith, some)))

abbrev kind_for : TextLine → Kind
kind_for (goal_line n) = kind.Goal n
kind_for (given_line t) = kind.Given
kind_for (proof_line t) = kind.Proof
kind_for end_line = kind.End

-- COMPLETE: a line of the grammar is taken for what it is
kind_complete : (l : TextLine) (text : List ℕ) → IsTextOf l text → kind_of text ≡ Some (kind_for l)
kind_complete (goal_line n) text s = ap kind_of s.2 ∙ goal_kind n s.0 s.1
kind_complete (given_line t) text s = ap kind_of s.1.whole ∙ given_kind s.1.rest s.1.items
kind_complete (proof_line t) text s = ap kind_of s.1.whole ∙ proof_kind s.1.first s.1.rest s.1.parts s.1.known s.1.items
kind_complete end_line text s = ap kind_of s

abbrev Line : Type 0
Line = TextLine × State

next_is : (l : TextLine) (st next : State) → ◌≡◌ {A = Option State} (Some st) (Some next) → ◌≡◌ {A = Option Line} (Some (l, st)) (Some (l, next))
next_is l st next e = ap (λ (s : State). Some (l, s)) (some_is st next e)

named : (t text : List ℕ) (f : List ℕ → TextLine) (st : State) → t ≡ text → ◌≡◌ {A = Option Line} (Some (f text, st)) (Some (f t, st))
named t text f st e = ap (λ x. Some (f x, st)) (sym e)

-- the line is read where it may stand
stands : (st : State) (l : TextLine) (next : State) (text : List ℕ) → IsTextOf l text → behind_line st l ≡ Some next → line_in st text (Some (kind_for l)) ≡ Some (l, next)
stands Outside (goal_line n) next text s e = next_is (goal_line n) Begun next e
stands Outside (given_line t) next text s e = absurd (none-some _ e)
stands Outside (proof_line t) next text s e = absurd (none-some _ e)
stands Outside end_line next text s e = absurd (none-some _ e)
stands Begun (goal_line n) next text s e = absurd (none-some _ e)
stands Begun (given_line t) next text s e = named t text given_line Proving s.0 ∙ next_is (given_line t) Proving next e
stands Begun (proof_line t) next text s e = named t text proof_line Proving s.0 ∙ next_is (proof_line t) Proving next e
stands Begun end_line next text s e = next_is end_line Outside next e
stands Proving (goal_line n) next text s e = absurd (none-some _ e)
stands Proving (given_line t) next text s e = absurd (none-some _ e)
stands Proving (proof_line t) next text s e = named t text proof_line Proving s.0 ∙ next_is (proof_line t) Proving next e
stands Proving end_line next text s e = next_is end_line Outside next e
stands Broken l next text s e = absurd (none-some _ e)

pub line_complete : (st : State) (l : TextLine) (next : State) (text : List ℕ) → IsTextOf l text → behind_line st l ≡ Some next → line_in st text (kind_of text) ≡ Some (l, next)
line_complete st l next text s e = ap (line_in st text) (kind_complete l text s) ∙ stands st l next text s e
