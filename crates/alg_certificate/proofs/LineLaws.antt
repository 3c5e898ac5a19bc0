-- A line that is read is one of the grammar.
use Rattle.std.proofs.Common.{◌≡◌, ◌≢◌, ℕ, ◌≤◌, Bool, true, false, List, ◌++◌, Option, Some, None, ◌==◌, codes, decimal, refl, sym, ap, subst, ◌∙◌, arith, if◌then◌else◌}
use Rattle.std.proofs.lemmas.Bool.{eqb-false}
use Rattle.std.proofs.lemmas.Option.{none-some}
use Rattle.alg_certificate.specs.declared.patterns.Part.{Part}
use Rattle.alg_certificate.specs.declared.reader.Kind.{Kind}
use Rattle.alg_certificate.specs.declared.reader.Kind.TheVariants as kind
use Rattle.alg_certificate.specs.declared.reader.State.{State}
use Rattle.alg_certificate.specs.declared.reader.State.TheVariants.{Outside, Begun, Proving, Broken}
use Rattle.alg_certificate.specs.Numbers.{Read, read_number, max_number}
use Rattle.alg_certificate.specs.Tokens.{first_word, front, behind, begins_word}
use Rattle.alg_certificate.specs.Cutting.{after, is_empty}
use Rattle.alg_certificate.specs.Words.{is_word_of}
use Rattle.alg_certificate.specs.Patterns.{Pattern, pattern_of, given_pattern}
use Rattle.alg_certificate.specs.Walks.{allows}
use Rattle.alg_certificate.specs.Reader.{TextLine, goal_line, given_line, proof_line, end_line, of_number, of_pattern, of_word, of_goal, kind_of, outside_line, proving_line, begun_line, line_in}
use Rattle.alg_certificate.specs.Spelling.{goal_bytes}
use Rattle.alg_certificate.specs.Items.{IsProofText, IsGivenText, IsSpelled}
use Rattle.alg_certificate.specs.Grammar.{IsTextOf, behind_line}
use Rattle.alg_certificate.proofs.NumberLaws.{some_is, number_sound as number_text}
use Rattle.alg_certificate.proofs.LexingLaws.{parts}
use Rattle.alg_certificate.proofs.WordLaws.{word_is, after_is, nothing_left}
use Rattle.alg_certificate.proofs.ItemLaws.{allows_sound}

abbrev Sound : List ℕ → Kind → Type 0
Sound text (kind.Goal n) = (1 ≤ n) × (n ≤ max_number) × (text ≡ goal_bytes n)
Sound text kind.Given = IsGivenText text
Sound text kind.Proof = IsProofText text
Sound text kind.End = text ≡ codes "end"

moved : (text : List ℕ) (j k : Kind) → ◌≡◌ {A = Option Kind} (Some j) (Some k) → Sound text j → Sound text k
moved text j k e s = subst (Sound text) (some_is j k e) s

goal_text : (text rest : List ℕ) (n : ℕ) (more : List ℕ) → after (codes "goal ") text ≡ Some rest → read_number rest ≡ Some (n, more) → is_empty more ≡ true → (n ≤ max_number) × (text ≡ goal_bytes n)
goal_text text rest n more a r e =
    let s = number_text rest n more r in
    (s.1, after_is (codes "goal ") text rest a ∙ ap (λ x. codes "goal " ++ x) (s.0 ∙ ap (λ x. decimal n ++ x) (nothing_left more e)))

goal_by : (text : List ℕ) (n : ℕ) (b c : Bool) (k : Kind) → (n == 0) ≡ c → (b ≡ true → (n ≤ max_number) × (text ≡ goal_bytes n)) → if◌then◌else◌ {A = Option Kind} b (if◌then◌else◌ {A = Option Kind} c None (Some (kind.Goal n))) None ≡ Some k → Sound text k
goal_by text n true true k d f e = absurd (none-some _ e)
goal_by text n true false k d f e =
    let g = f refl in
    let not_zero : n ≢ 0 = eqb-false n 0 d in
    let sound : Sound text (kind.Goal n) = (omega (arith, not_zero), g.0, g.1) in
    moved text (kind.Goal n) k e sound
goal_by text n false c k d f e = absurd (none-some _ e)

number_sound : (text rest : List ℕ) (r : Read ℕ) (k : Kind) → after (codes "goal ") text ≡ Some rest → read_number rest ≡ r → of_number r ≡ Some k → Sound text k
number_sound text rest None k a d e = absurd (none-some _ e)
number_sound text rest (Some x) k a d e = goal_by text x.0 (is_empty x.1) (x.0 == 0) k refl (λ h. goal_text text rest x.0 x.1 a d h) e

pattern_by : (text : List ℕ) (k : Kind) (ps : List Part) (b : Bool) → pattern_of (front text) ≡ Some ps → allows ps (behind text) ≡ b → if◌then◌else◌ {A = Option Kind} b (Some kind.Proof) None ≡ Some k → Sound text k
pattern_by text k ps true p a e =
    let proof : IsProofText text = record { first = front text; parts = ps; rest = behind text; whole = sym (parts text); known = p; items = allows_sound ps (behind text) a } in
    moved text kind.Proof k e proof
pattern_by text k ps false p a e = absurd (none-some _ e)

pattern_sound : (text : List ℕ) (k : Kind) (o : Pattern) → pattern_of (front text) ≡ o → of_pattern o (behind text) ≡ Some k → Sound text k
pattern_sound text k None p e = absurd (none-some _ e)
pattern_sound text k (Some ps) p e = pattern_by text k ps _ p refl e

given_by : (text : List ℕ) (k : Kind) (b : Bool) → is_word_of (codes "given") (front text) ≡ true → allows given_pattern (behind text) ≡ b → if◌then◌else◌ {A = Option Kind} b (Some kind.Given) None ≡ Some k → Sound text k
given_by text k true w a e =
    let given : IsGivenText text = record { rest = behind text; whole = sym (parts text) ∙ ap (λ x. x ++ behind text) (sym (word_is (codes "given") (front text) w)); items = allows_sound given_pattern (behind text) a } in
    moved text kind.Given k e given
given_by text k false w a e = absurd (none-some _ e)

head_by : (text : List ℕ) (k : Kind) (b : Bool) → is_word_of (codes "given") (front text) ≡ b → if◌then◌else◌ {A = Option Kind} b (if allows given_pattern (behind text) then Some kind.Given else None) (of_pattern (pattern_of (front text)) (behind text)) ≡ Some k → Sound text k
head_by text k true w e = given_by text k _ w refl e
head_by text k false w e = pattern_sound text k _ refl e

word_by : (text : List ℕ) (k : Kind) (b : Bool) → of_word (if◌then◌else◌ {A = Option (List ℕ × List ℕ)} b (Some (front text, behind text)) None) ≡ Some k → Sound text k
word_by text k true e = head_by text k _ refl e
word_by text k false e = absurd (none-some _ e)

end_by : (text : List ℕ) (k : Kind) (b : Bool) → is_word_of (codes "end") text ≡ b → if◌then◌else◌ {A = Option Kind} b (Some kind.End) (of_word (first_word text)) ≡ Some k → Sound text k
end_by text k true d e =
    let sound : Sound text kind.End = sym (word_is (codes "end") text d) in
    moved text kind.End k e sound
end_by text k false d e = word_by text k (begins_word text) e

goal_sound : (text : List ℕ) (k : Kind) (o : Option (List ℕ)) (other : Option Kind) → after (codes "goal ") text ≡ o → (other ≡ Some k → Sound text k) → of_goal o other ≡ Some k → Sound text k
goal_sound text k None other a f e = f e
goal_sound text k (Some rest) other a f e = number_sound text rest (read_number rest) k a refl e

pub kind_sound : (text : List ℕ) (k : Kind) → kind_of text ≡ Some k → Sound text k
kind_sound text k e = goal_sound text k _ _ refl (end_by text k _ refl) e

abbrev Line : Type 0
Line = TextLine × State

-- the line's text, and that it may stand there
abbrev IsLine : State → List ℕ → Line → Type 0
IsLine st text y = IsTextOf y.0 text × (behind_line st y.0 ≡ Some y.1)

spelled : (st : State) (text : List ℕ) (x y : Line) → ◌≡◌ {A = Option Line} (Some x) (Some y) → IsLine st text x → IsLine st text y
spelled st text x y e s = subst (IsLine st text) (some_is x y e) s

outside_sound : (text : List ℕ) (o : Option Kind) (y : Line) → ((k : Kind) → o ≡ Some k → Sound text k) → outside_line o ≡ Some y → IsLine Outside text y
outside_sound text None y f e = absurd (none-some _ e)
outside_sound text (Some (kind.Goal n)) y f e = spelled Outside text (goal_line n, Begun) y e (f (kind.Goal n) refl, refl)
outside_sound text (Some kind.Given) y f e = absurd (none-some _ e)
outside_sound text (Some kind.Proof) y f e = absurd (none-some _ e)
outside_sound text (Some kind.End) y f e = absurd (none-some _ e)

proving_sound : (text : List ℕ) (o : Option Kind) (y : Line) → ((k : Kind) → o ≡ Some k → Sound text k) → proving_line text o ≡ Some y → IsLine Proving text y
proving_sound text None y f e = absurd (none-some _ e)
proving_sound text (Some (kind.Goal n)) y f e = absurd (none-some _ e)
proving_sound text (Some kind.Given) y f e = absurd (none-some _ e)
proving_sound text (Some kind.Proof) y f e = spelled Proving text (proof_line text, Proving) y e ((refl, f kind.Proof refl), refl)
proving_sound text (Some kind.End) y f e = spelled Proving text (end_line, Outside) y e (f kind.End refl, refl)

begun_sound : (text : List ℕ) (o : Option Kind) (y : Line) → ((k : Kind) → o ≡ Some k → Sound text k) → begun_line text o ≡ Some y → IsLine Begun text y
begun_sound text None y f e = absurd (none-some _ e)
begun_sound text (Some (kind.Goal n)) y f e = absurd (none-some _ e)
begun_sound text (Some kind.Given) y f e = spelled Begun text (given_line text, Proving) y e ((refl, f kind.Given refl), refl)
begun_sound text (Some kind.Proof) y f e = spelled Begun text (proof_line text, Proving) y e ((refl, f kind.Proof refl), refl)
begun_sound text (Some kind.End) y f e = spelled Begun text (end_line, Outside) y e (f kind.End refl, refl)

-- SOUND: a line that is read is of the grammar, and may stand where it stands
pub line_text : (st : State) (text : List ℕ) (y : Line) → line_in st text (kind_of text) ≡ Some y → IsLine st text y
line_text Outside text y e = outside_sound text (kind_of text) y (kind_sound text) e
line_text Begun text y e = begun_sound text (kind_of text) y (kind_sound text) e
line_text Proving text y e = proving_sound text (kind_of text) y (kind_sound text) e
line_text Broken text y e = absurd (none-some _ e)

is_spelled : (l : TextLine) (text : List ℕ) → IsTextOf l text → IsSpelled l
is_spelled (goal_line n) text s = tt
is_spelled (given_line t) text s = subst IsGivenText (sym s.0) s.1
is_spelled (proof_line t) text s = subst IsProofText (sym s.0) s.1
is_spelled end_line text s = tt

pub line_sound : (st : State) (text : List ℕ) (y : Line) → line_in st text (kind_of text) ≡ Some y → IsSpelled y.0
line_sound st text y e = is_spelled y.0 text (line_text st text y e).0
