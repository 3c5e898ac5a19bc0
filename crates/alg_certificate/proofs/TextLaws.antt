-- What is spelled is a text of the grammar, without a line feed.
use Rattle.std.proofs.Common.{◌≡◌, ℕ, ℤ, List, [], ◌∷◌, ◌++◌, All, Some, refl, sym, ◌∙◌, append-nil}
use Rattle.std.proofs.lemmas.List.Elements.{All-head, All-tail}
use Rattle.alg_terms.specs.declared.sorts.Sort.{Sort}
use Rattle.alg_terms.specs.Tree.{Tree, Statement}
use Rattle.alg_proof.specs.Names.{IsName}
use Rattle.alg_proof.specs.Steps.{Step, Refl, Symm, Trans, Cong, Subst, Law, Lemma, Hyp, Rest, LitAdd, LitMul, LitRel, Bridge, Compute}
use Rattle.alg_certificate.specs.declared.patterns.Slot.{Slot}
use Rattle.alg_certificate.specs.declared.patterns.Slot.TheVariants as slot
use Rattle.alg_certificate.specs.declared.patterns.Part.{Part}
use Rattle.alg_certificate.specs.declared.patterns.Part.TheVariants.{One, Many}
use Rattle.alg_certificate.specs.Words.{sort_bytes, relation_bytes}
use Rattle.alg_certificate.specs.Patterns.{pattern_of, row_of, given_pattern}
use Rattle.alg_certificate.specs.Spelling.{Item, tree, word, semicolon, trees_before, numbers, numerals, bytes, spell_items, head_of, items_of, step_bytes, given_bytes, IsInRange, SortFits, TreeFits, HasOne, HasSpelling, StatementHasSpelling}
use Rattle.alg_certificate.specs.Items.{AllFit, Matches, IsProofText, IsGivenText}
use Rattle.alg_certificate.specs.Grammar.{HasNoFeed}
use Rattle.alg_certificate.proofs.Fitting.{number_fits, sort_fits, symbol_fits}
use Rattle.alg_certificate.proofs.SlotLaws.{NumeralFits, trees_then}
use Rattle.alg_certificate.proofs.SlotFitting.{relation_fits, comparison_fits, bridge_fits, head_fits, numeral_fits, numbers_fit, numerals_fit, trees_fit}
use Rattle.alg_certificate.proofs.PlainTexts.{proof_text_plain, given_text_plain}
pub use Rattle.alg_certificate.proofs.PlainTexts.{goal_plain, end_plain}

-- any number of items at the end
ending : (s : Slot) (is : List Item) → AllFit s is → Matches (Many s ∷ []) is
ending s is f = (is, [], sym (append-nil is), f, refl)

one_tree : (t : Tree) → TreeFits t → Matches (One slot.Tree ∷ []) (tree t ∷ [])
one_tree t f = (_, _, refl, (refl, f), refl)

one_number : (n : ℕ) → IsInRange n → Matches (One slot.Number ∷ []) (numbers (n ∷ []))
one_number n f = (_, _, refl, number_fits n f, refl)

two_numbers : (m n : ℕ) → IsInRange m → IsInRange n → Matches (One slot.Number ∷ One slot.Number ∷ []) (numbers (m ∷ n ∷ []))
two_numbers m n f g = (_, _, refl, number_fits m f, one_number n g)

some_numbers : (ns : List ℕ) → HasOne ns → All IsInRange ns → Matches (One slot.Number ∷ Many slot.Number ∷ []) (numbers ns)
some_numbers [] h f = absurd h
some_numbers (n ∷ ns) h f = (_, _, refl, number_fits n (All-head IsInRange n ns f), ending slot.Number (numbers ns) (numbers_fit ns (All-tail IsInRange n ns f)))

some_numerals : (xs : List ℤ) → HasOne xs → All NumeralFits xs → Matches (One slot.Numeral ∷ Many slot.Numeral ∷ []) (numerals xs)
some_numerals [] h f = absurd h
some_numerals (x ∷ xs) h f = (_, _, refl, numeral_fits x (All-head NumeralFits x xs f), ending slot.Numeral (numerals xs) (numerals_fit xs (All-tail NumeralFits x xs f)))

abbrev literal_parts : List Part
literal_parts = One slot.Sort ∷ One slot.Number ∷ One slot.Number ∷ []

literals : (s : Sort) (m n : ℕ) → SortFits s → IsInRange m → IsInRange n → Matches literal_parts (word (sort_bytes s) ∷ numbers (m ∷ n ∷ []))
literals s m n f g h = (_, _, refl, sort_fits s f, two_numbers m n g h)

-- trees, a semicolon and numbers
abbrev instance_parts : List Part
instance_parts = Many slot.Tree ∷ One slot.Semicolon ∷ Many slot.Number ∷ []

an_instance : (ts : List Tree) (ns : List ℕ) → All TreeFits ts → All IsInRange ns → Matches instance_parts (trees_before ts (semicolon ∷ numbers ns))
an_instance ts ns f g =
    (trees_before ts [], _, trees_then ts (semicolon ∷ numbers ns), trees_fit ts f, (_, _, refl, refl, ending slot.Number (numbers ns) (numbers_fit ns g)))

row_items : (n : List ℕ) (s : Sort) (ts : List Tree) (ns : List ℕ) → IsName n → SortFits s → All TreeFits ts → All IsInRange ns
    → Matches row_of (word n ∷ word (sort_bytes s) ∷ trees_before ts (semicolon ∷ numbers ns))
row_items n s ts ns f g h k = (_, _, refl, f, (_, _, refl, sort_fits s g, an_instance ts ns h k))

proof_text : (w : List ℕ) (ps : List Part) (is : List Item) → pattern_of w ≡ Some ps → Matches ps is → IsProofText (w ++ bytes (spell_items is))
proof_text w ps is e m = record {
  first = w;
  parts = ps;
  rest = bytes (spell_items is);
  whole = refl;
  known = e;
  items = record { items = is; matches = m; same = refl };
}

-- the parts of a step's line
abbrev parts_of : Step → List Part
parts_of (Refl t) = One slot.Tree ∷ []
parts_of (Symm i) = One slot.Number ∷ []
parts_of (Trans i j) = One slot.Number ∷ One slot.Number ∷ []
parts_of (Cong f is) = One slot.Symbol ∷ One slot.Number ∷ Many slot.Number ∷ []
parts_of (Subst i j k) = One slot.Number ∷ One slot.Number ∷ One slot.Number ∷ []
parts_of (Law n s ts is) = row_of
parts_of (Lemma n s ts is) = row_of
parts_of (Hyp n) = One slot.Number ∷ []
parts_of Rest = []
parts_of (LitAdd s m n) = literal_parts
parts_of (LitMul s m n) = literal_parts
parts_of (LitRel r s m n) = One slot.Comparison ∷ literal_parts
parts_of (Bridge b n t) = One slot.Bridge ∷ One slot.Number ∷ One slot.Tree ∷ []
parts_of (Compute h s xs) = One slot.Head ∷ One slot.Sort ∷ One slot.Numeral ∷ Many slot.Numeral ∷ []

-- they are those of the table
known_parts : (l : Step) → pattern_of (head_of l) ≡ Some (parts_of l)
known_parts (Refl t) = refl
known_parts (Symm i) = refl
known_parts (Trans i j) = refl
known_parts (Cong f is) = refl
known_parts (Subst i j k) = refl
known_parts (Law n s ts is) = refl
known_parts (Lemma n s ts is) = refl
known_parts (Hyp n) = refl
known_parts Rest = refl
known_parts (LitAdd s m n) = refl
known_parts (LitMul s m n) = refl
known_parts (LitRel r s m n) = refl
known_parts (Bridge b n t) = refl
known_parts (Compute h s xs) = refl

-- its items are those that the parts ask for
items_match : (l : Step) → HasSpelling l → Matches (parts_of l) (items_of l)
items_match (Refl t) h = one_tree t h
items_match (Symm i) h = one_number i h
items_match (Trans i j) h = two_numbers i j h.0 h.1
items_match (Cong f is) h = (_, _, refl, symbol_fits f h.0, some_numbers is h.1 h.2)
items_match (Subst i j k) h = (_, _, refl, number_fits i h.0, two_numbers j k h.1 h.2)
items_match (Law n s ts is) h = row_items n s ts is h.0 h.1 h.2 h.3
items_match (Lemma n s ts is) h = row_items n s ts is h.0 h.1 h.2 h.3
items_match (Hyp n) h = one_number n h
items_match Rest h = refl
items_match (LitAdd s m n) h = literals s m n h.0 h.1 h.2
items_match (LitMul s m n) h = literals s m n h.0 h.1 h.2
items_match (LitRel r s m n) h = (_, _, refl, comparison_fits r h.0, literals s m n h.1 h.2 h.3)
items_match (Bridge b n t) h = (_, _, refl, bridge_fits b, (_, _, refl, number_fits n h.0, one_tree t h.1))
items_match (Compute k s xs) h = (_, _, refl, head_fits k h.0, (_, _, refl, sort_fits s h.1, some_numerals xs h.2 h.3))

pub step_text : (l : Step) → HasSpelling l → IsProofText (step_bytes l)
step_text l h = proof_text (head_of l) (parts_of l) (items_of l) (known_parts l) (items_match l h)

given_items : (s : Statement) → StatementHasSpelling s → Matches given_pattern (word (relation_bytes s.rel) ∷ word (sort_bytes s.sort) ∷ tree s.lhs ∷ tree s.rhs ∷ [])
given_items s h = (_, _, refl, relation_fits s.rel, (_, _, refl, sort_fits s.sort h.0, (_, _, refl, (refl, h.1), one_tree s.rhs h.2)))

pub given_text : (s : Statement) → StatementHasSpelling s → IsGivenText (given_bytes s)
given_text s h =
    let m = given_items s h in
    let items = word (relation_bytes s.rel) ∷ word (sort_bytes s.sort) ∷ tree s.lhs ∷ tree s.rhs ∷ [] in
    record { rest = bytes (spell_items items); whole = refl; items = record { items = items; matches = m; same = refl } }

pub step_plain : (l : Step) → HasSpelling l → HasNoFeed (step_bytes l)
step_plain l h = proof_text_plain (step_bytes l) (step_text l h)

pub given_plain : (s : Statement) → StatementHasSpelling s → HasNoFeed (given_bytes s)
given_plain s h = given_text_plain (given_bytes s) (given_text s h)

-- no two texts spell one line
pub one_text : (l : Step) (s t : List ℕ) → step_bytes l ≡ s → step_bytes l ≡ t → s ≡ t
one_text l s t e f = sym e ∙ f
