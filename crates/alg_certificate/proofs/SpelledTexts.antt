-- Every text of the grammar spells a step or a statement.
use Rattle.std.proofs.Common.{◌≡◌, ℕ, Bool, true, false, List, [], ◌∷◌, ◌++◌, All, Some, codes, refl, sym, ap, subst, ◌∙◌, append-nil, if◌then◌else◌}
use Rattle.std.proofs.lemmas.List.Elements.{All-cons}
use Rattle.std.proofs.lemmas.Option.{none-some}
use Rattle.alg_terms.specs.declared.sorts.Sort.{Sort}
use Rattle.alg_terms.specs.Tree.{Tree, Statement}
use Rattle.alg_proof.specs.Names.{IsName}
use Rattle.alg_proof.specs.Steps.{Step, Refl, Symm, Trans, Cong, Subst, Law, Lemma, Hyp, Rest, LitAdd, LitMul, LitRel, Bridge, Compute}
use Rattle.alg_certificate.specs.declared.patterns.Slot.TheVariants as slot
use Rattle.alg_certificate.specs.declared.patterns.Part.{Part}
use Rattle.alg_certificate.specs.declared.patterns.Part.TheVariants.{One, Many}
use Rattle.alg_certificate.specs.Words.{sort_bytes, is_word_of}
use Rattle.alg_certificate.specs.Patterns.{Pattern, pattern_of, short_pattern, literal_pattern, row_pattern, row_of}
use Rattle.alg_certificate.specs.Spelling.{Item, tree, word, semicolon, trees_before, numbers, bytes, spell_items, head_of, items_of, step_bytes, given_bytes, IsInRange, SortFits, TreeFits, HasSpelling, StatementHasSpelling}
use Rattle.alg_certificate.specs.Items.{Matches, IsProofText, IsGivenText}
use Rattle.alg_certificate.proofs.NumberLaws.{some_is}
use Rattle.alg_certificate.proofs.WordLaws.{word_is}
use Rattle.alg_certificate.proofs.SlotLaws.{Spelled, NumeralFits, tree_item, semicolon_item, number_item, sort_item, symbol_item, relation_item, comparison_item, name_item, bridge_item, head_item, numeral_item, number_items, numeral_items, tree_items, trees_then}

-- a step that the text spells
pub record SpellsStep (text : List ℕ) : Type 0 where
  pub step : Step
  pub fits : HasSpelling step
  pub same : step_bytes step ≡ text

-- a statement that the text spells
pub record SpellsStatement (text : List ℕ) : Type 0 where
  pub statement : Statement
  pub fits : StatementHasSpelling statement
  pub same : given_bytes statement ≡ text

-- a step that begins with the word and goes on with the items
record SpellsItems (first : List ℕ) (items : List Item) : Type 0 where
  step : Step
  fits : HasSpelling step
  head : head_of step ≡ first
  rest : items_of step ≡ items

-- each list of items that the parts ask for, behind the word
abbrev Spells : List ℕ → List Part → Type 0
Spells w ps = (is : List Item) → Matches ps is → SpellsItems w is

joined : (i j : Item) (is js ks : List Item) → i ≡ j → is ≡ js → ks ≡ j ∷ js → i ∷ is ≡ ks
joined i j is js ks p q e = cc

-- the last items, any number of them
all_of : (is xs js ks : List Item) → is ≡ xs → ks ≡ xs ++ js → js ≡ [] → is ≡ ks
all_of is xs js ks p e q = p ∙ (sym (append-nil xs) ∙ (ap (λ x. xs ++ x) (sym q) ∙ sym e))

-- lists of items
one_tree : (is : List Item) → Matches (One slot.Tree ∷ []) is → Spelled TreeFits (λ t. tree t ∷ []) is
one_tree is m = let t = tree_item m.0 m.3 in (t.0, t.1, joined _ _ _ _ _ t.2 (sym m.4) m.2)

one_number : (is : List Item) → Matches (One slot.Number ∷ []) is → Spelled IsInRange (λ n. numbers (n ∷ [])) is
one_number is m = let n = number_item m.0 m.3 in (n.0, n.1, joined _ _ _ _ _ n.2 (sym m.4) m.2)

abbrev TwoNumbers : List Item → Type 0
TwoNumbers is = (m : ℕ) × (n : ℕ) × IsInRange m × IsInRange n × (numbers (m ∷ n ∷ []) ≡ is)

two_numbers : (is : List Item) → Matches (One slot.Number ∷ One slot.Number ∷ []) is → TwoNumbers is
two_numbers is m =
    let k = number_item m.0 m.3 in
    let n = one_number m.1 m.4 in
    (k.0, n.0, k.1, n.1, joined _ _ _ _ _ k.2 n.2 m.2)

-- a number and more of them
abbrev SomeNumbers : List Item → Type 0
SomeNumbers is = (n : ℕ) × (ns : List ℕ) × All IsInRange (n ∷ ns) × (numbers (n ∷ ns) ≡ is)

some_numbers : (is : List Item) → Matches (One slot.Number ∷ Many slot.Number ∷ []) is → SomeNumbers is
some_numbers is m =
    let n = number_item m.0 m.3 in
    let ns = number_items m.4.0 m.4.3 in
    (n.0, ns.0, All-cons IsInRange n.0 ns.0 n.1 ns.1, joined _ _ _ _ _ n.2 (all_of _ _ _ _ ns.2 m.4.2 m.4.4) m.2)

-- a sort and two numbers
abbrev Literals : List Item → Type 0
Literals is = (s : Sort) × (m : ℕ) × (n : ℕ) × (SortFits s × IsInRange m × IsInRange n) × (word (sort_bytes s) ∷ numbers (m ∷ n ∷ []) ≡ is)

literals : (is : List Item) → Matches (One slot.Sort ∷ One slot.Number ∷ One slot.Number ∷ []) is → Literals is
literals is m =
    let s = sort_item m.0 m.3 in
    let n = two_numbers m.1 m.4 in
    (s.0, n.0, n.1, (s.1, n.2, n.3), joined _ _ _ _ _ s.2 n.4 m.2)

-- trees, a semicolon and numbers
abbrev Instance : List Item → Type 0
Instance is = (ts : List Tree) × (ns : List ℕ) × All TreeFits ts × All IsInRange ns × (trees_before ts (semicolon ∷ numbers ns) ≡ is)

an_instance : (is : List Item) → Matches (Many slot.Tree ∷ One slot.Semicolon ∷ Many slot.Number ∷ []) is → Instance is
an_instance is m =
    let ts = tree_items m.0 m.3 in
    let ns = number_items m.4.4.0 m.4.4.3 in
    let more : semicolon ∷ numbers ns.0 ≡ m.1 = joined _ _ _ _ _ (semicolon_item m.4.0 m.4.3) (all_of _ _ _ _ ns.2 m.4.4.2 m.4.4.4) m.4.2 in
    let same = ap (λ x. x ++ (semicolon ∷ numbers ns.0)) ts.2 ∙ (ap (λ x. m.0 ++ x) more ∙ sym m.2) in
    (ts.0, ns.0, ts.1, ns.1, trees_then ts.0 (semicolon ∷ numbers ns.0) ∙ same)

-- an instance of a row with this name, at this sort
abbrev RowItems : List Item → Type 0
RowItems is = (n : List ℕ) × (s : Sort) × (ts : List Tree) × (ns : List ℕ) × (IsName n × SortFits s × All TreeFits ts × All IsInRange ns)
    × (word n ∷ word (sort_bytes s) ∷ trees_before ts (semicolon ∷ numbers ns) ≡ is)

row_items : (is : List Item) → Matches row_of is → RowItems is
row_items is m =
    let n = name_item m.0 m.3 in
    let s = sort_item m.4.0 m.4.3 in
    let r = an_instance m.4.1 m.4.4 in
    (n.0, s.0, r.0, r.1, (n.1, s.1, r.2, r.3), joined _ _ _ _ _ n.2 (joined _ _ _ _ _ s.2 r.4 m.4.2) m.2)

-- the first words
refl_items : Spells (codes "refl") (One slot.Tree ∷ [])
refl_items is m = let t = one_tree is m in record { step = Refl t.0; fits = t.1; head = refl; rest = t.2 }

symm_items : Spells (codes "symm") (One slot.Number ∷ [])
symm_items is m = let i = one_number is m in record { step = Symm i.0; fits = i.1; head = refl; rest = i.2 }

trans_items : Spells (codes "trans") (One slot.Number ∷ One slot.Number ∷ [])
trans_items is m = let i = two_numbers is m in record { step = Trans i.0 i.1; fits = (i.2, i.3); head = refl; rest = i.4 }

subst_items : Spells (codes "subst") (One slot.Number ∷ One slot.Number ∷ One slot.Number ∷ [])
subst_items is m =
    let i = number_item m.0 m.3 in
    let j = two_numbers m.1 m.4 in
    record { step = Subst i.0 j.0 j.1; fits = (i.1, j.2, j.3); head = refl; rest = joined _ _ _ _ _ i.2 j.4 m.2 }

cong_items : Spells (codes "cong") (One slot.Symbol ∷ One slot.Number ∷ Many slot.Number ∷ [])
cong_items is m =
    let f = symbol_item m.0 m.3 in
    let i = some_numbers m.1 m.4 in
    record { step = Cong f.0 (i.0 ∷ i.1); fits = (f.1, tt, i.2); head = refl; rest = joined _ _ _ _ _ f.2 i.3 m.2 }

hyp_items : Spells (codes "hyp") (One slot.Number ∷ [])
hyp_items is m = let i = one_number is m in record { step = Hyp i.0; fits = i.1; head = refl; rest = i.2 }

rest_items : Spells (codes "rest") []
rest_items is m = record { step = Rest; fits = tt; head = refl; rest = sym m }

add_items : Spells (codes "add") (One slot.Sort ∷ One slot.Number ∷ One slot.Number ∷ [])
add_items is m = let l = literals is m in record { step = LitAdd l.0 l.1 l.2; fits = l.3; head = refl; rest = l.4 }

mul_items : Spells (codes "mul") (One slot.Sort ∷ One slot.Number ∷ One slot.Number ∷ [])
mul_items is m = let l = literals is m in record { step = LitMul l.0 l.1 l.2; fits = l.3; head = refl; rest = l.4 }

rel_items : Spells (codes "rel") (One slot.Comparison ∷ One slot.Sort ∷ One slot.Number ∷ One slot.Number ∷ [])
rel_items is m =
    let r = comparison_item m.0 m.3 in
    let l = literals m.1 m.4 in
    record { step = LitRel r.0 l.0 l.1 l.2; fits = (r.1, l.3.0, l.3.1, l.3.2); head = refl; rest = joined _ _ _ _ _ r.2 l.4 m.2 }

bridge_items : Spells (codes "bridge") (One slot.Bridge ∷ One slot.Number ∷ One slot.Tree ∷ [])
bridge_items is m =
    let b = bridge_item m.0 m.3 in
    let n = number_item m.4.0 m.4.3 in
    let t = one_tree m.4.1 m.4.4 in
    record { step = Bridge b.0 n.0 t.0; fits = (n.1, t.1); head = refl; rest = joined _ _ _ _ _ b.2 (joined _ _ _ _ _ n.2 t.2 m.4.2) m.2 }

compute_items : Spells (codes "compute") (One slot.Head ∷ One slot.Sort ∷ One slot.Numeral ∷ Many slot.Numeral ∷ [])
compute_items is m =
    let h = head_item m.0 m.3 in
    let s = sort_item m.4.0 m.4.3 in
    let x = numeral_item m.4.4.0 m.4.4.3 in
    let xs = numeral_items m.4.4.4.0 m.4.4.4.3 in
    record {
      step = Compute h.0 s.0 (x.0 ∷ xs.0);
      fits = (h.1, s.1, tt, All-cons NumeralFits x.0 xs.0 x.1 xs.1);
      head = refl;
      rest = joined _ _ _ _ _ h.2 (joined _ _ _ _ _ s.2 (joined _ _ _ _ _ x.2 (all_of _ _ _ _ xs.2 m.4.4.4.2 m.4.4.4.4) m.4.4.2) m.4.2) m.2;
    }

law_items : Spells (codes "law") row_of
law_items is m = let r = row_items is m in record { step = Law r.0 r.1 r.2 r.3; fits = r.4; head = refl; rest = r.5 }

lemma_items : Spells (codes "lemma") row_of
lemma_items is m = let r = row_items is m in record { step = Lemma r.0 r.1 r.2 r.3; fits = r.4; head = refl; rest = r.5 }

-- the table of first words
known : (p w : List ℕ) (qs ps : List Part) (b : Bool) (o : Pattern)
    → is_word_of p w ≡ b → Spells p qs → (o ≡ Some ps → Spells w ps) → if◌then◌else◌ {A = Pattern} b (Some qs) o ≡ Some ps → Spells w ps
known p w qs ps true o d f g e = subst (λ x. Spells x ps) (word_is p w d) (subst (Spells p) (some_is qs ps e) f)
known p w qs ps false o d f g e = g e

row_spells : (w : List ℕ) (ps : List Part) → row_pattern w ≡ Some ps → Spells w ps
row_spells w ps e =
    known (codes "law") w _ ps _ _ refl law_items
    (known (codes "lemma") w _ ps _ _ refl lemma_items
    (λ h. absurd (none-some _ h))) e

literal_spells : (w : List ℕ) (ps : List Part) → literal_pattern w ≡ Some ps → Spells w ps
literal_spells w ps e =
    known (codes "add") w _ ps _ _ refl add_items
    (known (codes "mul") w _ ps _ _ refl mul_items
    (known (codes "rel") w _ ps _ _ refl rel_items
    (known (codes "bridge") w _ ps _ _ refl bridge_items
    (known (codes "compute") w _ ps _ _ refl compute_items
    (row_spells w ps))))) e

short_spells : (w : List ℕ) (ps : List Part) → short_pattern w ≡ Some ps → Spells w ps
short_spells w ps e =
    known (codes "refl") w _ ps _ _ refl refl_items
    (known (codes "hyp") w _ ps _ _ refl hyp_items
    (known (codes "rest") w _ ps _ _ refl rest_items
    (literal_spells w ps))) e

word_spells : (w : List ℕ) (ps : List Part) → pattern_of w ≡ Some ps → Spells w ps
word_spells w ps e =
    known (codes "symm") w _ ps _ _ refl symm_items
    (known (codes "trans") w _ ps _ _ refl trans_items
    (known (codes "subst") w _ ps _ _ refl subst_items
    (known (codes "cong") w _ ps _ _ refl cong_items
    (short_spells w ps)))) e

pub spelled_step : (text : List ℕ) → IsProofText text → SpellsStep text
spelled_step text p =
    let s = word_spells p.first p.parts p.known p.items.items p.items.matches in
    let head = ap (λ w. w ++ bytes (spell_items (items_of s.step))) s.head in
    let rest = ap (λ is. p.first ++ bytes (spell_items is)) s.rest in
    record { step = s.step; fits = s.fits; same = head ∙ (rest ∙ (ap (λ x. p.first ++ x) (sym p.items.same) ∙ sym p.whole)) }

pub spelled_statement : (text : List ℕ) → IsGivenText text → SpellsStatement text
spelled_statement text p =
    let m = p.items.matches in
    let r = relation_item m.0 m.3 in
    let s = sort_item m.4.0 m.4.3 in
    let x = tree_item m.4.4.0 m.4.4.3 in
    let y = one_tree m.4.4.1 m.4.4.4 in
    let items = joined _ _ _ _ _ r.2 (joined _ _ _ _ _ s.2 (joined _ _ _ _ _ x.2 y.2 m.4.4.2) m.4.2) m.2 in
    record {
      statement = record { rel = r.0; sort = s.0; lhs = x.0; rhs = y.0 };
      fits = (s.1, x.1, y.1);
      same = ap (λ is. codes "given" ++ bytes (spell_items is)) items ∙ (ap (λ x. codes "given" ++ x) (sym p.items.same) ∙ sym p.whole);
    }
