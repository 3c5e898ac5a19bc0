-- What an item is that fits a slot: a value of the slot's kind, as it is spelled.
use Rattle.std.specs.Prelude.{⊤}
use Rattle.std.proofs.Common.{◌≡◌, ℕ, zero, suc, ◌≤◌, ℤ, pos, negsuc, unsigned_abs, true, false, not, ◌==◌, List, [], ◌∷◌, ◌++◌, All, Option, Some, None, codes, decimal, refl, sym, ap, ◌∙◌, append-nil}
use Rattle.std.proofs.lemmas.Bool.{and_parts, both_ways}
use Rattle.std.proofs.lemmas.List.Elements.{All-nil, All-cons}
use Rattle.alg_terms.specs.declared.relations.Rel.{Rel}
use Rattle.alg_terms.specs.declared.relations.Rel.TheVariants as rel
use Rattle.alg_terms.specs.Tree.{Tree}
use Rattle.alg_proof.specs.declared.lines.BridgeKind.{BridgeKind}
use Rattle.alg_proof.specs.declared.lines.BridgeKind.TheVariants as bridge
use Rattle.alg_proof.specs.declared.lines.ComputeHead.TheVariants as head
use Rattle.alg_proof.specs.Names.{IsName}
use Rattle.alg_certificate.specs.declared.patterns.Slot.{Slot}
use Rattle.alg_certificate.specs.declared.patterns.Slot.TheVariants as slot
use Rattle.alg_certificate.specs.Numbers.{Read, read_number, max_number}
use Rattle.alg_certificate.specs.Cutting.{after}
use Rattle.alg_certificate.specs.Words.{sort_bytes, symbol_bytes, relation_bytes, bridge_bytes, head_bytes, numeral_bytes, ends_above, then_positive, is_numeral, is_comparison, is_relation, is_bridge, is_head}
use Rattle.alg_certificate.specs.Spelling.{Item, tree, word, semicolon, trees_before, numbers, numerals, IsInRange, SortFits, SymbolFits, HeadFits, TreeFits, IsComparison}
use Rattle.alg_certificate.specs.Walks.{word_fits, is_tree_slot, is_semicolon_slot}
use Rattle.alg_certificate.specs.Items.{FitsSlot, AllFit}
use Rattle.alg_certificate.proofs.NumberLaws.{number_sound}
use Rattle.alg_certificate.proofs.WordLaws.{after_is, nothing_left, word_is, number_is, sort_is, symbol_is, either}

-- a value that fits and is spelled so
abbrev pub Spelled : {A B : Type 0} → (A → Type 0) → (A → B) → B → Type 0
Spelled {A} Fits spell y = (x : A) × Fits x × (spell x ≡ y)

abbrev pub NumeralFits : ℤ → Type 0
NumeralFits x = IsInRange (unsigned_abs x)

abbrev pub RelationOf : List ℕ → Type 0
RelationOf w = Spelled (λ (r : Rel). ⊤) relation_bytes w

abbrev pub ComparisonOf : List ℕ → Type 0
ComparisonOf w = Spelled IsComparison relation_bytes w

abbrev pub BridgeOf : List ℕ → Type 0
BridgeOf w = Spelled (λ (b : BridgeKind). ⊤) bridge_bytes w

abbrev pub HeadOf : List ℕ → Type 0
HeadOf w = Spelled HeadFits head_bytes w

abbrev pub NumeralOf : List ℕ → Type 0
NumeralOf w = Spelled NumeralFits numeral_bytes w

-- words
pub comparison_is : (w : List ℕ) → is_comparison w ≡ true → ComparisonOf w
comparison_is w e =
    either {C = ComparisonOf w} _ _ (λ h. (rel.Ne, tt, word_is (codes "ne") w h))
    (either {C = ComparisonOf w} _ _ (λ h. (rel.Lt, tt, word_is (codes "lt") w h))
    (λ h. (rel.Le, tt, word_is (codes "le") w h))) e

pub relation_is : (w : List ℕ) → is_relation w ≡ true → RelationOf w
relation_is w e =
    either {C = RelationOf w} _ _ (λ h. (rel.Eq, tt, word_is (codes "eq") w h))
    (either {C = RelationOf w} _ _ (λ h. (rel.Dvd, tt, word_is (codes "dvd") w h))
    (λ h. let r = comparison_is w h in (r.0, tt, r.2))) e

pub bridge_is : (w : List ℕ) → is_bridge w ≡ true → BridgeOf w
bridge_is w e =
    either {C = BridgeOf w} _ _ (λ h. (bridge.Smul, tt, word_is (codes "smul") w h))
    (either {C = BridgeOf w} _ _ (λ h. (bridge.Zsmul, tt, word_is (codes "zsmul") w h))
    (λ h. (bridge.Zpow, tt, word_is (codes "zpow") w h))) e

pub head_is : (w : List ℕ) → is_head w ≡ true → HeadOf w
head_is w e =
    either {C = HeadOf w} _ _ (λ h. (head.Dvd, tt, word_is (codes "dvd") w h))
    (λ h. let f = symbol_is w h in (head.Named f.0, f.1, f.2)) e

abbrev PositiveOf : List ℕ → Type 0
PositiveOf w = (n : ℕ) × IsInRange (suc n) × (decimal (suc n) ≡ w)

not_zero : (w : List ℕ) (n : ℕ) → not (n == 0) ≡ true → n ≤ max_number → decimal n ≡ w → PositiveOf w
not_zero w zero e fits same = cc
not_zero w (suc n) e fits same = (n, fits, same)

positive_by : (w : List ℕ) (o : Read ℕ) → read_number w ≡ o → ends_above o ≡ true → PositiveOf w
positive_by w None e d = cc
positive_by w (Some x) e d =
    let s = number_sound w x.0 x.1 e in
    let p = and_parts _ (not (x.0 == 0)) d in
    not_zero w x.0 p.1 s.1 (sym (s.0 ∙ (ap (λ r. decimal x.0 ++ r) (nothing_left x.1 p.0) ∙ append-nil (decimal x.0))))

signed_by : (w : List ℕ) (o : Option (List ℕ)) → after (45 ∷ []) w ≡ o → then_positive o ≡ true → NumeralOf w
signed_by w None e d = cc
signed_by w (Some rest) e d = let n = positive_by rest _ refl d in (negsuc n.0, n.1, ap (λ x. 45 ∷ x) n.2 ∙ sym (after_is (45 ∷ []) w rest e))

pub numeral_is : (w : List ℕ) → is_numeral w ≡ true → NumeralOf w
numeral_is w e =
    either {C = NumeralOf w} _ _ (λ h. let n = number_is w h in (pos n.0, n.1, n.2))
    (λ h. signed_by w _ refl h) e

-- items
word_item : {A : Type 0} (Fits : A → Type 0) (spell : A → List ℕ) (s : Slot) → is_tree_slot s ≡ false → is_semicolon_slot s ≡ false
    → ((w : List ℕ) → word_fits s w ≡ true → Spelled Fits spell w) → (i : Item) → FitsSlot s i → Spelled Fits (λ x. word (spell x)) i
word_item Fits spell s a b f (tree t) h = absurd (both_ways (is_tree_slot s) a h.0)
word_item Fits spell s a b f (word w) h = let x = f w h in (x.0, x.1, ap word x.2)
word_item Fits spell s a b f semicolon h = absurd (both_ways (is_semicolon_slot s) b h)

pub tree_item : (i : Item) → FitsSlot slot.Tree i → Spelled TreeFits tree i
tree_item (tree t) h = (t, h.1, refl)
tree_item (word w) h = cc
tree_item semicolon h = cc

pub semicolon_item : (i : Item) → FitsSlot slot.Semicolon i → semicolon ≡ i
semicolon_item (tree t) h = cc
semicolon_item (word w) h = cc
semicolon_item semicolon h = refl

pub number_item : (i : Item) → FitsSlot slot.Number i → Spelled IsInRange (λ n. word (decimal n)) i
number_item i h = word_item IsInRange decimal slot.Number refl refl number_is i h

pub sort_item : (i : Item) → FitsSlot slot.Sort i → Spelled SortFits (λ s. word (sort_bytes s)) i
sort_item i h = word_item SortFits sort_bytes slot.Sort refl refl sort_is i h

pub symbol_item : (i : Item) → FitsSlot slot.Symbol i → Spelled SymbolFits (λ f. word (symbol_bytes f)) i
symbol_item i h = word_item SymbolFits symbol_bytes slot.Symbol refl refl symbol_is i h

pub relation_item : (i : Item) → FitsSlot slot.Relation i → Spelled (λ (r : Rel). ⊤) (λ r. word (relation_bytes r)) i
relation_item i h = word_item (λ (r : Rel). ⊤) relation_bytes slot.Relation refl refl relation_is i h

pub comparison_item : (i : Item) → FitsSlot slot.Comparison i → Spelled IsComparison (λ r. word (relation_bytes r)) i
comparison_item i h = word_item IsComparison relation_bytes slot.Comparison refl refl comparison_is i h

pub name_item : (i : Item) → FitsSlot slot.Name i → Spelled IsName word i
name_item i h = word_item IsName (λ w. w) slot.Name refl refl (λ w e. (w, e, refl)) i h

pub bridge_item : (i : Item) → FitsSlot slot.Bridge i → Spelled (λ (b : BridgeKind). ⊤) (λ b. word (bridge_bytes b)) i
bridge_item i h = word_item (λ (b : BridgeKind). ⊤) bridge_bytes slot.Bridge refl refl bridge_is i h

pub head_item : (i : Item) → FitsSlot slot.Head i → Spelled HeadFits (λ k. word (head_bytes k)) i
head_item i h = word_item HeadFits head_bytes slot.Head refl refl head_is i h

pub numeral_item : (i : Item) → FitsSlot slot.Numeral i → Spelled NumeralFits (λ x. word (numeral_bytes x)) i
numeral_item i h = word_item NumeralFits numeral_bytes slot.Numeral refl refl numeral_is i h

-- any number of items
each_item : {A : Type 0} (Fits : A → Type 0) (spell : A → Item) (spell_each : List A → List Item) (s : Slot)
    → spell_each [] ≡ [] → ((x : A) (xs : List A) → spell_each (x ∷ xs) ≡ spell x ∷ spell_each xs)
    → ((i : Item) → FitsSlot s i → Spelled Fits spell i) → (is : List Item) → AllFit s is → Spelled (All Fits) spell_each is
each_item Fits spell spell_each s none more one [] h = ([], All-nil Fits, none)
each_item Fits spell spell_each s none more one (i ∷ is) h =
    let x = one i h.0 in
    let xs = each_item Fits spell spell_each s none more one is h.1 in
    (x.0 ∷ xs.0, All-cons Fits x.0 xs.0 x.1 xs.1, more x.0 xs.0 ∙ (ap (λ j. j ∷ spell_each xs.0) x.2 ∙ ap (λ js. i ∷ js) xs.2))

pub number_items : (is : List Item) → AllFit slot.Number is → Spelled (All IsInRange) numbers is
number_items is h = each_item IsInRange (λ n. word (decimal n)) numbers slot.Number refl (λ n ns. refl) number_item is h

pub numeral_items : (is : List Item) → AllFit slot.Numeral is → Spelled (All NumeralFits) numerals is
numeral_items is h = each_item NumeralFits (λ x. word (numeral_bytes x)) numerals slot.Numeral refl (λ x xs. refl) numeral_item is h

pub tree_items : (is : List Item) → AllFit slot.Tree is → Spelled (All TreeFits) (λ ts. trees_before ts []) is
tree_items is h = each_item TreeFits tree (λ ts. trees_before ts []) slot.Tree refl (λ t ts. refl) tree_item is h

-- trees before other items
pub trees_then : (ts : List Tree) (is : List Item) → trees_before ts is ≡ trees_before ts [] ++ is
trees_then [] is = refl
trees_then (t ∷ ts) is = ap (λ js. tree t ∷ js) (trees_then ts is)
