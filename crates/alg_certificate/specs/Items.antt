-- The grammar of a line, without a reader: its items, and which a list of parts allows.
use Rattle.std.specs.Prelude.{◌≡◌, ℕ, true, List, [], ◌∷◌, ◌++◌, Option, Some, None, Result, Ok, Err, codes}
use Rattle.alg_certificate.specs.declared.patterns.Slot.{Slot}
use Rattle.alg_certificate.specs.declared.patterns.Part.{Part}
use Rattle.alg_certificate.specs.declared.patterns.Part.TheVariants.{One, Many}
use Rattle.alg_certificate.specs.Spelling.{Item, tree, word, semicolon, TreeFits, spell_items, bytes}
use Rattle.alg_certificate.specs.Walks.{word_fits, is_tree_slot, is_semicolon_slot}
use Rattle.alg_certificate.specs.Patterns.{pattern_of, given_pattern}
use Rattle.alg_certificate.specs.Reader.{TextLine, goal_line, given_line, proof_line, end_line, seen_line}
use Rattle.alg_certificate.specs.declared.reader.CertLine.{CertLine}
use Rattle.alg_certificate.specs.declared.reader.CertFault.{CertFault}

abbrev pub FitsSlot : Slot → Item → Type 0
FitsSlot s (tree t) = (is_tree_slot s ≡ true) × TreeFits t
FitsSlot s (word w) = word_fits s w ≡ true
FitsSlot s semicolon = is_semicolon_slot s ≡ true

abbrev pub AllFit : Slot → List Item → Type 0
AllFit s [] = Unit {0}
AllFit s (i ∷ is) = FitsSlot s i × AllFit s is

-- the items are those that the parts ask for, in order
abbrev pub Matches : List Part → List Item → Type 0
Matches [] is = is ≡ []
Matches (One s ∷ ps) is = (i : Item) × (js : List Item) × (is ≡ i ∷ js) × FitsSlot s i × Matches ps js
Matches (Many s ∷ ps) is = (xs : List Item) × (js : List Item) × (is ≡ xs ++ js) × AllFit s xs × Matches ps js

-- the text is spelled by items that the parts ask for
pub record AreItems (ps : List Part) (text : List ℕ) : Type 0 where
  pub items : List Item
  pub matches : Matches ps items
  pub same : text ≡ bytes (spell_items items)

-- a proof line: its first word has parts in the table, and what follows is items that they ask for
pub record IsProofText (text : List ℕ) : Type 0 where
  pub first : List ℕ
  pub parts : List Part
  pub rest : List ℕ
  pub whole : text ≡ first ++ rest
  pub known : pattern_of first ≡ Some parts
  pub items : AreItems parts rest

pub record IsGivenText (text : List ℕ) : Type 0 where
  pub rest : List ℕ
  pub whole : text ≡ codes "given" ++ rest
  pub items : AreItems given_pattern rest

abbrev pub IsSpelled : TextLine → Type 0
IsSpelled (goal_line n) = Unit {0}
IsSpelled (given_line text) = IsGivenText text
IsSpelled (proof_line text) = IsProofText text
IsSpelled end_line = Unit {0}

-- the line of a call's answer is one of the grammar
abbrev pub Spelled : Result (Option CertLine) CertFault → Type 0
Spelled (Ok (Some l)) = IsSpelled (seen_line l)
Spelled (Ok None) = Unit {0}
Spelled (Err f) = Unit {0}
