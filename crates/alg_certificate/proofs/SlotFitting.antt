-- What is spelled fits its slot.
use Rattle.std.proofs.Common.{◌≡◌, ℕ, suc, ℤ, pos, negsuc, Bool, true, false, not, ◌||◌, List, [], ◌∷◌, All, codes, decimal, refl, ap, ◌∙◌, arith, ne_eqb}
use Rattle.std.proofs.lemmas.List.Elements.{All-head, All-tail}
use Rattle.alg_terms.specs.declared.relations.Rel.{Rel}
use Rattle.alg_terms.specs.declared.relations.Rel.TheVariants as rel
use Rattle.alg_terms.specs.Tree.{Tree}
use Rattle.alg_proof.specs.declared.lines.BridgeKind.{BridgeKind}
use Rattle.alg_proof.specs.declared.lines.BridgeKind.TheVariants as bridge
use Rattle.alg_proof.specs.declared.lines.ComputeHead.{ComputeHead}
use Rattle.alg_proof.specs.declared.lines.ComputeHead.TheVariants as head
use Rattle.alg_certificate.specs.declared.patterns.Slot.TheVariants as slot
use Rattle.alg_certificate.specs.Cutting.{after}
use Rattle.alg_certificate.specs.Words.{symbol_bytes, relation_bytes, bridge_bytes, head_bytes, numeral_bytes, is_word_of, is_number, ends_above, then_positive, is_numeral, is_comparison, is_relation, is_bridge, is_head}
use Rattle.alg_certificate.specs.Spelling.{trees_before, numbers, numerals, IsInRange, HeadFits, TreeFits, IsComparison}
use Rattle.alg_certificate.specs.Items.{AllFit}
use Rattle.alg_certificate.proofs.NumberLaws.{number_whole}
use Rattle.alg_certificate.proofs.Fitting.{number_fits, symbol_fits}
use Rattle.alg_certificate.proofs.SlotLaws.{NumeralFits}

pub relation_fits : (r : Rel) → is_relation (relation_bytes r) ≡ true
relation_fits rel.Eq = refl
relation_fits rel.Ne = refl
relation_fits rel.Lt = refl
relation_fits rel.Le = refl
relation_fits rel.Dvd = refl

pub comparison_fits : (r : Rel) → IsComparison r → is_comparison (relation_bytes r) ≡ true
comparison_fits rel.Eq f = absurd f
comparison_fits rel.Ne f = refl
comparison_fits rel.Lt f = refl
comparison_fits rel.Le f = refl
comparison_fits rel.Dvd f = absurd f

pub bridge_fits : (b : BridgeKind) → is_bridge (bridge_bytes b) ≡ true
bridge_fits bridge.Smul = refl
bridge_fits bridge.Zsmul = refl
bridge_fits bridge.Zpow = refl

or_second : (a b : Bool) → b ≡ true → (a || b) ≡ true
or_second true b e = refl
or_second false b e = e

pub head_fits : (h : ComputeHead) → HeadFits h → is_head (head_bytes h) ≡ true
head_fits (head.Named f) fits = or_second (is_word_of (codes "dvd") (symbol_bytes f)) _ (symbol_fits f fits)
head_fits head.Dvd fits = refl

pub numeral_fits : (x : ℤ) → NumeralFits x → is_numeral (numeral_bytes x) ≡ true
numeral_fits (pos n) f = ap (λ b. b || then_positive (after (45 ∷ []) (decimal n))) (number_fits n f)
numeral_fits (negsuc n) f = or_second (is_number (numeral_bytes (negsuc n))) _ (ap ends_above (number_whole (suc n) f) ∙ ap not (ne_eqb (suc n) 0 (omega arith)))

-- any number of items
pub numbers_fit : (ns : List ℕ) → All IsInRange ns → AllFit slot.Number (numbers ns)
numbers_fit [] h = tt
numbers_fit (n ∷ ns) h = (number_fits n (All-head IsInRange n ns h), numbers_fit ns (All-tail IsInRange n ns h))

pub numerals_fit : (xs : List ℤ) → All NumeralFits xs → AllFit slot.Numeral (numerals xs)
numerals_fit [] h = tt
numerals_fit (x ∷ xs) h = (numeral_fits x (All-head NumeralFits x xs h), numerals_fit xs (All-tail NumeralFits x xs h))

pub trees_fit : (ts : List Tree) → All TreeFits ts → AllFit slot.Tree (trees_before ts [])
trees_fit [] h = tt
trees_fit (t ∷ ts) h = ((refl, All-head TreeFits t ts h), trees_fit ts (All-tail TreeFits t ts h))
