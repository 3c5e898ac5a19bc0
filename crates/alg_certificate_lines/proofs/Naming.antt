-- What is spelled is named.
use Rattle.std.proofs.Common.{◌≡◌, ℕ, ◌≤◌, List, Option, Some, decimal, refl, sym, ap, ◌∙◌}
use Rattle.alg_terms.specs.declared.sorts.Sort.{Sort}
use Rattle.alg_terms.specs.declared.sorts.Sort.TheVariants as sort
use Rattle.alg_terms.specs.declared.symbols.Sym.{Sym}
use Rattle.alg_terms.specs.declared.symbols.Sym.TheVariants as symbol
use Rattle.alg_terms.specs.declared.relations.Rel.{Rel}
use Rattle.alg_terms.specs.declared.relations.Rel.TheVariants as rel
use Rattle.alg_proof.specs.declared.lines.BridgeKind.{BridgeKind}
use Rattle.alg_proof.specs.declared.lines.BridgeKind.TheVariants as bridge
use Rattle.alg_proof.specs.declared.lines.ComputeHead.{ComputeHead}
use Rattle.alg_proof.specs.declared.lines.ComputeHead.TheVariants as head
use Rattle.alg_certificate.specs.Numbers.{max_number}
use Rattle.alg_certificate.specs.Words.{sort_bytes, symbol_bytes, relation_bytes, bridge_bytes, head_bytes}
use Rattle.alg_certificate.specs.Spelling.{SortFits, SymbolFits, HeadFits}
use Rattle.alg_certificate.proofs.NumberLaws.{number_whole}
use Rattle.alg_certificate_lines.specs.Kept.{kept_number, numbered_sort, kept_sort, numbered_symbol, kept_symbol, named_head, kept_head}
use Rattle.alg_certificate_lines.specs.Words.{whole_number, small, number_named, small_number, sort_named, symbol_named, head_named, relation_named, bridge_named}

pub number_is : (n : ℕ) → n ≤ max_number → number_named (decimal n) ≡ Some n
number_is n fits = ap whole_number (number_whole n fits)

small_is : (n : ℕ) → n ≤ max_number → small_number (decimal n) ≡ kept_number n
small_is n fits = ap small (number_is n fits)

pub sort_is : (s : Sort) → SortFits s → sort_named (sort_bytes s) ≡ kept_sort s
sort_is sort.Nat f = refl
sort_is sort.Int f = refl
sort_is sort.Rat f = refl
sort_is (sort.Decl k) f = ap numbered_sort (small_is k f)

pub symbol_is : (f : Sym) → SymbolFits f → symbol_named (symbol_bytes f) ≡ kept_symbol f
symbol_is symbol.Add f = refl
symbol_is symbol.Mul f = refl
symbol_is symbol.Neg f = refl
symbol_is symbol.Sub f = refl
symbol_is symbol.Inv f = refl
symbol_is symbol.Div f = refl
symbol_is symbol.Npow f = refl
symbol_is symbol.Zpow f = refl
symbol_is symbol.Nsmul f = refl
symbol_is symbol.Zsmul f = refl
symbol_is symbol.Abs f = refl
symbol_is symbol.Min f = refl
symbol_is symbol.Max f = refl
symbol_is symbol.NatSub f = refl
symbol_is symbol.IDiv f = refl
symbol_is symbol.Mod f = refl
symbol_is symbol.Gcd f = refl
symbol_is symbol.Lcm f = refl
symbol_is symbol.Fact f = refl
symbol_is symbol.Choose f = refl
symbol_is symbol.Fib f = refl
symbol_is (symbol.Apply k) f = ap numbered_symbol (small_is k f)

-- no symbol is spelled `dvd`
pub head_is : (h : ComputeHead) → HeadFits h → head_named (head_bytes h) ≡ kept_head h
head_is (head.Named symbol.Add) f = refl
head_is (head.Named symbol.Mul) f = refl
head_is (head.Named symbol.Neg) f = refl
head_is (head.Named symbol.Sub) f = refl
head_is (head.Named symbol.Inv) f = refl
head_is (head.Named symbol.Div) f = refl
head_is (head.Named symbol.Npow) f = refl
head_is (head.Named symbol.Zpow) f = refl
head_is (head.Named symbol.Nsmul) f = refl
head_is (head.Named symbol.Zsmul) f = refl
head_is (head.Named symbol.Abs) f = refl
head_is (head.Named symbol.Min) f = refl
head_is (head.Named symbol.Max) f = refl
head_is (head.Named symbol.NatSub) f = refl
head_is (head.Named symbol.IDiv) f = refl
head_is (head.Named symbol.Mod) f = refl
head_is (head.Named symbol.Gcd) f = refl
head_is (head.Named symbol.Lcm) f = refl
head_is (head.Named symbol.Fact) f = refl
head_is (head.Named symbol.Choose) f = refl
head_is (head.Named symbol.Fib) f = refl
head_is (head.Named (symbol.Apply k)) f = ap named_head (symbol_is (symbol.Apply k) f)
head_is head.Dvd f = refl

pub relation_is : (r : Rel) → relation_named (relation_bytes r) ≡ Some r
relation_is rel.Eq = refl
relation_is rel.Ne = refl
relation_is rel.Lt = refl
relation_is rel.Le = refl
relation_is rel.Dvd = refl

pub bridge_is : (k : BridgeKind) → bridge_named (bridge_bytes k) ≡ Some k
bridge_is bridge.Smul = refl
bridge_is bridge.Zsmul = refl
bridge_is bridge.Zpow = refl

-- the same for a word that is the spelling
pub number_spelled : (w : List ℕ) (o : Option ℕ) → o ≡ number_named w → (n : ℕ) → n ≤ max_number → decimal n ≡ w → o ≡ Some n
number_spelled w o e n fits d = e ∙ (ap number_named (sym d) ∙ number_is n fits)

pub small_spelled : (w : List ℕ) (o : Option ℕ) → o ≡ small_number w → (n : ℕ) → n ≤ max_number → decimal n ≡ w → o ≡ kept_number n
small_spelled w o e n fits d = e ∙ (ap small_number (sym d) ∙ small_is n fits)

pub sort_spelled : (w : List ℕ) (o : Option Sort) → o ≡ sort_named w → (s : Sort) → SortFits s → sort_bytes s ≡ w → o ≡ kept_sort s
sort_spelled w o e s f d = e ∙ (ap sort_named (sym d) ∙ sort_is s f)

pub symbol_spelled : (w : List ℕ) (o : Option Sym) → o ≡ symbol_named w → (g : Sym) → SymbolFits g → symbol_bytes g ≡ w → o ≡ kept_symbol g
symbol_spelled w o e g f d = e ∙ (ap symbol_named (sym d) ∙ symbol_is g f)

pub head_spelled : (w : List ℕ) (o : Option ComputeHead) → o ≡ head_named w → (h : ComputeHead) → HeadFits h → head_bytes h ≡ w → o ≡ kept_head h
head_spelled w o e h f d = e ∙ (ap head_named (sym d) ∙ head_is h f)

pub relation_spelled : (w : List ℕ) (o : Option Rel) → o ≡ relation_named w → (r : Rel) → relation_bytes r ≡ w → o ≡ Some r
relation_spelled w o e r d = e ∙ (ap relation_named (sym d) ∙ relation_is r)

pub bridge_spelled : (w : List ℕ) (o : Option BridgeKind) → o ≡ bridge_named w → (k : BridgeKind) → bridge_bytes k ≡ w → o ≡ Some k
bridge_spelled w o e k d = e ∙ (ap bridge_named (sym d) ∙ bridge_is k)
