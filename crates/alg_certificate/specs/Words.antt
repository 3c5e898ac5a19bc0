-- The words of a certificate's lines: how sorts, symbols, relations and numbers are spelled, and which words are such.
use Rattle.std.specs.Prelude.{ℕ, ℤ, Bool, false, ◌&&◌, ◌||◌, not, ◌==◌, List, [], ◌∷◌, Option, Some, None, codes, decimal}
use Rattle.std.specs.Fmt.{signed_decimal}
use Rattle.alg_terms.specs.declared.sorts.Sort.{Sort}
use Rattle.alg_terms.specs.declared.sorts.Sort.TheVariants as sort
use Rattle.alg_terms.specs.declared.symbols.Sym.{Sym}
use Rattle.alg_terms.specs.declared.symbols.Sym.TheVariants as sym
use Rattle.alg_terms.specs.declared.relations.Rel.{Rel}
use Rattle.alg_terms.specs.declared.relations.Rel.TheVariants as rel
use Rattle.alg_proof.specs.declared.lines.BridgeKind.{BridgeKind}
use Rattle.alg_proof.specs.declared.lines.BridgeKind.TheVariants as bridge
use Rattle.alg_proof.specs.declared.lines.ComputeHead.{ComputeHead}
use Rattle.alg_proof.specs.declared.lines.ComputeHead.TheVariants as head
use Rattle.alg_certificate.specs.Numbers.{Read, read_number}
use Rattle.alg_certificate.specs.Cutting.{after, is_empty}

abbrev pub sort_bytes : Sort → List ℕ
sort_bytes sort.Nat = codes "N"
sort_bytes sort.Int = codes "Z"
sort_bytes sort.Rat = codes "Q"
sort_bytes (sort.Decl k) = 116 ∷ decimal k

abbrev pub symbol_bytes : Sym → List ℕ
symbol_bytes sym.Add = codes "add"
symbol_bytes sym.Mul = codes "mul"
symbol_bytes sym.Neg = codes "neg"
symbol_bytes sym.Sub = codes "sub"
symbol_bytes sym.Inv = codes "inv"
symbol_bytes sym.Div = codes "div"
symbol_bytes sym.Npow = codes "npow"
symbol_bytes sym.Zpow = codes "zpow"
symbol_bytes sym.Nsmul = codes "nsmul"
symbol_bytes sym.Zsmul = codes "zsmul"
symbol_bytes sym.Abs = codes "abs"
symbol_bytes sym.Min = codes "min"
symbol_bytes sym.Max = codes "max"
symbol_bytes sym.NatSub = codes "natsub"
symbol_bytes sym.IDiv = codes "idiv"
symbol_bytes sym.Mod = codes "mod"
symbol_bytes sym.Gcd = codes "gcd"
symbol_bytes sym.Lcm = codes "lcm"
symbol_bytes sym.Fact = codes "fact"
symbol_bytes sym.Choose = codes "choose"
symbol_bytes sym.Fib = codes "fib"
symbol_bytes (sym.Apply k) = 64 ∷ decimal k

abbrev pub relation_bytes : Rel → List ℕ
relation_bytes rel.Eq = codes "eq"
relation_bytes rel.Ne = codes "ne"
relation_bytes rel.Lt = codes "lt"
relation_bytes rel.Le = codes "le"
relation_bytes rel.Dvd = codes "dvd"

abbrev pub bridge_bytes : BridgeKind → List ℕ
bridge_bytes bridge.Smul = codes "smul"
bridge_bytes bridge.Zsmul = codes "zsmul"
bridge_bytes bridge.Zpow = codes "zpow"

abbrev pub head_bytes : ComputeHead → List ℕ
head_bytes (head.Named f) = symbol_bytes f
head_bytes head.Dvd = codes "dvd"

-- a number below 0 has a sign
abbrev pub numeral_bytes : ℤ → List ℕ
numeral_bytes x = signed_decimal x

abbrev pub leaves_nothing : Option (List ℕ) → Bool
leaves_nothing None = false
leaves_nothing (Some rest) = is_empty rest

-- the word is this one
abbrev pub is_word_of : List ℕ → List ℕ → Bool
is_word_of wanted w = leaves_nothing (after wanted w)

abbrev pub ends : Read ℕ → Bool
ends None = false
ends (Some x) = is_empty x.1

-- the word is a number in range without leading zeros
abbrev pub is_number : List ℕ → Bool
is_number w = ends (read_number w)

abbrev pub ends_above : Read ℕ → Bool
ends_above None = false
ends_above (Some x) = is_empty x.1 && not (x.0 == 0)

-- the word is such a number from 1
abbrev pub is_positive : List ℕ → Bool
is_positive w = ends_above (read_number w)

abbrev pub then_number : Option (List ℕ) → Bool
then_number None = false
then_number (Some rest) = is_number rest

abbrev pub then_positive : Option (List ℕ) → Bool
then_positive None = false
then_positive (Some rest) = is_positive rest

abbrev pub is_numeral : List ℕ → Bool
is_numeral w = is_number w || then_positive (after (45 ∷ []) w)

abbrev pub is_sort : List ℕ → Bool
is_sort w = is_word_of (codes "N") w || (is_word_of (codes "Z") w || (is_word_of (codes "Q") w || then_number (after (codes "t") w)))

abbrev pub is_sum_word : List ℕ → Bool
is_sum_word w = is_word_of (codes "add") w || (is_word_of (codes "mul") w || (is_word_of (codes "neg") w || (is_word_of (codes "sub") w || (is_word_of (codes "inv") w || is_word_of (codes "div") w))))

abbrev pub is_power_word : List ℕ → Bool
is_power_word w = is_word_of (codes "npow") w || (is_word_of (codes "zpow") w || (is_word_of (codes "nsmul") w || is_word_of (codes "zsmul") w))

abbrev pub is_order_word : List ℕ → Bool
is_order_word w = is_word_of (codes "abs") w || (is_word_of (codes "min") w || is_word_of (codes "max") w)

abbrev pub is_natural_word : List ℕ → Bool
is_natural_word w =
    is_word_of (codes "natsub") w || (is_word_of (codes "idiv") w || (is_word_of (codes "mod") w || (is_word_of (codes "gcd") w
    || (is_word_of (codes "lcm") w || (is_word_of (codes "fact") w || (is_word_of (codes "choose") w || is_word_of (codes "fib") w))))))

abbrev pub is_symbol : List ℕ → Bool
is_symbol w = is_sum_word w || (is_power_word w || (is_order_word w || (is_natural_word w || then_number (after (codes "@") w))))

abbrev pub is_comparison : List ℕ → Bool
is_comparison w = is_word_of (codes "ne") w || (is_word_of (codes "lt") w || is_word_of (codes "le") w)

abbrev pub is_relation : List ℕ → Bool
is_relation w = is_word_of (codes "eq") w || (is_word_of (codes "dvd") w || is_comparison w)

abbrev pub is_bridge : List ℕ → Bool
is_bridge w = is_word_of (codes "smul") w || (is_word_of (codes "zsmul") w || is_word_of (codes "zpow") w)

abbrev pub is_head : List ℕ → Bool
is_head w = is_word_of (codes "dvd") w || is_symbol w
