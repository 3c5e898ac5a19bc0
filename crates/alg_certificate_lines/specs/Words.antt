-- Which sort, symbol, relation or number a word names, where it names one.
use Rattle.std.specs.Prelude.{ℕ, zero, suc, ℤ, pos, negsuc, ◌^◌, nat_lt, List, Option, Some, None, codes, if◌then◌else◌}
use Rattle.alg_terms.specs.declared.sorts.Sort.{Sort}
use Rattle.alg_terms.specs.declared.sorts.Sort.TheVariants as sort
use Rattle.alg_terms.specs.declared.symbols.Sym.{Sym}
use Rattle.alg_terms.specs.declared.symbols.Sym.TheVariants as sym
use Rattle.alg_terms.specs.declared.relations.Rel.{Rel}
use Rattle.alg_terms.specs.declared.relations.Rel.TheVariants as rel
use Rattle.alg_proof.specs.declared.lines.BridgeKind.{BridgeKind}
use Rattle.alg_proof.specs.declared.lines.BridgeKind.TheVariants as bridge
use Rattle.alg_proof.specs.declared.lines.ComputeHead.{ComputeHead}
use Rattle.alg_proof.specs.declared.lines.ComputeHead.TheVariants as head
use Rattle.alg_certificate.specs.Numbers.{Read, read_number}
use Rattle.alg_certificate.specs.Cutting.{after, is_empty}
use Rattle.alg_certificate.specs.Words.{is_word_of}
use Rattle.alg_certificate_lines.specs.Kept.{numbered_sort, numbered_symbol, named_head}

abbrev pub whole_number : Read ℕ → Option ℕ
whole_number None = None
whole_number (Some x) = if is_empty x.1 then Some x.0 else None

abbrev pub small : Option ℕ → Option ℕ
small None = None
small (Some n) = if nat_lt n (2 ^ 32) then Some n else None

abbrev pub number_named : List ℕ → Option ℕ
number_named w = whole_number (read_number w)

-- a number that a declaration may have
abbrev pub small_number : List ℕ → Option ℕ
small_number w = small (number_named w)

abbrev pub then_small : Option (List ℕ) → Option ℕ
then_small None = None
then_small (Some rest) = small_number rest

abbrev pub sort_named : List ℕ → Option Sort
sort_named w =
    if is_word_of (codes "N") w then Some sort.Nat
    else (if is_word_of (codes "Z") w then Some sort.Int
    else (if is_word_of (codes "Q") w then Some sort.Rat
    else numbered_sort (then_small (after (codes "t") w))))

abbrev pub or_symbol : Option Sym → Option Sym → Option Sym
or_symbol None o = o
or_symbol (Some f) o = Some f

abbrev pub sum_symbol : List ℕ → Option Sym
sum_symbol w =
    if is_word_of (codes "add") w then Some sym.Add
    else (if is_word_of (codes "mul") w then Some sym.Mul
    else (if is_word_of (codes "neg") w then Some sym.Neg
    else (if is_word_of (codes "sub") w then Some sym.Sub
    else (if is_word_of (codes "inv") w then Some sym.Inv
    else (if is_word_of (codes "div") w then Some sym.Div else None)))))

abbrev pub power_symbol : List ℕ → Option Sym
power_symbol w =
    if is_word_of (codes "npow") w then Some sym.Npow
    else (if is_word_of (codes "zpow") w then Some sym.Zpow
    else (if is_word_of (codes "nsmul") w then Some sym.Nsmul
    else (if is_word_of (codes "zsmul") w then Some sym.Zsmul else None)))

abbrev pub order_symbol : List ℕ → Option Sym
order_symbol w =
    if is_word_of (codes "abs") w then Some sym.Abs
    else (if is_word_of (codes "min") w then Some sym.Min
    else (if is_word_of (codes "max") w then Some sym.Max else None))

abbrev pub rounding_symbol : List ℕ → Option Sym
rounding_symbol w =
    if is_word_of (codes "natsub") w then Some sym.NatSub
    else (if is_word_of (codes "idiv") w then Some sym.IDiv
    else (if is_word_of (codes "mod") w then Some sym.Mod
    else (if is_word_of (codes "gcd") w then Some sym.Gcd
    else (if is_word_of (codes "lcm") w then Some sym.Lcm else None))))

abbrev pub counting_symbol : List ℕ → Option Sym
counting_symbol w =
    if is_word_of (codes "fact") w then Some sym.Fact
    else (if is_word_of (codes "choose") w then Some sym.Choose
    else (if is_word_of (codes "fib") w then Some sym.Fib else None))

abbrev pub declared_symbol : List ℕ → Option Sym
declared_symbol w = numbered_symbol (then_small (after (codes "@") w))

abbrev pub symbol_named : List ℕ → Option Sym
symbol_named w =
    or_symbol (sum_symbol w) (or_symbol (power_symbol w) (or_symbol (order_symbol w) (or_symbol (rounding_symbol w) (or_symbol (counting_symbol w) (declared_symbol w)))))

abbrev pub head_named : List ℕ → Option ComputeHead
head_named w = if is_word_of (codes "dvd") w then Some head.Dvd else named_head (symbol_named w)

abbrev pub relation_named : List ℕ → Option Rel
relation_named w =
    if is_word_of (codes "eq") w then Some rel.Eq
    else (if is_word_of (codes "ne") w then Some rel.Ne
    else (if is_word_of (codes "lt") w then Some rel.Lt
    else (if is_word_of (codes "le") w then Some rel.Le
    else (if is_word_of (codes "dvd") w then Some rel.Dvd else None))))

abbrev pub bridge_named : List ℕ → Option BridgeKind
bridge_named w =
    if is_word_of (codes "smul") w then Some bridge.Smul
    else (if is_word_of (codes "zsmul") w then Some bridge.Zsmul
    else (if is_word_of (codes "zpow") w then Some bridge.Zpow else None))

abbrev pub negative : ℕ → ℤ
negative zero = pos 0
negative (suc n) = negsuc n

abbrev pub unsigned : Option ℕ → Option ℤ
unsigned None = None
unsigned (Some n) = Some (pos n)

abbrev pub negated : Option ℕ → Option ℤ
negated None = None
negated (Some n) = Some (negative n)

abbrev pub behind_sign : Option (List ℕ) → List ℕ → Option ℤ
behind_sign None w = unsigned (number_named w)
behind_sign (Some rest) w = negated (number_named rest)

-- a number, or one behind a sign
abbrev pub numeral_named : List ℕ → Option ℤ
numeral_named w = behind_sign (after (codes "-") w) w
