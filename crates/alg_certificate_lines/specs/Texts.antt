-- What the text behind a line's first word is read as, for the kinds without trees and lists.
use Rattle.std.specs.Prelude.{◌≡◌, ℕ, Bool, true, false, ⊤, List, Option, Some, None, Result, Ok, Err, if◌then◌else◌}
use Rattle.alg_terms.specs.declared.sorts.Sort.{Sort}
use Rattle.alg_terms.specs.declared.symbols.Sym.{Sym}
use Rattle.alg_terms.specs.declared.relations.Rel.{Rel}
use Rattle.alg_law.specs.Declarations.{Declaration}
use Rattle.alg_proof.specs.declared.lines.ComputeHead.{ComputeHead}
use Rattle.alg_proof.specs.Steps.{Step, Trans, Subst, LitRel, Law, Lemma}
use Rattle.alg_proof.specs.declared.lines.BridgeKind.{BridgeKind}
use Rattle.alg_terms.specs.Tree.{Tree}
use Rattle.alg_certificate.specs.Numbers.{Read}
use Rattle.alg_certificate_lines.specs.declared.faults.LineFault.{LineFault}
use Rattle.alg_certificate_lines.specs.declared.faults.LineFault.TheVariants as fault
use Rattle.alg_certificate_lines.specs.Words.{sort_named, symbol_named, head_named, relation_named, bridge_named}
use Rattle.alg_certificate_lines.specs.Known.{has_sort, has_symbol}
use Rattle.alg_certificate_lines.specs.Following.{CutWord, next_word, next_number, word_and_two, behind_semicolon}
use Rattle.alg_certificate_lines.specs.Steps.{LineRead, has_head}

abbrev pub over_number : (ℕ → Step) → Option ℕ → LineRead
over_number f None = Err fault.BadName
over_number f (Some n) = Ok (f n)

abbrev pub over_pair : Option (ℕ × ℕ) → LineRead
over_pair None = Err fault.BadName
over_pair (Some x) = Ok (Trans x.0 x.1)

abbrev pub over_triple : Option (ℕ × ℕ × ℕ) → LineRead
over_triple None = Err fault.BadName
over_triple (Some x) = Ok (Subst x.0 x.1 x.2)

-- the sort, symbol or head that a word names, where the base has it
abbrev pub sort_there : List Declaration → List ℕ → Option Sort
sort_there ds w = if has_sort ds (sort_named w) then sort_named w else None

abbrev pub symbol_there : List Declaration → List ℕ → Option Sym
symbol_there ds w = if has_symbol ds (symbol_named w) then symbol_named w else None

abbrev pub head_there : List Declaration → List ℕ → Option ComputeHead
head_there ds w = if has_head ds (head_named w) then head_named w else None

-- a sort that the base has, and two numbers
abbrev pub Literals : Type 0
Literals = Option (Sort × ℕ × ℕ)

abbrev pub sort_before_two : ℕ → ℕ → Option Sort → Literals
sort_before_two m n None = None
sort_before_two m n (Some s) = Some (s, m, n)

abbrev pub literals_of : List Declaration → Option (List ℕ × ℕ × ℕ) → Literals
literals_of ds None = None
literals_of ds (Some x) = sort_before_two x.1 x.2 (sort_there ds x.0)

abbrev pub literals_there : List Declaration → List ℕ → Literals
literals_there ds text = literals_of ds (word_and_two text)

abbrev pub over_literals : (Sort → ℕ → ℕ → Step) → Literals → LineRead
over_literals f None = Err fault.BadName
over_literals f (Some x) = Ok (f x.0 x.1 x.2)

abbrev pub CutRelation : Type 0
CutRelation = Option (Rel × List ℕ)

abbrev pub relation_before : Option Rel → List ℕ → CutRelation
relation_before None rest = None
relation_before (Some r) rest = Some (r, rest)

abbrev pub relation_of_word : CutWord → CutRelation
relation_of_word None = None
relation_of_word (Some x) = relation_before (relation_named x.0) x.1

abbrev pub relation_cut : List ℕ → CutRelation
relation_cut text = relation_of_word (next_word text)

abbrev pub over_relation : List Declaration → CutRelation → LineRead
over_relation ds None = Err fault.BadName
over_relation ds (Some x) = over_literals (LitRel x.0) (literals_there ds x.1)

-- a symbol that the base has, and what follows it
abbrev pub CutSymbol : Type 0
CutSymbol = Option (Sym × List ℕ)

abbrev pub symbol_before : Option Sym → List ℕ → CutSymbol
symbol_before None rest = None
symbol_before (Some f) rest = Some (f, rest)

abbrev pub symbol_of_word : List Declaration → CutWord → CutSymbol
symbol_of_word ds None = None
symbol_of_word ds (Some x) = symbol_before (symbol_there ds x.0) x.1

abbrev pub symbol_cut : List Declaration → List ℕ → CutSymbol
symbol_cut ds text = symbol_of_word ds (next_word text)

-- a sort that the base has, and what follows it
abbrev pub CutSort : Type 0
CutSort = Option (Sort × List ℕ)

abbrev pub sort_before : Option Sort → List ℕ → CutSort
sort_before None rest = None
sort_before (Some s) rest = Some (s, rest)

abbrev pub sort_of_word : List Declaration → CutWord → CutSort
sort_of_word ds None = None
sort_of_word ds (Some x) = sort_before (sort_there ds x.0) x.1

abbrev pub sort_cut : List Declaration → List ℕ → CutSort
sort_cut ds text = sort_of_word ds (next_word text)

-- the head and the sort of a computation
abbrev pub CutComputation : Type 0
CutComputation = Option (ComputeHead × Sort × List ℕ)

abbrev pub head_before : Option ComputeHead → CutSort → CutComputation
head_before None o = None
head_before (Some h) None = None
head_before (Some h) (Some x) = Some (h, x.0, x.1)

abbrev pub computation_of_word : List Declaration → CutWord → CutComputation
computation_of_word ds None = None
computation_of_word ds (Some x) = head_before (head_there ds x.0) (sort_cut ds x.1)

abbrev pub computation_cut : List Declaration → List ℕ → CutComputation
computation_cut ds text = computation_of_word ds (next_word text)

-- the bridge and the number of a bridge line
abbrev pub CutBridge : Type 0
CutBridge = Option (BridgeKind × ℕ × List ℕ)

abbrev pub bridge_before : Option BridgeKind → Read ℕ → CutBridge
bridge_before None o = None
bridge_before (Some k) None = None
bridge_before (Some k) (Some x) = Some (k, x.0, x.1)

abbrev pub bridge_of_word : CutWord → CutBridge
bridge_of_word None = None
bridge_of_word (Some x) = bridge_before (bridge_named x.0) (next_number x.1)

abbrev pub bridge_cut : List ℕ → CutBridge
bridge_cut text = bridge_of_word (next_word text)

-- the name of a row, its sort, the text of its trees, and that of its premises
abbrev pub CutRow : Type 0
CutRow = Option (List ℕ × Sort × List ℕ × List ℕ)

abbrev pub row_before : List ℕ → Sort → List ℕ → Option (List ℕ) → CutRow
row_before n s trees None = None
row_before n s trees (Some from) = Some (n, s, trees, from)

abbrev pub row_with_sort : List ℕ → CutSort → CutRow
row_with_sort n None = None
row_with_sort n (Some x) = row_before n x.0 x.1 (behind_semicolon x.1)

abbrev pub row_of_word : List Declaration → CutWord → CutRow
row_of_word ds None = None
row_of_word ds (Some x) = row_with_sort x.0 (sort_cut ds x.1)

abbrev pub row_cut : List Declaration → List ℕ → CutRow
row_cut ds text = row_of_word ds (next_word text)

-- a line for a lemma, or else for a law
abbrev pub row_step : Bool → List ℕ → Sort → List Tree → List ℕ → Step
row_step true n s ts is = Lemma n s ts is
row_step false n s ts is = Law n s ts is

-- the value, or want of memory
abbrev pub IsListOf : {A : Type 0} → A → Result A LineFault → Type 0
IsListOf xs (Ok ys) = ys ≡ xs
IsListOf xs (Err fault.BadName) = ⊥
IsListOf xs (Err fault.BadSort) = ⊥
IsListOf xs (Err fault.NoInstance) = ⊥
IsListOf xs (Err fault.Memory) = ⊤

-- the claim, or want of memory
abbrev pub IsKept : Result (Unit {0}) LineFault → Type 0 → Type 0
IsKept (Ok u) P = P
IsKept (Err fault.BadName) P = ⊥
IsKept (Err fault.BadSort) P = ⊥
IsKept (Err fault.NoInstance) P = ⊥
IsKept (Err fault.Memory) P = ⊤
