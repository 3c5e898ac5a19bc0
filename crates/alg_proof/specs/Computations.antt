-- What a computation concludes.
use Rattle.std.specs.Prelude.{ℤ, pos, negsuc, suc, unsigned_abs, Bool, true, false, ◌&&◌, nat_eq, List, [], ◌∷◌, map, length, Option, None, option_map, Ok}
use Rattle.alg_terms.specs.declared.sorts.Sort.{Sort}
use Rattle.alg_terms.specs.declared.sorts.Sort.TheVariants.{Nat, Int, Rat, Decl}
use Rattle.alg_terms.specs.declared.symbols.Sym.{Sym}
use Rattle.alg_terms.specs.declared.symbols.Sym.TheVariants as sym
use Rattle.alg_terms.specs.declared.relations.Rel.TheVariants.{Dvd}
use Rattle.alg_terms.specs.declared.causes.BadCause.TheVariants as cause
use Rattle.alg_terms.specs.Symbols.{is_integral}
use Rattle.alg_terms.specs.Tree.{Tree, Lit, App, Nil, Cons, of_list, equal}
use Rattle.alg_law.specs.declared.classes.Class.TheVariants.{AddGroup}
use Rattle.alg_law.specs.Declarations.{Declaration}
use Rattle.alg_law.specs.Having.{has_class}
use Rattle.alg_law.specs.WellSorted.{head_mark}
use Rattle.alg_law.specs.Computing.{natural_value, integer_value, divides, literal_value}
use Rattle.alg_law.specs.Derivations.{related}
use Rattle.alg_proof.specs.declared.lines.ComputeHead.{ComputeHead}
use Rattle.alg_proof.specs.declared.lines.ComputeHead.TheVariants as head
use Rattle.alg_proof.specs.Causes.{Concludes, or_cause, only_if, only_good, is_small}
use Rattle.alg_proof.specs.LiteralLines.{has_literal}

-- a number as a tree of the sort: a literal, or the negation of one where it is below 0
abbrev pub numeral_at : Sort → ℤ → Tree
numeral_at s (pos n) = Lit s n
numeral_at s (negsuc n) = App sym.Neg s (Cons (Lit s (suc n)) Nil)

abbrev pub numerals_at : Sort → List ℤ → List Tree
numerals_at s xs = map (numeral_at s) xs

-- the sort has the classes that the numeral needs
abbrev pub has_numeral : List Declaration → Sort → ℤ → Bool
has_numeral ds s (pos n) = has_literal ds s n
has_numeral ds s (negsuc n) = has_class ds s AddGroup && has_literal ds s (suc n)

abbrev pub has_numerals : List Declaration → Sort → List ℤ → Bool
has_numerals ds s [] = true
has_numerals ds s (x ∷ xs) = has_numeral ds s x && has_numerals ds s xs

-- the absolute value is at most 2^127 - 1
abbrev pub is_small_integer : ℤ → Bool
is_small_integer x = is_small (unsigned_abs x)

abbrev pub are_small : List ℤ → Bool
are_small [] = true
are_small (x ∷ xs) = is_small_integer x && are_small xs

-- the value, on ℕ or ℤ
abbrev pub value_at : Sort → Sym → List ℤ → Option ℤ
value_at Nat f xs = option_map pos (literal_value (natural_value f (map unsigned_abs xs)))
value_at Int f xs = integer_value f xs
value_at Rat f xs = None
value_at (Decl k) f xs = None

-- the sort, as often as there are numerals
abbrev pub sorts_like : Sort → List ℤ → List Sort
sorts_like s xs = map (λ _. s) xs

abbrev pub value_line : List Declaration → Sym → Sort → List ℤ → Concludes
value_line ds f s xs =
    only_good (head_mark ds f s (sorts_like s xs))
    (only_if (has_numerals ds s xs) cause.NoInstance
    (or_cause (value_at s f xs) cause.Literal (λ v.
    only_if (are_small xs && is_small_integer v) cause.Literal
    (Ok (equal (App f s (of_list (numerals_at s xs))) (numeral_at s v))))))

-- the first number divides the second, where there are two
abbrev pub divides_next : List ℤ → Bool
divides_next [] = false
divides_next (x ∷ []) = false
divides_next (x ∷ y ∷ zs) = divides (unsigned_abs x) (unsigned_abs y)

abbrev pub first_number : List ℤ → ℤ
first_number [] = pos 0
first_number (x ∷ xs) = x

abbrev pub second_number : List ℤ → ℤ
second_number [] = pos 0
second_number (x ∷ xs) = first_number xs

abbrev pub divides_line : List Declaration → Sort → List ℤ → Concludes
divides_line ds s xs =
    only_if (nat_eq (length xs) 2) cause.Sort
    (only_if (is_integral s && has_numerals ds s xs) cause.NoInstance
    (only_if (are_small xs && divides_next xs) cause.Literal
    (Ok (related Dvd s (numeral_at s (first_number xs)) (numeral_at s (second_number xs))))))

abbrev pub computation_of : List Declaration → ComputeHead → Sort → List ℤ → Concludes
computation_of ds (head.Named f) s xs = value_line ds f s xs
computation_of ds head.Dvd s xs = divides_line ds s xs
