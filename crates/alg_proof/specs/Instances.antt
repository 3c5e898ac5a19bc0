-- What a line concludes that cites a row, a law or a lemma.
use Rattle.std.specs.Prelude.{ℕ, Bool, true, ◌&&◌, nat_eq, List, [], ◌∷◌, length, Ok}
use Rattle.alg_terms.specs.declared.sorts.Sort.{Sort}
use Rattle.alg_terms.specs.declared.sorts.Sort.TheVariants.{Nat}
use Rattle.alg_terms.specs.declared.causes.BadCause.TheVariants as cause
use Rattle.alg_terms.specs.Tree.{Tree, Statement, sort_of_tree}
use Rattle.alg_terms.specs.Order.{sort_same}
use Rattle.alg_law.specs.declared.rows.Need.{Need}
use Rattle.alg_law.specs.declared.rows.Need.TheVariants as need
use Rattle.alg_law.specs.Declarations.{Declaration}
use Rattle.alg_law.specs.Having.{has_class}
use Rattle.alg_law.specs.Patterns.{PatStatement, sort_for, letter_sort, fill_statement}
use Rattle.alg_law.specs.Rows.{Row, letters_of}
use Rattle.alg_law.specs.Laws.{row_named}
use Rattle.alg_proof.specs.Causes.{Concludes, or_cause, only_if, statements_at, statement_same}

-- the sorts of the trees are those of the letters, as far as both go
abbrev pub letters_agree : Sort → List ℕ → List Tree → Bool
letters_agree s [] xs = true
letters_agree s (k ∷ ks) [] = true
letters_agree s (k ∷ ks) (x ∷ xs) = sort_same (sort_of_tree x) (letter_sort s k) && letters_agree s ks xs

-- a tree of its sort for each letter
abbrev pub letters_fit : Sort → List ℕ → List Tree → Bool
letters_fit s ks xs = nat_eq (length ks) (length xs) && letters_agree s ks xs

-- the sorts of the lines are those of the premises, as far as both go
abbrev pub premises_agree : Sort → List PatStatement → List Statement → Bool
premises_agree s [] ls = true
premises_agree s (p ∷ ps) [] = true
premises_agree s (p ∷ ps) (l ∷ ls) = sort_same l.sort (sort_for s p.sort) && premises_agree s ps ls

-- a line of its sort for each premise
abbrev pub premises_fit : Sort → List PatStatement → List Statement → Bool
premises_fit s ps ls = nat_eq (length ps) (length ls) && premises_agree s ps ls

-- the sort may be that of an instance, classes aside
abbrev pub sort_meets : Sort → Need → Bool
sort_meets s (need.Class c) = true
sort_meets s need.IsNat = sort_same s Nat

abbrev pub sort_meets_all : Sort → List Need → Bool
sort_meets_all s [] = true
sort_meets_all s (n ∷ ns) = sort_meets s n && sort_meets_all s ns

-- the sort has the class
abbrev pub class_meets : List Declaration → Sort → Need → Bool
class_meets ds s (need.Class c) = has_class ds s c
class_meets ds s need.IsNat = true

abbrev pub class_meets_all : List Declaration → Sort → List Need → Bool
class_meets_all ds s [] = true
class_meets_all ds s (n ∷ ns) = class_meets ds s n && class_meets_all ds s ns

-- the lines are the premises with the trees for the letters, as far as both go
abbrev pub premises_alike : List ℕ → Sort → List Tree → List PatStatement → List Statement → Bool
premises_alike ks s xs [] ls = true
premises_alike ks s xs (p ∷ ps) [] = true
premises_alike ks s xs (p ∷ ps) (l ∷ ls) = statement_same l (fill_statement ks s xs p) && premises_alike ks s xs ps ls

-- the conclusion of a row at a sort, for these trees, from these lines
abbrev pub instance_of : List Declaration → Row → Sort → List Tree → List Statement → Concludes
instance_of ds r s xs ls =
    only_if (letters_fit s (letters_of r) xs && premises_fit s r.premises ls && sort_meets_all s r.needs) cause.Sort
    (only_if (class_meets_all ds s r.needs) cause.NoInstance
    (only_if (premises_alike (letters_of r) s xs r.premises ls) cause.Shape
    (Ok (fill_statement (letters_of r) s xs r.conclusion))))

-- the row of these with the name, after these lines
abbrev pub row_line : List Declaration → List Row → List Statement → List ℕ → Sort → List Tree → List ℕ → Concludes
row_line ds rows done name s xs is =
    or_cause (statements_at done is) cause.Reference (λ ls. or_cause (row_named rows name) cause.Name (λ r. instance_of ds r s xs ls))
