-- What the line of a given statement is read as: a statement over trees with their sorts, or the first cause.
use Rattle.std.specs.Prelude.{◌≡◌, ℕ, ◌&&◌, List, [], ◌∷◌, Option, Some, None, Result, Ok, Err, ⊤, codes, if◌then◌else◌}
use Rattle.alg_terms.specs.declared.sorts.Sort.{Sort}
use Rattle.alg_terms.specs.declared.relations.Rel.{Rel}
use Rattle.alg_terms.specs.Tree.{Tree, Trees, Nil, Cons, Statement, sort_of_tree}
use Rattle.alg_terms.specs.Order.{sort_same}
use Rattle.alg_expr.specs.declared.ids.Stmt.{Stmt}
use Rattle.alg_expr.specs.Ids.{statement_of, IsStatementIn}
use Rattle.alg_law.specs.Declarations.{Declaration}
use Rattle.alg_law.specs.WellSorted.{mark_of, has_relation}
use Rattle.alg_certificate.specs.Cutting.{after}
use Rattle.alg_certificate.specs.Tokens.{first_word}
use Rattle.alg_certificate_lines.specs.declared.faults.LineFault.{LineFault}
use Rattle.alg_certificate_lines.specs.declared.faults.LineFault.TheVariants as fault
use Rattle.alg_certificate_lines.specs.Kept.{kept_sort}
use Rattle.alg_certificate_lines.specs.Words.{relation_named}
use Rattle.alg_certificate_lines.specs.Known.{is_good, has_sort, all_known}
use Rattle.alg_certificate_lines.specs.Typed.{typed_all}

abbrev pub Read : Type 0
Read = Result Statement LineFault

abbrev pub sides : Statement → Trees
sides s = Cons s.lhs (Cons s.rhs Nil)

-- the third question: the classes of the trees, and the relation
abbrev pub classed : List Declaration → Statement → Read
classed ds s = if is_good (mark_of ds s.lhs) && (is_good (mark_of ds s.rhs) && has_relation ds s.rel s.sort) then Ok s else Err fault.NoInstance

-- the second question goes on: both sides are of the sort
abbrev pub sorted : List Declaration → Statement → Read
sorted ds s = if sort_same (sort_of_tree s.lhs) s.sort && sort_same (sort_of_tree s.rhs) s.sort then classed ds s else Err fault.BadSort

abbrev pub over_sides : List Declaration → Rel → Sort → List Tree → Read
over_sides ds r s (a ∷ b ∷ []) = sorted ds (record { rel = r; sort = s; lhs = a; rhs = b })
over_sides ds r s _ = Err fault.BadSort

-- the second question: arities and sorts fit
abbrev pub over_typed : List Declaration → Rel → Sort → Option (List Tree) → Read
over_typed ds r s None = Err fault.BadSort
over_typed ds r s (Some ts) = over_sides ds r s ts

-- the first question: the base has what the line names
abbrev pub given_read : List Declaration → Statement → Read
given_read ds s = if has_sort ds (kept_sort s.sort) && all_known ds (sides s) then over_typed ds s.rel s.sort (typed_all ds (sides s)) else Err fault.BadName

-- the statement's ids, or its fault; want of memory is free
abbrev pub Gives : List Tree → Read → Result Stmt LineFault → Type 0
Gives new o (Ok x) = IsStatementIn new x × (o ≡ Ok (statement_of new x))
Gives new o (Err fault.BadName) = o ≡ Err fault.BadName
Gives new o (Err fault.BadSort) = o ≡ Err fault.BadSort
Gives new o (Err fault.NoInstance) = o ≡ Err fault.NoInstance
Gives new o (Err fault.Memory) = ⊤

-- a given line cut into its relation, the word of its sort, and the text of its trees
abbrev pub Cut : Type 0
Cut = Option (Rel × List ℕ × List ℕ)

abbrev pub with_sort_word : Rel → Option (List ℕ × List ℕ) → Cut
with_sort_word r None = None
with_sort_word r (Some x) = Some (r, x.0, x.1)

abbrev pub behind_relation : Rel → Option (List ℕ) → Cut
behind_relation r None = None
behind_relation r (Some rest) = with_sort_word r (first_word rest)

abbrev pub with_relation : Option Rel → List ℕ → Cut
with_relation None rest = None
with_relation (Some r) rest = behind_relation r (after (codes " ") rest)

abbrev pub with_relation_word : Option (List ℕ × List ℕ) → Cut
with_relation_word None = None
with_relation_word (Some x) = with_relation (relation_named x.0) x.1

abbrev pub behind_head : Option (List ℕ) → Cut
behind_head None = None
behind_head (Some rest) = with_relation_word (first_word rest)

abbrev pub given_cut : List ℕ → Cut
given_cut text = behind_head (after (codes "given ") text)
