-- Proof lines over trees, and what each concludes.
use Rattle.std.specs.Prelude.{ℕ, ℤ, Bool, true, ◌&&◌, List, [], ◌∷◌, Option, Some, None, Ok, slice_get}
use Rattle.alg_terms.specs.declared.sorts.Sort.{Sort}
use Rattle.alg_terms.specs.declared.symbols.Sym.{Sym}
use Rattle.alg_terms.specs.declared.symbols.Sym.TheVariants.{Apply}
use Rattle.alg_terms.specs.declared.symbols.Place.{Place}
use Rattle.alg_terms.specs.declared.symbols.Place.TheVariants.{Same, OfNat, OfInt}
use Rattle.alg_terms.specs.declared.relations.Rel.{Rel}
use Rattle.alg_terms.specs.declared.causes.BadCause.TheVariants as cause
use Rattle.alg_terms.specs.Symbols.{places}
use Rattle.alg_terms.specs.Tree.{Tree, App, Trees, Nil, Cons, of_list, Statement, equal}
use Rattle.alg_terms.specs.Order.{tree_same, sort_same}
use Rattle.alg_law.specs.declared.marks.Mark.{Mark}
use Rattle.alg_law.specs.declared.marks.Mark.TheVariants.{Good, BadName}
use Rattle.alg_law.specs.Declarations.{Declaration, hypotheses}
use Rattle.alg_law.specs.WellSorted.{worse, mark_of, marks_of, sort_mark, head_mark, function_of, sorts_of}
use Rattle.alg_law.specs.Rows.{Row}
use Rattle.alg_law.specs.Laws.{law_table}
use Rattle.alg_law.specs.Derivations.{related}
use Rattle.alg_proof.specs.declared.lines.BridgeKind.{BridgeKind}
use Rattle.alg_proof.specs.declared.lines.ComputeHead.{ComputeHead}
use Rattle.alg_proof.specs.declared.lines.ComputeHead.TheVariants as head
use Rattle.alg_proof.specs.Causes.{Concludes, or_cause, only_if, only_good, line_at, statements_at, is_equation}
use Rattle.alg_proof.specs.Instances.{row_line}
use Rattle.alg_proof.specs.LiteralLines.{sum_of, product_of, relation_of, bridge_of}
use Rattle.alg_proof.specs.Computations.{computation_of}

-- what a proof may rest on: declarations, lemmas, and a statement where one is given
pub record Theory : Type 0 where
  pub declarations : List Declaration
  pub lemmas : List Row
  pub given : Option Statement

-- a proof line; numbers are those of earlier lines, from 1, and names are their bytes
pub data Step : Type 0 where
  Refl : Tree → Step
  Symm : ℕ → Step
  Trans : ℕ → ℕ → Step
  Cong : Sym → List ℕ → Step
  Subst : ℕ → ℕ → ℕ → Step
  Law : List ℕ → Sort → List Tree → List ℕ → Step
  Lemma : List ℕ → Sort → List Tree → List ℕ → Step
  Hyp : ℕ → Step
  Rest : Step
  LitAdd : Sort → ℕ → ℕ → Step
  LitMul : Sort → ℕ → ℕ → Step
  LitRel : Rel → Sort → ℕ → ℕ → Step
  Bridge : BridgeKind → ℕ → Tree → Step
  Compute : ComputeHead → Sort → List ℤ → Step

abbrev pub symm_of : Statement → Concludes
symm_of a = only_if (is_equation a) cause.Shape (Ok (equal a.rhs a.lhs))

-- the sorts of both lines are looked at before their shapes
abbrev pub trans_of : Statement → Statement → Concludes
trans_of a b =
    only_if (sort_same a.sort b.sort) cause.Sort
    (only_if (is_equation a && is_equation b && tree_same a.rhs b.lhs) cause.Shape (Ok (equal a.lhs b.rhs)))

-- the sorts of all three lines are looked at before their shapes
abbrev pub subst_of : Statement → Statement → Statement → Concludes
subst_of a b c =
    only_if (sort_same a.sort b.sort && sort_same a.sort c.sort) cause.Sort
    (only_if (is_equation b && is_equation c && tree_same a.lhs b.lhs && tree_same a.rhs c.lhs) cause.Shape (Ok (related a.rel a.sort b.rhs c.rhs)))

abbrev pub all_equations : List Statement → Bool
all_equations [] = true
all_equations (s ∷ ss) = is_equation s && all_equations ss

abbrev pub left_sides : List Statement → Trees
left_sides [] = Nil
left_sides (s ∷ ss) = Cons s.lhs (left_sides ss)

abbrev pub right_sides : List Statement → Trees
right_sides [] = Nil
right_sides (s ∷ ss) = Cons s.rhs (right_sides ss)

-- the sort of the first argument that has the sort of the value
abbrev pub same_sort : List Place → List Sort → Option Sort
same_sort [] ts = None
same_sort (p ∷ ps) [] = None
same_sort (Same ∷ ps) (t ∷ ts) = Some t
same_sort (OfNat ∷ ps) (t ∷ ts) = same_sort ps ts
same_sort (OfInt ∷ ps) (t ∷ ts) = same_sort ps ts

abbrev pub second_of : Option (List Sort × Sort) → Option Sort
second_of None = None
second_of (Some p) = Some p.1

-- the sort of the value of a symbol over arguments of these sorts
abbrev pub value_sort : List Declaration → Sym → List Sort → Option Sort
value_sort ds (Apply k) ts = second_of (function_of (slice_get ds k))
value_sort ds f ts = same_sort (places f) ts

abbrev pub name_of : Option Sort → Mark
name_of None = BadName
name_of (Some s) = Good

-- a declared function is there
abbrev pub name_mark : List Declaration → Sym → Mark
name_mark ds (Apply k) = name_of (second_of (function_of (slice_get ds k)))
name_mark ds f = Good

abbrev pub cong_of : List Declaration → Sym → List Statement → Concludes
cong_of ds f ss =
    or_cause (value_sort ds f (sorts_of (left_sides ss))) cause.Sort (λ s.
    only_good (head_mark ds f s (sorts_of (left_sides ss)))
    (only_if (all_equations ss) cause.Shape (Ok (equal (App f s (left_sides ss)) (App f s (right_sides ss))))))

-- a computed function is there, where it is a declared one
abbrev pub compute_mark : List Declaration → ComputeHead → Mark
compute_mark ds (head.Named f) = name_mark ds f
compute_mark ds head.Dvd = Good

-- the first look: the names, sorts and trees that the line itself names
abbrev pub step_mark : List Declaration → Step → Mark
step_mark ds (Refl x) = mark_of ds x
step_mark ds (Symm i) = Good
step_mark ds (Trans i j) = Good
step_mark ds (Cong f is) = name_mark ds f
step_mark ds (Subst i j k) = Good
step_mark ds (Law n s xs is) = worse (sort_mark ds s) (marks_of ds (of_list xs))
step_mark ds (Lemma n s xs is) = worse (sort_mark ds s) (marks_of ds (of_list xs))
step_mark ds (Hyp n) = Good
step_mark ds Rest = Good
step_mark ds (LitAdd s m n) = sort_mark ds s
step_mark ds (LitMul s m n) = sort_mark ds s
step_mark ds (LitRel r s m n) = sort_mark ds s
step_mark ds (Bridge k n x) = mark_of ds x
step_mark ds (Compute h s xs) = worse (compute_mark ds h) (sort_mark ds s)

-- the second look: the earlier lines, the row's name, the sorts, the classes, the literals and the shapes
abbrev pub conclude_named : Theory → List Statement → Step → Concludes
conclude_named th done (Refl x) = Ok (equal x x)
conclude_named th done (Symm i) = or_cause (line_at done i) cause.Reference symm_of
conclude_named th done (Trans i j) =
    or_cause (line_at done i) cause.Reference (λ a. or_cause (line_at done j) cause.Reference (trans_of a))
conclude_named th done (Cong f is) = or_cause (statements_at done is) cause.Reference (cong_of th.declarations f)
conclude_named th done (Subst i j k) =
    or_cause (line_at done i) cause.Reference (λ a.
    or_cause (line_at done j) cause.Reference (λ b.
    or_cause (line_at done k) cause.Reference (subst_of a b)))
conclude_named th done (Law n s xs is) = row_line th.declarations law_table done n s xs is
conclude_named th done (Lemma n s xs is) = row_line th.declarations th.lemmas done n s xs is
conclude_named th done (Hyp n) = or_cause (line_at (hypotheses th.declarations) n) cause.Reference Ok
conclude_named th done Rest = or_cause th.given cause.Reference Ok
conclude_named th done (LitAdd s m n) = sum_of th.declarations s m n
conclude_named th done (LitMul s m n) = product_of th.declarations s m n
conclude_named th done (LitRel r s m n) = relation_of th.declarations r s m n
conclude_named th done (Bridge k n x) = bridge_of th.declarations k n x
conclude_named th done (Compute h s xs) = computation_of th.declarations h s xs

-- what a line concludes after these lines, or the first cause for which it is bad
abbrev pub conclude : Theory → List Statement → Step → Concludes
conclude th done l = only_good (step_mark th.declarations l) (conclude_named th done l)
