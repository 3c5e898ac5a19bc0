-- What a proof line is read as: a step over trees with their sorts, or the first cause.
use Rattle.std.specs.Prelude.{◌≡◌, Bool, true, false, ◌&&◌, List, [], ◌∷◌, All, Option, Some, None, Result, Ok, Err, ⊤, if◌then◌else◌}
use Rattle.alg_terms.specs.Tree.{Tree, Trees, Nil, Cons, of_list}
use Rattle.alg_expr.specs.declared.ids.ExprId.{ExprId}
use Rattle.alg_expr.specs.Ids.{IsIn, trees_at}
use Rattle.alg_law.specs.Declarations.{Declaration}
use Rattle.alg_law.specs.WellSorted.{mark_of}
use Rattle.alg_proof.specs.declared.lines.ComputeHead.{ComputeHead}
use Rattle.alg_proof.specs.declared.lines.Line.{Line}
use Rattle.alg_proof.specs.Lines.{step_of, IsLineIn}
use Rattle.alg_proof.specs.Steps.{Step, Refl, Symm, Trans, Cong, Subst, Law, Lemma, Hyp, Rest, LitAdd, LitMul, LitRel, Bridge, Compute, compute_mark}
use Rattle.alg_certificate_lines.specs.declared.faults.LineFault.{LineFault}
use Rattle.alg_certificate_lines.specs.declared.faults.LineFault.TheVariants as fault
use Rattle.alg_certificate_lines.specs.Kept.{kept_sort, kept_symbol, kept_head}
use Rattle.alg_certificate_lines.specs.Known.{is_good, has_sort, has_symbol, all_known}
use Rattle.alg_certificate_lines.specs.Typed.{typed_all}

abbrev pub LineRead : Type 0
LineRead = Result Step LineFault

abbrev pub TreesRead : Type 0
TreesRead = Result (List Tree) LineFault

-- each tree has its classes
abbrev pub all_good : List Declaration → List Tree → Bool
all_good ds [] = true
all_good ds (t ∷ ts) = is_good (mark_of ds t) && all_good ds ts

-- the third question: the classes of the trees
abbrev pub all_classed : List Declaration → List Tree → TreesRead
all_classed ds ts = if all_good ds ts then Ok ts else Err fault.NoInstance

-- the second question: arities and sorts fit
abbrev pub all_sorted : List Declaration → Option (List Tree) → TreesRead
all_sorted ds None = Err fault.BadSort
all_sorted ds (Some ts) = all_classed ds ts

-- the first question: the base has what the trees name
abbrev pub trees_read : List Declaration → Trees → TreesRead
trees_read ds ts = if all_known ds ts then all_sorted ds (typed_all ds ts) else Err fault.BadName

-- a step over a list of trees, where they could be read
abbrev pub over_trees : (List Tree → Step) → TreesRead → LineRead
over_trees f (Ok ts) = Ok (f ts)
over_trees f (Err e) = Err e

-- a step over one tree
abbrev pub over_one : (Tree → Step) → List Tree → LineRead
over_one f (t ∷ []) = Ok (f t)
over_one f _ = Err fault.BadSort

abbrev pub over_tree : (Tree → Step) → TreesRead → LineRead
over_tree f (Ok ts) = over_one f ts
over_tree f (Err e) = Err e

-- bad name, unless what the line names is there
abbrev pub if_named : Bool → LineRead → LineRead
if_named b o = if b then o else Err fault.BadName

abbrev pub has_head : List Declaration → Option ComputeHead → Bool
has_head ds None = false
has_head ds (Some h) = is_good (compute_mark ds h)

-- what the line of a step is read as
abbrev pub step_read : List Declaration → Step → LineRead
step_read ds (Refl t) = over_tree Refl (trees_read ds (Cons t Nil))
step_read ds (Symm i) = Ok (Symm i)
step_read ds (Trans i j) = Ok (Trans i j)
step_read ds (Cong f is) = if_named (has_symbol ds (kept_symbol f)) (Ok (Cong f is))
step_read ds (Subst i j k) = Ok (Subst i j k)
step_read ds (Law n s ts is) = if_named (has_sort ds (kept_sort s)) (over_trees (λ us. Law n s us is) (trees_read ds (of_list ts)))
step_read ds (Lemma n s ts is) = if_named (has_sort ds (kept_sort s)) (over_trees (λ us. Lemma n s us is) (trees_read ds (of_list ts)))
step_read ds (Hyp n) = Ok (Hyp n)
step_read ds Rest = Ok Rest
step_read ds (LitAdd s m n) = if_named (has_sort ds (kept_sort s)) (Ok (LitAdd s m n))
step_read ds (LitMul s m n) = if_named (has_sort ds (kept_sort s)) (Ok (LitMul s m n))
step_read ds (LitRel r s m n) = if_named (has_sort ds (kept_sort s)) (Ok (LitRel r s m n))
step_read ds (Bridge b n t) = over_tree (λ u. Bridge b n u) (trees_read ds (Cons t Nil))
step_read ds (Compute h s xs) = if_named (has_head ds (kept_head h) && has_sort ds (kept_sort s)) (Ok (Compute h s xs))

-- a line for the step, or its fault; want of memory is free
abbrev pub GivesLine : List Tree → LineRead → Result Line LineFault → Type 0
GivesLine new o (Ok x) = IsLineIn new x × (o ≡ Ok (step_of new x))
GivesLine new o (Err fault.BadName) = o ≡ Err fault.BadName
GivesLine new o (Err fault.BadSort) = o ≡ Err fault.BadSort
GivesLine new o (Err fault.NoInstance) = o ≡ Err fault.NoInstance
GivesLine new o (Err fault.Memory) = ⊤

-- ids for the trees, or their fault
abbrev pub GivesTrees : List Tree → TreesRead → Result (List ExprId) LineFault → Type 0
GivesTrees new o (Ok es) = All (IsIn new) es × (o ≡ Ok (trees_at new es))
GivesTrees new o (Err fault.BadName) = o ≡ Err fault.BadName
GivesTrees new o (Err fault.BadSort) = o ≡ Err fault.BadSort
GivesTrees new o (Err fault.NoInstance) = o ≡ Err fault.NoInstance
GivesTrees new o (Err fault.Memory) = ⊤
