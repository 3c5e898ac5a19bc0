-- What is well sorted is read as itself.
use Rattle.std.proofs.Common.{◌≡◌, ℕ, ◌^◌, ◌≤◌, nat_lt, ◌&&◌, true, List, [], ◌∷◌, length, Option, Some, None, Ok, Err, slice_get, refl, sym, ap, ap₂, ◌∙◌, if◌then◌else◌}
use Rattle.std.proofs.lemmas.Bool.{and_from}
use Rattle.alg_terms.specs.declared.sorts.Sort.{Sort}
use Rattle.alg_terms.specs.declared.sorts.Sort.TheVariants as sort
use Rattle.alg_terms.specs.declared.symbols.Sym.{Sym}
use Rattle.alg_terms.specs.Tree.{Tree, Trees, Nil, Cons, Lit as literal, Var as variable, App as node, Statement, sort_of_tree, to_list, of_list}
use Rattle.alg_terms.proofs.TreeLaws.{to_list-of_list, of_list-to_list}
use Rattle.alg_terms.specs.Order.{sort_same}
use Rattle.alg_terms.proofs.OrderLaws.{sort_same-equal, sort_same-self}
use Rattle.alg_law.specs.declared.marks.Mark.TheVariants.{Good, BadName}
use Rattle.alg_law.specs.Declarations.{Declaration}
use Rattle.alg_law.specs.Having.{has_class}
use Rattle.alg_law.specs.WellSorted.{is_type, variable_of, sort_mark, literal_class, class_mark, of_sort, sorts_of, head_mark, mark_of, marks_of, has_relation, IsStatement}
use Rattle.alg_law.proofs.WellSortedLaws.{worse-good, worse-parts, known-from_good}
use Rattle.alg_proof.specs.declared.lines.ComputeHead.{ComputeHead}
use Rattle.alg_proof.specs.declared.lines.ComputeHead.TheVariants as head
use Rattle.alg_proof.specs.Steps.{Step, Refl, Symm, Trans, Cong, Subst, Law, Lemma, Hyp, Rest, LitAdd, LitMul, LitRel, Bridge, Compute, value_sort, name_mark, compute_mark, step_mark}
use Rattle.alg_certificate_lines.specs.declared.faults.LineFault.TheVariants as fault
use Rattle.alg_certificate_lines.specs.Kept.{numbered_sort, kept_sort, kept_symbol, named_head, kept_head}
use Rattle.alg_certificate_lines.specs.Known.{is_good, is_there, has_sort, has_symbol, variable_sort, known, all_known}
use Rattle.alg_certificate_lines.specs.Typed.{sorts, is_sorted, node_over, node_of, then_node, variable_of_sort, both, typed, typed_all}
use Rattle.alg_certificate_lines.specs.Steps.{TreesRead, all_good, all_sorted, trees_read, over_trees, over_tree, if_named, has_head, step_read}
use Rattle.alg_certificate_lines.specs.Given.{Read, sides, classed, sorted, over_typed, given_read}
use Rattle.alg_certificate_lines.proofs.HeadLaws.{good_same, number_below, number_kept, symbol_kept, head_is}

-- sorts and symbols that are there
type_below : (ds : List Declaration) (k : ℕ) (o : Option Declaration) → slice_get ds k ≡ o → length ds ≤ 2 ^ 32
    → (if is_type o then Good else BadName) ≡ Good → nat_lt k (2 ^ 32) ≡ true
type_below ds k None e few g = cc
type_below ds k (Some d) e few g = number_below ds k d few e

sort_kept : (ds : List Declaration) (s : Sort) → length ds ≤ 2 ^ 32 → sort_mark ds s ≡ Good → kept_sort s ≡ Some s
sort_kept ds sort.Nat few e = refl
sort_kept ds sort.Int few e = refl
sort_kept ds sort.Rat few e = refl
sort_kept ds (sort.Decl k) few e = ap numbered_sort (number_kept k (type_below ds k (slice_get ds k) refl few e))

sort_known : (ds : List Declaration) (s : Sort) → length ds ≤ 2 ^ 32 → sort_mark ds s ≡ Good → has_sort ds (kept_sort s) ≡ true
sort_known ds s few e = ap (has_sort ds) (sort_kept ds s few e) ∙ ap is_good e

symbol_known : (ds : List Declaration) (f : Sym) → length ds ≤ 2 ^ 32 → name_mark ds f ≡ Good → has_symbol ds (kept_symbol f) ≡ true
symbol_known ds f few e = ap (has_symbol ds) (symbol_kept ds f few e) ∙ ap is_good e

head_known : (ds : List Declaration) (h : ComputeHead) → length ds ≤ 2 ^ 32 → compute_mark ds h ≡ Good → has_head ds (kept_head h) ≡ true
head_known ds (head.Named f) few e = ap (λ o. has_head ds (named_head o)) (symbol_kept ds f few e) ∙ ap is_good e
head_known ds head.Dvd few e = refl

-- variables
of_sort_is : (o : Option Sort) (s : Sort) → of_sort o s ≡ Good → o ≡ Some s
of_sort_is None s e = cc
of_sort_is (Some t) s e = ap Some (sort_same-equal t s (good_same (sort_same t s) e))

variable_by : (ds : List Declaration) (k : ℕ) (s : Sort) (o : Option Declaration) → slice_get ds k ≡ o → length ds ≤ 2 ^ 32
    → of_sort (variable_of o) s ≡ Good → variable_sort ds k ≡ Some s
variable_by ds k s None e few g = cc
variable_by ds k s (Some d) e few g =
    ap (λ b. if◌then◌else◌ {A = Option Sort} b (variable_of (slice_get ds k)) None) (number_below ds k d few e)
    ∙ (ap variable_of e ∙ of_sort_is (variable_of (Some d)) s g)

variable_back : (ds : List Declaration) (k : ℕ) (s : Sort) → length ds ≤ 2 ^ 32 → mark_of ds (variable k s) ≡ Good → variable_sort ds k ≡ Some s
variable_back ds k s few e = variable_by ds k s (slice_get ds k) refl few (worse-parts (sort_mark ds s) (of_sort (variable_of (slice_get ds k)) s) e).1

-- a node over trees that are well sorted
sorts_listed : (ts : Trees) → sorts (to_list ts) ≡ sorts_of ts
sorts_listed Nil = refl
sorts_listed (Cons t ts) = ap (λ ss. sort_of_tree t ∷ ss) (sorts_listed ts)

node_back : (ds : List Declaration) (f : Sym) (s : Sort) (ts : Trees) → head_mark ds f s (sorts_of ts) ≡ Good → node_of ds f (to_list ts) ≡ Some (node f s ts)
node_back ds f s ts e =
    ap (λ ss. node_over ds f (to_list ts) (value_sort ds f ss)) (sorts_listed ts)
    ∙ (ap (node_over ds f (to_list ts)) (head_is ds f s (sorts_of ts) e).value
    ∙ (ap (λ b. if◌then◌else◌ {A = Option Tree} b (Some (node f s (of_list (to_list ts)))) None)
    (ap (λ ss. is_sorted (head_mark ds f s ss)) (sorts_listed ts) ∙ ap is_sorted e)
    ∙ ap (λ us. Some (node f s us)) (of_list-to_list ts)))

-- a well sorted tree is known, and has the sorts that its declarations give
mutual
  pub tree_back : (ds : List Declaration) (t : Tree) → length ds ≤ 2 ^ 32 → mark_of ds t ≡ Good → typed ds t ≡ Some t
  tree_back ds (literal s n) few e = refl
  tree_back ds (variable k s) few e = ap (variable_of_sort k) (variable_back ds k s few e)
  tree_back ds (node f s ts) few e =
      let p = worse-parts (head_mark ds f s (sorts_of ts)) (marks_of ds ts) e in
      ap (then_node ds f) (trees_back ds ts few p.1) ∙ node_back ds f s ts p.0

  pub trees_back : (ds : List Declaration) (ts : Trees) → length ds ≤ 2 ^ 32 → marks_of ds ts ≡ Good → typed_all ds ts ≡ Some (to_list ts)
  trees_back ds Nil few e = refl
  trees_back ds (Cons t ts) few e =
      let p = worse-parts (mark_of ds t) (marks_of ds ts) e in
      ap₂ both (tree_back ds t few p.0) (trees_back ds ts few p.1)

mutual
  pub tree_known : (ds : List Declaration) (t : Tree) → length ds ≤ 2 ^ 32 → mark_of ds t ≡ Good → known ds t ≡ true
  tree_known ds (literal s n) few e = sort_known ds s few (worse-parts (sort_mark ds s) (class_mark (has_class ds s (literal_class n))) e).0
  tree_known ds (variable k s) few e = ap is_there (variable_back ds k s few e)
  tree_known ds (node f s ts) few e =
      let p = worse-parts (head_mark ds f s (sorts_of ts)) (marks_of ds ts) e in
      and_from (has_symbol ds (kept_symbol f)) (all_known ds ts) (symbol_known ds f few (head_is ds f s (sorts_of ts) p.0).name) (trees_known ds ts few p.1)

  pub trees_known : (ds : List Declaration) (ts : Trees) → length ds ≤ 2 ^ 32 → marks_of ds ts ≡ Good → all_known ds ts ≡ true
  trees_known ds Nil few e = refl
  trees_known ds (Cons t ts) few e =
      let p = worse-parts (mark_of ds t) (marks_of ds ts) e in
      and_from (known ds t) (all_known ds ts) (tree_known ds t few p.0) (trees_known ds ts few p.1)

all_good_from : (ds : List Declaration) (ts : Trees) → marks_of ds ts ≡ Good → all_good ds (to_list ts) ≡ true
all_good_from ds Nil e = refl
all_good_from ds (Cons t ts) e =
    let p = worse-parts (mark_of ds t) (marks_of ds ts) e in
    and_from (is_good (mark_of ds t)) (all_good ds (to_list ts)) (ap is_good p.0) (all_good_from ds ts p.1)

-- well sorted trees are read as themselves
trees_read_back : (ds : List Declaration) (ts : Trees) → length ds ≤ 2 ^ 32 → marks_of ds ts ≡ Good → trees_read ds ts ≡ Ok (to_list ts)
trees_read_back ds ts few e =
    ap (λ b. if◌then◌else◌ {A = TreesRead} b (all_sorted ds (typed_all ds ts)) (Err fault.BadName)) (trees_known ds ts few e)
    ∙ (ap (all_sorted ds) (trees_back ds ts few e)
    ∙ ap (λ b. if◌then◌else◌ {A = TreesRead} b (Ok (to_list ts)) (Err fault.NoInstance)) (all_good_from ds ts e))

one_read_back : (ds : List Declaration) (t : Tree) → length ds ≤ 2 ^ 32 → mark_of ds t ≡ Good → trees_read ds (Cons t Nil) ≡ Ok (t ∷ [])
one_read_back ds t few e = trees_read_back ds (Cons t Nil) few (worse-good (mark_of ds t) Good e refl)

row_back : (ds : List Declaration) (f : List Tree → Step) (s : Sort) (ts : List Tree) → length ds ≤ 2 ^ 32 → sort_mark ds s ≡ Good
    → marks_of ds (of_list ts) ≡ Good
    → if_named (has_sort ds (kept_sort s)) (over_trees f (trees_read ds (of_list ts))) ≡ Ok (f ts)
row_back ds f s ts few e g =
    let read : trees_read ds (of_list ts) ≡ Ok ts = trees_read_back ds (of_list ts) few g ∙ ap (λ us. Ok us) (to_list-of_list ts) in
    ap (λ b. if_named b (over_trees f (trees_read ds (of_list ts)))) (sort_known ds s few e) ∙ ap (over_trees f) read

sorted_back : (ds : List Declaration) (s : Sort) (l : Step) → length ds ≤ 2 ^ 32 → sort_mark ds s ≡ Good → if_named (has_sort ds (kept_sort s)) (Ok l) ≡ Ok l
sorted_back ds s l few e = ap (λ b. if_named b (Ok l)) (sort_known ds s few e)

-- a line whose own names, sorts and trees are good is read as itself
pub step_back : (ds : List Declaration) (l : Step) → length ds ≤ 2 ^ 32 → step_mark ds l ≡ Good → step_read ds l ≡ Ok l
step_back ds (Refl t) few e = ap (over_tree (λ u. Refl u)) (one_read_back ds t few e)
step_back ds (Symm i) few e = refl
step_back ds (Trans i j) few e = refl
step_back ds (Cong f is) few e = ap (λ b. if_named b (Ok (Cong f is))) (symbol_known ds f few e)
step_back ds (Subst i j k) few e = refl
step_back ds (Law n s ts is) few e =
    let p = worse-parts (sort_mark ds s) (marks_of ds (of_list ts)) e in
    row_back ds (λ us. Law n s us is) s ts few p.0 p.1
step_back ds (Lemma n s ts is) few e =
    let p = worse-parts (sort_mark ds s) (marks_of ds (of_list ts)) e in
    row_back ds (λ us. Lemma n s us is) s ts few p.0 p.1
step_back ds (Hyp n) few e = refl
step_back ds Rest few e = refl
step_back ds (LitAdd s m n) few e = sorted_back ds s (LitAdd s m n) few e
step_back ds (LitMul s m n) few e = sorted_back ds s (LitMul s m n) few e
step_back ds (LitRel r s m n) few e = sorted_back ds s (LitRel r s m n) few e
step_back ds (Bridge k n t) few e = ap (over_tree (λ u. Bridge k n u)) (one_read_back ds t few e)
step_back ds (Compute h s xs) few e =
    let p = worse-parts (compute_mark ds h) (sort_mark ds s) e in
    ap (λ b. if_named b (Ok (Compute h s xs)))
    (and_from (has_head ds (kept_head h)) (has_sort ds (kept_sort s)) (head_known ds h few p.0) (sort_known ds s few p.1))

-- a statement is read as itself
same_as : (s t : Sort) → s ≡ t → sort_same s t ≡ true
same_as s t e = ap (λ u. sort_same u t) e ∙ sort_same-self t

sides_good : (ds : List Declaration) (s : Statement) → IsStatement ds s → marks_of ds (sides s) ≡ Good
sides_good ds s h = worse-good (mark_of ds s.lhs) (marks_of ds (Cons s.rhs Nil)) h.left (worse-good (mark_of ds s.rhs) Good h.right refl)

known_statement : (ds : List Declaration) (s : Statement) → length ds ≤ 2 ^ 32 → IsStatement ds s
    → (has_sort ds (kept_sort s.sort) && all_known ds (sides s)) ≡ true
known_statement ds s few h =
    and_from (has_sort ds (kept_sort s.sort)) (all_known ds (sides s))
    (sort_known ds s.sort few (ap (sort_mark ds) (sym h.left_sort) ∙ known-from_good ds s.lhs h.left)) (trees_known ds (sides s) few (sides_good ds s h))

sorted_statement : (ds : List Declaration) (s : Statement) → IsStatement ds s → sorted ds s ≡ classed ds s
sorted_statement ds s h =
    ap (λ b. if◌then◌else◌ {A = Read} b (classed ds s) (Err fault.BadSort))
    (and_from (sort_same (sort_of_tree s.lhs) s.sort) (sort_same (sort_of_tree s.rhs) s.sort) (same_as _ s.sort h.left_sort) (same_as _ s.sort h.right_sort))

classed_statement : (ds : List Declaration) (s : Statement) → IsStatement ds s → classed ds s ≡ Ok s
classed_statement ds s h =
    ap (λ b. if◌then◌else◌ {A = Read} b (Ok s) (Err fault.NoInstance))
    (and_from (is_good (mark_of ds s.lhs)) (is_good (mark_of ds s.rhs) && has_relation ds s.rel s.sort) (ap is_good h.left)
    (and_from (is_good (mark_of ds s.rhs)) (has_relation ds s.rel s.sort) (ap is_good h.right) h.related))

pub statement_back : (ds : List Declaration) (s : Statement) → length ds ≤ 2 ^ 32 → IsStatement ds s → given_read ds s ≡ Ok s
statement_back ds s few h =
    ap (λ b. if◌then◌else◌ {A = Read} b (over_typed ds s.rel s.sort (typed_all ds (sides s))) (Err fault.BadName)) (known_statement ds s few h)
    ∙ (ap (over_typed ds s.rel s.sort) (trees_back ds (sides s) few (sides_good ds s h)) ∙ (sorted_statement ds s h ∙ classed_statement ds s h))
