-- A line of a valid proof has a spelling, where the numbers and names that it holds itself are such.
use Rattle.std.proofs.Common.{◌≡◌, ℕ, zero, suc, ℤ, unsigned_abs, ◌+◌, ◌*◌, ◌^◌, ◌<◌, ◌≤◌, nat_eq, true, ◌&&◌, List, [], ◌∷◌, ◌++◌, length, All, Option, Some, None, Ok, Err, slice_get, refl, subst, arith, ltb-true, length-append}
use Rattle.std.proofs.lemmas.Bool.{and_parts}
use Rattle.std.proofs.lemmas.List.Elements.{All-nil, All-cons, All-head, All-tail}
use Rattle.std.proofs.lemmas.Option.{slice_get_within}
use Rattle.alg_terms.specs.declared.sorts.Sort.{Sort}
use Rattle.alg_terms.specs.declared.symbols.Sym.{Sym}
use Rattle.alg_terms.specs.declared.relations.Rel.{Rel}
use Rattle.alg_terms.specs.declared.relations.Rel.TheVariants as rel
use Rattle.alg_terms.specs.declared.causes.BadCause.TheVariants as cause
use Rattle.alg_terms.specs.Order.{sort_same}
use Rattle.alg_terms.specs.Symbols.{places, is_integral}
use Rattle.alg_terms.specs.Tree.{Tree, Trees, Nil, Cons, Lit as literal, Var as variable, App as node, of_list, Statement, equal, sort_of_tree, sum_tree, product_tree}
use Rattle.alg_law.specs.declared.marks.Mark.TheVariants.{Good}
use Rattle.alg_law.specs.declared.classes.Class.TheVariants.{Semiring}
use Rattle.alg_law.specs.Declarations.{Declaration, Carrier, Instance, Variable, Function, Hypothesis, hypotheses}
use Rattle.alg_law.specs.Having.{has_class}
use Rattle.alg_law.specs.WellSorted.{sort_mark, sorts_agree, sorts_same, function_in, function_of, of_function, sorts_of, symbol_mark, head_mark, mark_of, marks_of, IsStatement}
use Rattle.alg_law.proofs.WellSortedLaws.{worse-parts}
use Rattle.alg_law.specs.Rows.{Row}
use Rattle.alg_law.specs.Laws.{law_table, row_named}
use Rattle.alg_law.specs.Derivations.{related}
use Rattle.alg_proof.specs.declared.lines.BridgeKind.{BridgeKind}
use Rattle.alg_proof.specs.declared.lines.ComputeHead.TheVariants as head
use Rattle.alg_proof.specs.Causes.{Concludes, or_cause, only_if, only_good, line_at, join, statements_at, is_small}
use Rattle.alg_proof.specs.Instances.{instance_of, row_line}
use Rattle.alg_proof.proofs.InstanceLaws.{only_if-ok, only_good-ok, or_cause-ok}
use Rattle.alg_proof.specs.LiteralLines.{sum_of, product_of, relation_class, has_literal, relation_holds, relation_of, bridge_class, bridge_from, bridge_to, bridge_of}
use Rattle.alg_proof.specs.Computations.{numeral_at, numerals_at, has_numerals, is_small_integer, are_small, value_at, sorts_like, value_line, divides_next, first_number, second_number, divides_line}
use Rattle.alg_proof.specs.Steps.{Theory, Step, Refl, Symm, Trans, Cong, Subst, Law, Lemma, Hyp, Rest, LitAdd, LitMul, LitRel, Bridge, Compute, symm_of, trans_of, subst_of, value_sort, cong_of, step_mark, conclude_named, conclude}
use Rattle.alg_proof.specs.Valid.{Verdict, Accepted, go_on, verdict_from, IsValid}
use Rattle.alg_certificate.specs.Numbers.{max_number}
use Rattle.alg_certificate.specs.Spelling.{IsInRange, IsSome, TreeFits, TreesFit, IsComparison, HasOne, HasSpelling, StatementHasSpelling}
use Rattle.alg_certificate.specs.InRange.{TreeInRange, TreesInRange, StepInRange, StatementInRange}
use Rattle.alg_certificate_lines.specs.Arguments.{HasArgument, HaveArguments}
use Rattle.alg_certificate_lines.proofs.HeadLaws.{Origin, tabled, declared, origin, good_same, same_number, some_place, tabled_tests}

argument_at : (ds : List Declaration) (k : ℕ) (d : Declaration) → HaveArguments ds → slice_get ds k ≡ Some d → HasArgument d
argument_at [] k d h e = cc
argument_at (x ∷ ds) zero d h e = let q : x ≡ d = cc in subst HasArgument q h.0
argument_at (x ∷ ds) (suc k) d h e = argument_at ds k d h.1 e

-- no symbol stands over nothing
function_over : (d : Declaration) (s : Sort) → HasArgument d → of_function (function_in d) s [] ≡ Good → ⊥
function_over (Carrier n) s h e = cc
function_over (Instance k c) s h e = cc
function_over (Variable n t) s h e = cc
function_over (Function n [] t) s h e = absurd h
function_over (Function n (u ∷ us) t) s h e =
    let same = and_parts (sorts_same (u ∷ us) []) (sort_same t s) (good_same (sorts_same (u ∷ us) [] && sort_same t s) e) in
    let none : length (u ∷ us) ≡ 0 = same_number (length (u ∷ us)) 0 (and_parts (nat_eq (length (u ∷ us)) 0) (sorts_agree (u ∷ us) []) same.0).0 in
    absurd (omega (arith, none))
function_over (Hypothesis n g) s h e = cc

declared_over : (ds : List Declaration) (k : ℕ) (s : Sort) (o : Option Declaration) → HaveArguments ds → slice_get ds k ≡ o
    → of_function (function_of o) s [] ≡ Good → ⊥
declared_over ds k s None h e g = cc
declared_over ds k s (Some d) h e g = function_over d s (argument_at ds k d h e) g

over_nothing : (ds : List Declaration) (f : Sym) (s : Sort) → Origin f → HaveArguments ds → symbol_mark ds f s [] ≡ Good → ⊥
over_nothing ds _ s (tabled f t) h e = some_place (places f) t.same (tabled_tests ds f s [] t e).0
over_nothing ds _ s (declared k) h e = declared_over ds k s (slice_get ds k) h refl e

no_argument : (ds : List Declaration) (f : Sym) (s : Sort) → HaveArguments ds → head_mark ds f s [] ≡ Good → ⊥
no_argument ds f s h e = over_nothing ds f s (origin f) h (worse-parts (sort_mark ds s) (symbol_mark ds f s []) e).1

some_argument : (ds : List Declaration) (f : Sym) (s : Sort) (ts : Trees) → HaveArguments ds → head_mark ds f s (sorts_of ts) ≡ Good → IsSome ts
some_argument ds f s Nil h e = absurd (no_argument ds f s h e)
some_argument ds f s (Cons t ts) h e = tt

-- well sorted trees in range
mutual
  pub tree_spelled : (ds : List Declaration) (t : Tree) → HaveArguments ds → mark_of ds t ≡ Good → TreeInRange t → TreeFits t
  tree_spelled ds (literal s n) h e r = r
  tree_spelled ds (variable k s) h e r = r
  tree_spelled ds (node f s ts) h e r =
      let p = worse-parts (head_mark ds f s (sorts_of ts)) (marks_of ds ts) e in
      (r.0, some_argument ds f s ts h p.0, trees_spelled ds ts h p.1 r.1)

  pub trees_spelled : (ds : List Declaration) (ts : Trees) → HaveArguments ds → marks_of ds ts ≡ Good → TreesInRange ts → TreesFit ts
  trees_spelled ds Nil h e r = tt
  trees_spelled ds (Cons t ts) h e r =
      let p = worse-parts (mark_of ds t) (marks_of ds ts) e in
      (tree_spelled ds t h p.0 r.0, trees_spelled ds ts h p.1 r.1)

listed_spelled : (ds : List Declaration) (ts : List Tree) → HaveArguments ds → marks_of ds (of_list ts) ≡ Good → All TreeInRange ts → All TreeFits ts
listed_spelled ds [] h e r = All-nil TreeFits
listed_spelled ds (t ∷ ts) h e r =
    let p = worse-parts (mark_of ds t) (marks_of ds (of_list ts)) e in
    All-cons TreeFits t ts (tree_spelled ds t h p.0 (All-head TreeInRange t ts r)) (listed_spelled ds ts h p.1 (All-tail TreeInRange t ts r))

pub statement_spelled : (ds : List Declaration) (s : Statement) → HaveArguments ds → IsStatement ds s → StatementInRange s → StatementHasSpelling s
statement_spelled ds s h st r = (r.0, tree_spelled ds s.lhs h st.left r.1, tree_spelled ds s.rhs h st.right r.2)

-- the numbers of lines that are there
next_at_most : (i n m : ℕ) → i < n → n ≤ m → suc i ≤ m
next_at_most i n m h l = omega arith

line_range : (done : List Statement) (i : ℕ) (s : Statement) → length done ≤ max_number → line_at done i ≡ Some s → IsInRange i
line_range done zero s few e = cc
line_range done (suc i) s few e = next_at_most i (length done) max_number (slice_get_within done i s e) few

joined : (o : Option Statement) (p : Option (List Statement)) (ss : List Statement) → join o p ≡ Some ss
    → (s : Statement) × (rest : List Statement) × (o ≡ Some s) × (p ≡ Some rest)
joined None p ss e = cc
joined (Some s) None ss e = cc
joined (Some s) (Some rest) ss e = (s, rest, refl, refl)

lines_range : (done : List Statement) (is : List ℕ) (ss : List Statement) → length done ≤ max_number → statements_at done is ≡ Some ss → All IsInRange is
lines_range done [] ss few e = All-nil IsInRange
lines_range done (i ∷ is) ss few e =
    let j = joined (line_at done i) (statements_at done is) ss e in
    All-cons IsInRange i is (line_range done i j.0 few j.2) (lines_range done is j.1 few j.3)

hypotheses_fewer : (ds : List Declaration) → length (hypotheses ds) ≤ length ds
hypotheses_fewer [] = omega arith
hypotheses_fewer (Carrier n ∷ ds) = omega (arith, hypotheses_fewer ds)
hypotheses_fewer (Instance k c ∷ ds) = omega (arith, hypotheses_fewer ds)
hypotheses_fewer (Variable n s ∷ ds) = omega (arith, hypotheses_fewer ds)
hypotheses_fewer (Function n ss s ∷ ds) = omega (arith, hypotheses_fewer ds)
hypotheses_fewer (Hypothesis n h ∷ ds) = omega (arith, hypotheses_fewer ds)

at_most_through : (i n m : ℕ) → i ≤ n → n ≤ m → i ≤ m
at_most_through i n m h l = omega arith

-- literals
small_range : (n : ℕ) → is_small n ≡ true → IsInRange n
small_range n e = let l : n < 2 ^ 127 = ltb-true n (2 ^ 127) e in omega (arith, l)

numerals_range : (xs : List ℤ) → are_small xs ≡ true → All (λ x. IsInRange (unsigned_abs x)) xs
numerals_range [] e = All-nil (λ x. IsInRange (unsigned_abs x))
numerals_range (x ∷ xs) e =
    let p = and_parts (is_small_integer x) (are_small xs) e in
    All-cons (λ x. IsInRange (unsigned_abs x)) x xs (small_range (unsigned_abs x) p.0) (numerals_range xs p.1)

is_comparison : (r : Rel) (m n : ℕ) → relation_holds r m n ≡ true → IsComparison r
is_comparison rel.Eq m n e = cc
is_comparison rel.Ne m n e = tt
is_comparison rel.Lt m n e = tt
is_comparison rel.Le m n e = tt
is_comparison rel.Dvd m n e = cc

two_small : (m n k : ℕ) → (is_small m && is_small n && is_small k) ≡ true → IsInRange m × IsInRange n
two_small m n k e =
    let p = and_parts (is_small m) (is_small n) (and_parts (is_small m && is_small n) (is_small k) e).0 in
    (small_range m p.0, small_range n p.1)

module _ (ds : List Declaration) where
  -- a congruence has a line
  cong_some : (f : Sym) (is : List ℕ) (done ss : List Statement) (s : Statement) → HaveArguments ds → statements_at done is ≡ Some ss
      → cong_of ds f ss ≡ Ok s → HasOne is
  cong_some f [] done ss s full at e =
      let q : ss ≡ [] = cc in
      let g : cong_of ds f [] ≡ Ok s = subst (λ (x : List Statement). cong_of ds f x ≡ Ok s) q e in
      let last : Sort → Concludes = λ t. Ok (equal (node f t Nil) (node f t Nil)) in
      let k = or_cause-ok (value_sort ds f []) cause.Sort (λ (t : Sort). only_good (head_mark ds f t []) (last t)) s g in
      let m = only_good-ok (head_mark ds f k.0 []) (last k.0) s k.2 in
      absurd (no_argument ds f k.0 full m.0)
  cong_some f (i ∷ is) done ss s full at e = tt

  row_range : (rows : List Row) (done : List Statement) (n : List ℕ) (t : Sort) (xs : List Tree) (is : List ℕ) (s : Statement)
      → length done ≤ max_number → row_line ds rows done n t xs is ≡ Ok s → All IsInRange is
  row_range rows done n t xs is s few e =
      let next : List Statement → Concludes = λ ls. or_cause (row_named rows n) cause.Name (λ (r : Row). instance_of ds r t xs ls) in
      let k = or_cause-ok (statements_at done is) cause.Reference next s e in
      lines_range done is k.0 few k.1

  sum_range : (t : Sort) (m n : ℕ) (s : Statement) → sum_of ds t m n ≡ Ok s → IsInRange m × IsInRange n
  sum_range t m n s e =
      let last : Concludes = Ok (equal (sum_tree t (literal t m) (literal t n)) (literal t (m + n))) in
      let o = only_if-ok (has_class ds t Semiring) cause.NoInstance (only_if (is_small m && is_small n && is_small (m + n)) cause.Literal last) s e in
      two_small m n (m + n) (only_if-ok (is_small m && is_small n && is_small (m + n)) cause.Literal last s o.1).0

  product_range : (t : Sort) (m n : ℕ) (s : Statement) → product_of ds t m n ≡ Ok s → IsInRange m × IsInRange n
  product_range t m n s e =
      let last : Concludes = Ok (equal (product_tree t (literal t m) (literal t n)) (literal t (m * n))) in
      let o = only_if-ok (has_class ds t Semiring) cause.NoInstance (only_if (is_small m && is_small n && is_small (m * n)) cause.Literal last) s e in
      two_small m n (m * n) (only_if-ok (is_small m && is_small n && is_small (m * n)) cause.Literal last s o.1).0

  relation_range : (r : Rel) (t : Sort) (m n : ℕ) (s : Statement) → relation_of ds r t m n ≡ Ok s → IsComparison r × IsInRange m × IsInRange n
  relation_range r t m n s e =
      let last : Concludes = Ok (related r t (literal t m) (literal t n)) in
      let next : Concludes = only_if (is_small m && is_small n && relation_holds r m n) cause.Literal last in
      let o = only_if-ok (relation_class ds r t && has_literal ds t m && has_literal ds t n) cause.NoInstance next s e in
      let l = only_if-ok (is_small m && is_small n && relation_holds r m n) cause.Literal last s o.1 in
      let k = and_parts (is_small m && is_small n) (relation_holds r m n) l.0 in
      let p = and_parts (is_small m) (is_small n) k.0 in
      (is_comparison r m n k.1, small_range m p.0, small_range n p.1)

  bridge_range : (k : BridgeKind) (n : ℕ) (x : Tree) (s : Statement) → bridge_of ds k n x ≡ Ok s → IsInRange n
  bridge_range k n x s e =
      let last : Concludes = Ok (equal (bridge_from k n x) (bridge_to k n x)) in
      let o = only_if-ok (bridge_class ds k (sort_of_tree x)) cause.NoInstance (only_if (is_small n) cause.Literal last) s e in
      small_range n (only_if-ok (is_small n) cause.Literal last s o.1).0

  -- a computation has a numeral
  value_some : (f : Sym) (t : Sort) (xs : List ℤ) → HaveArguments ds → head_mark ds f t (sorts_like t xs) ≡ Good → HasOne xs
  value_some f t [] full e = absurd (no_argument ds f t full e)
  value_some f t (x ∷ xs) full e = tt

  two_some : (xs : List ℤ) → length xs ≡ 2 → HasOne xs
  two_some [] e = absurd (omega (arith, e))
  two_some (x ∷ xs) e = tt

  value_range : (f : Sym) (t : Sort) (xs : List ℤ) (s : Statement) → HaveArguments ds → value_line ds f t xs ≡ Ok s
      → HasOne xs × All (λ x. IsInRange (unsigned_abs x)) xs
  value_range f t xs s full e =
      let last : ℤ → Concludes = λ v. Ok (equal (node f t (of_list (numerals_at t xs))) (numeral_at t v)) in
      let next : ℤ → Concludes = λ v. only_if (are_small xs && is_small_integer v) cause.Literal (last v) in
      let rest : Concludes = or_cause (value_at t f xs) cause.Literal next in
      let a = only_good-ok (head_mark ds f t (sorts_like t xs)) (only_if (has_numerals ds t xs) cause.NoInstance rest) s e in
      let b = only_if-ok (has_numerals ds t xs) cause.NoInstance rest s a.1 in
      let c = or_cause-ok (value_at t f xs) cause.Literal next s b.1 in
      let d = only_if-ok (are_small xs && is_small_integer c.0) cause.Literal (last c.0) s c.2 in
      (value_some f t xs full a.0, numerals_range xs (and_parts (are_small xs) (is_small_integer c.0) d.0).0)

  divides_range : (t : Sort) (xs : List ℤ) (s : Statement) → divides_line ds t xs ≡ Ok s → HasOne xs × All (λ x. IsInRange (unsigned_abs x)) xs
  divides_range t xs s e =
      let last : Concludes = Ok (related rel.Dvd t (numeral_at t (first_number xs)) (numeral_at t (second_number xs))) in
      let next : Concludes = only_if (are_small xs && divides_next xs) cause.Literal last in
      let a = only_if-ok (nat_eq (length xs) 2) cause.Sort (only_if (is_integral t && has_numerals ds t xs) cause.NoInstance next) s e in
      let b = only_if-ok (is_integral t && has_numerals ds t xs) cause.NoInstance next s a.1 in
      let c = only_if-ok (are_small xs && divides_next xs) cause.Literal last s b.1 in
      (two_some xs (same_number (length xs) 2 a.0), numerals_range xs (and_parts (are_small xs) (divides_next xs) c.0).0)

named_spelled : (th : Theory) (done : List Statement) (l : Step) (s : Statement) → HaveArguments th.declarations → length th.declarations ≤ max_number
    → length done ≤ max_number → StepInRange l
    → step_mark th.declarations l ≡ Good → conclude_named th done l ≡ Ok s → HasSpelling l
named_spelled th done (Refl x) s full few short r g e = tree_spelled th.declarations x full g r
named_spelled th done (Symm i) s full few short r g e =
    let k = or_cause-ok (line_at done i) cause.Reference symm_of s e in
    line_range done i k.0 short k.1
named_spelled th done (Trans i j) s full few short r g e =
    let k = or_cause-ok (line_at done i) cause.Reference (λ (x : Statement). or_cause (line_at done j) cause.Reference (trans_of x)) s e in
    let l = or_cause-ok (line_at done j) cause.Reference (trans_of k.0) s k.2 in
    (line_range done i k.0 short k.1, line_range done j l.0 short l.1)
named_spelled th done (Cong f is) s full few short r g e =
    let k = or_cause-ok (statements_at done is) cause.Reference (cong_of th.declarations f) s e in
    (r, cong_some th.declarations f is done k.0 s full k.1 k.2, lines_range done is k.0 short k.1)
named_spelled th done (Subst i j k) s full few short r g e =
    let last : Statement → Statement → Concludes = λ x y. or_cause (line_at done k) cause.Reference (subst_of x y) in
    let a = or_cause-ok (line_at done i) cause.Reference (λ (x : Statement). or_cause (line_at done j) cause.Reference (last x)) s e in
    let b = or_cause-ok (line_at done j) cause.Reference (last a.0) s a.2 in
    let c = or_cause-ok (line_at done k) cause.Reference (subst_of a.0 b.0) s b.2 in
    (line_range done i a.0 short a.1, line_range done j b.0 short b.1, line_range done k c.0 short c.1)
named_spelled th done (Law n t xs is) s full few short r g e =
    let p = worse-parts (sort_mark th.declarations t) (marks_of th.declarations (of_list xs)) g in
    (r.0, r.1, listed_spelled th.declarations xs full p.1 r.2, row_range th.declarations law_table done n t xs is s short e)
named_spelled th done (Lemma n t xs is) s full few short r g e =
    let p = worse-parts (sort_mark th.declarations t) (marks_of th.declarations (of_list xs)) g in
    (r.0, r.1, listed_spelled th.declarations xs full p.1 r.2, row_range th.declarations th.lemmas done n t xs is s short e)
named_spelled th done (Hyp n) s full few short r g e =
    let k = or_cause-ok (line_at (hypotheses th.declarations) n) cause.Reference (λ (x : Statement). Ok x) s e in
    let few_hypotheses : length (hypotheses th.declarations) ≤ max_number =
    at_most_through (length (hypotheses th.declarations)) (length th.declarations) max_number (hypotheses_fewer th.declarations) few in
    line_range (hypotheses th.declarations) n k.0 few_hypotheses k.1
named_spelled th done Rest s full few short r g e = tt
named_spelled th done (LitAdd t m n) s full few short r g e = let p = sum_range th.declarations t m n s e in (r, p.0, p.1)
named_spelled th done (LitMul t m n) s full few short r g e = let p = product_range th.declarations t m n s e in (r, p.0, p.1)
named_spelled th done (LitRel q t m n) s full few short r g e = let p = relation_range th.declarations q t m n s e in (p.0, r, p.1, p.2)
named_spelled th done (Bridge k n x) s full few short r g e = (bridge_range th.declarations k n x s e, tree_spelled th.declarations x full g r)
named_spelled th done (Compute (head.Named f) t xs) s full few short r g e = let p = value_range th.declarations f t xs s full e in (r.0, r.1, p.0, p.1)
named_spelled th done (Compute head.Dvd t xs) s full few short r g e = let p = divides_range th.declarations t xs s e in (r.0, r.1, p.0, p.1)

-- a good line after these lines
pub step_spelled : (th : Theory) (done : List Statement) (l : Step) (s : Statement) → HaveArguments th.declarations
    → length th.declarations ≤ max_number → length done ≤ max_number → StepInRange l
    → conclude th done l ≡ Ok s → HasSpelling l
step_spelled th done l s full few short r e =
    let k = only_good-ok (step_mark th.declarations l) (conclude_named th done l) s e in
    named_spelled th done l s full few short r k.0 k.1

-- each line of a list that is valid
gone_on : (n : ℕ) (r : Concludes) (k : Statement → Verdict) → go_on n r k ≡ Accepted → (s : Statement) × (r ≡ Ok s) × (k s ≡ Accepted)
gone_on n (Ok s) k e = (s, refl, e)
gone_on n (Err c) k e = cc

fewer : (m n k : ℕ) → m + suc n ≤ k → m ≤ k
fewer m n k h = omega arith

spelled_from : (th : Theory) (done : List Statement) (ls : List Step) (goal : Statement) → HaveArguments th.declarations
    → length th.declarations ≤ max_number → length done + length ls ≤ max_number
    → All StepInRange ls → verdict_from th done ls goal ≡ Accepted → All HasSpelling ls
spelled_from th done [] goal full few short r e = All-nil HasSpelling
spelled_from th done (l ∷ ls) goal full few short r e =
    let k = gone_on (suc (length done)) (conclude th done l) (λ (s : Statement). verdict_from th (done ++ s ∷ []) ls goal) e in
    let next : length (done ++ k.0 ∷ []) + length ls ≤ max_number = rw (length-append done (k.0 ∷ [])) (moved (length done) (length ls) max_number short) in
    All-cons HasSpelling l ls (step_spelled th done l k.0 full few (fewer (length done) (length ls) max_number short) (All-head StepInRange l ls r) k.1)
    (spelled_from th (done ++ k.0 ∷ []) ls goal full few next (All-tail StepInRange l ls r) k.2)
  where
    moved : (m n k : ℕ) → m + suc n ≤ k → (m + 1) + n ≤ k
    moved m n k h = omega arith

pub steps_spelled : (th : Theory) (steps : List Step) (goal : Statement) → HaveArguments th.declarations → length th.declarations ≤ max_number
    → length steps ≤ max_number → All StepInRange steps
    → IsValid th steps goal → All HasSpelling steps
steps_spelled th steps goal full few short r e = spelled_from th [] steps goal full few (none_more (length steps) max_number short) r e
  where
    none_more : (n k : ℕ) → n ≤ k → 0 + n ≤ k
    none_more n k h = omega arith
