-- What a congruence concludes, by its tests.
use Rattle.std.proofs.Common.{◌≡◌, List, refl, ap, sym, ◌∙◌, subst, Bool, true, false, Some, None, Result, Ok, Err}
use Rattle.alg_terms.specs.declared.sorts.Sort.{Sort}
use Rattle.alg_terms.specs.declared.symbols.Sym.{Sym}
use Rattle.alg_terms.specs.declared.causes.BadCause.TheVariants as cause
use Rattle.alg_terms.specs.Tree.{Tree, App, Statement, of_list, equal}
use Rattle.alg_expr.specs.declared.ids.ExprId.{ExprId}
use Rattle.alg_expr.specs.declared.ids.Stmt.{Stmt}
use Rattle.alg_expr.specs.Ids.{trees_at, statements_of}
use Rattle.alg_expr.specs.Applying.{sorts_fit, sorts_at}
use Rattle.alg_law.specs.declared.marks.Mark.{Mark}
use Rattle.alg_law.specs.declared.marks.Mark.TheVariants.{Good, NoInstance, BadSort, BadName}
use Rattle.alg_law.specs.Declarations.{Declaration}
use Rattle.alg_law.specs.WellSorted.{head_mark, sorts_of}
use Rattle.alg_proof.specs.Causes.{Concludes, only_if, only_good}
use Rattle.alg_proof.specs.Steps.{all_equations, left_sides, right_sides, value_sort, cong_of}
use Rattle.alg_kernel.specs.declared.answers.Fault.{Fault}
use Rattle.alg_kernel.specs.declared.answers.Fault.TheVariants as fault
use Rattle.alg_kernel.specs.Answers.{IsJudged, IsPassed}
use Rattle.alg_kernel.specs.Sides.{left_ids, right_ids}
use Rattle.alg_kernel.proofs.SideLemmas.{left_sides-ids, right_sides-ids, left-sorts, right-sorts, head-fits}

-- what came of a look at a mark
pub passed : (r : Result (Unit {0}) Fault) (m : Mark) (u : Unit {0}) → IsPassed r m → r ≡ Ok u → m ≡ Good
passed r Good u p e = refl
passed r NoInstance u p e = cc
passed r BadSort u p e = cc
passed r BadName u p e = cc

pub refused : (ts : List Tree) (r : Result (Unit {0}) Fault) (m : Mark) (q : Fault) (res : Result Stmt Fault) (rest : Concludes) → IsPassed r m → r ≡ Err q → res ≡ Err q → IsJudged ts res (only_good m rest)
refused ts r Good q res rest p e f = cc
refused ts r NoInstance q res rest p e f = let g : res ≡ Err (fault.Bad cause.NoInstance) = cc in rw g refl
refused ts r BadSort q res rest p e f = let g : res ≡ Err (fault.Bad cause.Sort) = cc in rw g refl
refused ts r BadName q res rest p e f = let g : res ≡ Err (fault.Bad cause.Name) = cc in rw g refl

module _ (ds : List Declaration) (ts : List Tree) (f : Sym) (parts : List Stmt) (lefts rights : List ExprId) (el : lefts ≡ left_ids parts) (er : rights ≡ right_ids parts) where
  -- the last test and the conclusion
  abbrev pub rest : Sort → Concludes
  rest t =
      only_if (all_equations (statements_of ts parts)) cause.Shape
      (Ok (equal (App f t (left_sides (statements_of ts parts))) (App f t (right_sides (statements_of ts parts)))))

  sorts-left : sorts_of (left_sides (statements_of ts parts)) ≡ sorts_at ts lefts
  sorts-left = left-sorts ts parts ∙ ap (sorts_at ts) (sym el)

  pub cong-none : None ≡ value_sort ds f (sorts_at ts lefts) → cong_of ds f (statements_of ts parts) ≡ Err cause.Sort
  cong-none h =
      let e : value_sort ds f (sorts_of (left_sides (statements_of ts parts))) ≡ None = ap (value_sort ds f) sorts-left ∙ sym h in
      rw e refl

  pub cong-some : (t : Sort) (m : Mark) → Some t ≡ value_sort ds f (sorts_at ts lefts) → m ≡ head_mark ds f t (sorts_at ts lefts) → cong_of ds f (statements_of ts parts) ≡ only_good m (rest t)
  cong-some t m h k =
      let e : value_sort ds f (sorts_of (left_sides (statements_of ts parts))) ≡ Some t = ap (value_sort ds f) sorts-left ∙ sym h in
      let g : head_mark ds f t (sorts_of (left_sides (statements_of ts parts))) ≡ m = ap (head_mark ds f t) sorts-left ∙ sym k in
      rw (e, g) refl

  pub cong-refused : (t : Sort) (m : Mark) (r : Result (Unit {0}) Fault) (q : Fault) (res : Result Stmt Fault) → Some t ≡ value_sort ds f (sorts_at ts lefts) → m ≡ head_mark ds f t (sorts_at ts lefts)
      → IsPassed r m → r ≡ Err q → res ≡ Err q → IsJudged ts res (cong_of ds f (statements_of ts parts))
  cong-refused t m r q res h k p e g = subst (IsJudged ts res) (sym (cong-some t m h k)) (refused ts r m q res (rest t) p e g)

  module _ (t : Sort) (m : Mark) (r : Result (Unit {0}) Fault) (u : Unit {0}) (h : Some t ≡ value_sort ds f (sorts_at ts lefts)) (k : m ≡ head_mark ds f t (sorts_at ts lefts)) (p : IsPassed r m) (q : r ≡ Ok u) where
    last-test : cong_of ds f (statements_of ts parts) ≡ rest t
    last-test = cong-some t m h k ∙ ap (λ n. only_good n (rest t)) (passed r m u p q)

    pub cong-shape : (b : Bool) → b ≡ all_equations (statements_of ts parts) → b ≡ false → cong_of ds f (statements_of ts parts) ≡ Err cause.Shape
    cong-shape b e g =
        let i : all_equations (statements_of ts parts) ≡ false = sym e ∙ g in
        last-test ∙ rw i refl

    pub cong-good : (b : Bool) (s : Statement) → b ≡ all_equations (statements_of ts parts) → b ≡ true → s ≡ equal (App f t (of_list (trees_at ts lefts))) (App f t (of_list (trees_at ts rights))) → cong_of ds f (statements_of ts parts) ≡ Ok s
    cong-good b s e g i =
        let j : all_equations (statements_of ts parts) ≡ true = sym e ∙ g in
        let left : left_sides (statements_of ts parts) ≡ of_list (trees_at ts lefts) = left_sides-ids ts parts ∙ ap (λ es. of_list (trees_at ts es)) (sym el) in
        let right : right_sides (statements_of ts parts) ≡ of_list (trees_at ts rights) = right_sides-ids ts parts ∙ ap (λ es. of_list (trees_at ts es)) (sym er) in
        last-test ∙ rw (j, left, right) (ap Ok (sym i))

    pub left-fits : sorts_fit f t (sorts_at ts lefts) ≡ true
    left-fits = (head-fits ds f t (sorts_at ts lefts) (sym k ∙ passed r m u p q)).1

    pub right-fits : sorts_of (right_sides (statements_of ts parts)) ≡ sorts_of (left_sides (statements_of ts parts)) → sorts_fit f t (sorts_at ts rights) ≡ true
    right-fits even =
        let same : sorts_at ts rights ≡ sorts_at ts lefts = ap (sorts_at ts) er ∙ sym (right-sorts ts parts) ∙ even ∙ sorts-left in
        rw same left-fits
