-- What a good instance of a row tells.
use Rattle.std.specs.Prelude.{◌≡◌, ℕ, Bool, true, false, ◌&&◌, nat_eq, List, [], ◌∷◌, length, map, Option, Some, None, Contains, suc, Result, Ok, refl, if◌then◌else◌}
use Rattle.std.proofs.Common.{ap₂, arith}
use Rattle.std.proofs.lemmas.Bool.{and_parts, and_from}
use Rattle.std.proofs.lemmas.Bool.Decides.{nat_tests}
use Rattle.std.specs.Cmp.Lexicographic.{pointwise}
use Rattle.alg_terms.specs.declared.sorts.Sort.{Sort}
use Rattle.alg_terms.specs.declared.sorts.Sort.TheVariants.{Nat}
use Rattle.alg_terms.specs.declared.causes.BadCause.{BadCause}
use Rattle.alg_terms.specs.declared.causes.BadCause.TheVariants as cause
use Rattle.alg_terms.specs.Tree.{Tree, Statement, of_list, sort_of_tree}
use Rattle.alg_terms.specs.Order.{tree_same, sort_same, rel_same}
use Rattle.alg_terms.proofs.OrderLaws.{tree_same-equal, sort_same-equal, rel_same-equal}
use Rattle.alg_law.specs.declared.rows.Need.{Need}
use Rattle.alg_law.specs.declared.rows.Need.TheVariants as need
use Rattle.alg_law.specs.declared.marks.Mark.{Mark}
use Rattle.alg_law.specs.declared.marks.Mark.TheVariants.{Good, NoInstance, BadSort, BadName}
use Rattle.alg_law.specs.Declarations.{Declaration}
use Rattle.alg_law.specs.Having.{has_class}
use Rattle.alg_law.specs.WellSorted.{sort_mark, AreWellSorted}
use Rattle.alg_law.specs.Patterns.{PatStatement, letter_sort, fill_statement}
use Rattle.alg_law.specs.Rows.{Row, letters_of, meets_all, MayFill}
use Rattle.alg_law.specs.Laws.{row_named}
use Rattle.alg_proof.specs.Causes.{or_cause, only_if, only_good, statement_same}
use Rattle.alg_proof.specs.Instances.{letters_agree, letters_fit, premises_agree, premises_fit, sort_meets_all, class_meets_all, premises_alike, instance_of}

-- what a good test, mark or look-up tells
pub only_if-ok : {B : Type 0} (b : Bool) (c : BadCause) (r : Result B BadCause) (s : B) → only_if b c r ≡ Ok s → (b ≡ true) × (r ≡ Ok s)
only_if-ok true c r s e = (refl, e)
only_if-ok false c r s e = cc

pub only_good-ok : {B : Type 0} (m : Mark) (r : Result B BadCause) (s : B) → only_good m r ≡ Ok s → (m ≡ Good) × (r ≡ Ok s)
only_good-ok Good r s e = (refl, e)
only_good-ok NoInstance r s e = cc
only_good-ok BadSort r s e = cc
only_good-ok BadName r s e = cc

pub or_cause-ok : {A B : Type 0} (o : Option A) (c : BadCause) (k : A → Result B BadCause) (s : B) → or_cause o c k ≡ Ok s → (x : A) × (o ≡ Some x) × (k x ≡ Ok s)
or_cause-ok None c k s e = cc
or_cause-ok (Some x) c k s e = (x, refl, e)

pub same-equal : (x y : Statement) → statement_same x y ≡ true → x ≡ y
same-equal x y e =
    let a = and_parts (rel_same x.rel y.rel && sort_same x.sort y.sort && tree_same x.lhs y.lhs) (tree_same x.rhs y.rhs) e in
    let b = and_parts (rel_same x.rel y.rel && sort_same x.sort y.sort) (tree_same x.lhs y.lhs) a.0 in
    let c = and_parts (rel_same x.rel y.rel) (sort_same x.sort y.sort) b.0 in
    λ i. record { rel = rel_same-equal x.rel y.rel c.0 i; sort = sort_same-equal x.sort y.sort c.1 i; lhs = tree_same-equal x.lhs y.lhs b.1 i; rhs = tree_same-equal x.rhs y.rhs a.1 i }

same_number : (m n : ℕ) → nat_eq m n ≡ true → m ≡ n
same_number m n e = grind (arith, nat_tests)

premises-same : (ks : List ℕ) (s : Sort) (xs : List Tree) (ps : List PatStatement) (ls : List Statement) → length ps ≡ length ls → premises_alike ks s xs ps ls ≡ true → ls ≡ map (fill_statement ks s xs) ps
premises-same ks s xs [] [] n e = refl
premises-same ks s xs [] (l ∷ ls) n e = absurd (omega arith)
premises-same ks s xs (p ∷ ps) [] n e = absurd (omega arith)
premises-same ks s xs (p ∷ ps) (l ∷ ls) n e =
    let k = and_parts (statement_same l (fill_statement ks s xs p)) (premises_alike ks s xs ps ls) e in
    ap₂ (λ y ys. y ∷ ys) (same-equal l (fill_statement ks s xs p) k.0) (premises-same ks s xs ps ls (omega arith) k.1)

sorts-same : (s : Sort) (ks : List ℕ) (xs : List Tree) → length ks ≡ length xs → letters_agree s ks xs ≡ true → map sort_of_tree xs ≡ map (letter_sort s) ks
sorts-same s [] [] n e = refl
sorts-same s [] (x ∷ xs) n e = absurd (omega arith)
sorts-same s (k ∷ ks) [] n e = absurd (omega arith)
sorts-same s (k ∷ ks) (x ∷ xs) n e =
    let p = and_parts (sort_same (sort_of_tree x) (letter_sort s k)) (letters_agree s ks xs) e in
    ap₂ (λ y ys. y ∷ ys) (sort_same-equal (sort_of_tree x) (letter_sort s k) p.0) (sorts-same s ks xs (omega arith) p.1)

needs-met : (ds : List Declaration) (s : Sort) (ns : List Need) → sort_meets_all s ns ≡ true → class_meets_all ds s ns ≡ true → meets_all ds s ns ≡ true
needs-met ds s [] e f = refl
needs-met ds s (need.Class c ∷ ns) e f =
    let q = and_parts (has_class ds s c) (class_meets_all ds s ns) f in
    and_from (has_class ds s c) (meets_all ds s ns) q.0 (needs-met ds s ns e q.1)
needs-met ds s (need.IsNat ∷ ns) e f =
    let p = and_parts (sort_same s Nat) (sort_meets_all s ns) e in
    and_from (sort_same s Nat) (meets_all ds s ns) p.0 (needs-met ds s ns p.1 f)

-- the trees may fill the row, the lines are its premises, and the conclusion is the row's
pub record IsInstance (ds : List Declaration) (r : Row) (s : Sort) (xs : List Tree) (ls : List Statement) (st : Statement) : Type 0 where
  pub fills : MayFill ds r s xs
  pub premises : ls ≡ map (fill_statement (letters_of r) s xs) r.premises
  pub conclusion : fill_statement (letters_of r) s xs r.conclusion ≡ st

pub instance_of-is : (ds : List Declaration) (r : Row) (s : Sort) (xs : List Tree) (ls : List Statement) (st : Statement) → sort_mark ds s ≡ Good → AreWellSorted ds (of_list xs) → instance_of ds r s xs ls ≡ Ok st → IsInstance ds r s xs ls st
instance_of-is ds r s xs ls st known good e =
    let c = only_if (premises_alike (letters_of r) s xs r.premises ls) cause.Shape (Ok (fill_statement (letters_of r) s xs r.conclusion)) in
    let b = only_if (class_meets_all ds s r.needs) cause.NoInstance c in
    let p = only_if-ok (letters_fit s (letters_of r) xs && premises_fit s r.premises ls && sort_meets_all s r.needs) cause.Sort b st e in
    let q = only_if-ok (class_meets_all ds s r.needs) cause.NoInstance c st p.1 in
    let t = only_if-ok (premises_alike (letters_of r) s xs r.premises ls) cause.Shape (Ok (fill_statement (letters_of r) s xs r.conclusion)) st q.1 in
    let h = and_parts (letters_fit s (letters_of r) xs && premises_fit s r.premises ls) (sort_meets_all s r.needs) p.0 in
    let k = and_parts (letters_fit s (letters_of r) xs) (premises_fit s r.premises ls) h.0 in
    let u = and_parts (nat_eq (length (letters_of r)) (length xs)) (letters_agree s (letters_of r) xs) k.0 in
    let v = and_parts (nat_eq (length r.premises) (length ls)) (premises_agree s r.premises ls) k.1 in
    record {
      fills = record { known = known; needs = needs-met ds s r.needs h.1 q.0; sorts = sorts-same s (letters_of r) xs (same_number _ _ u.0) u.1; trees = good };
      premises = premises-same (letters_of r) s xs r.premises ls (same_number _ _ v.0) t.0;
      conclusion = cc;
    }

-- a row that is found by its name stands there
found : (b : Bool) (x : Row) (rs : List Row) (n : List ℕ) (r : Row) → (row_named rs n ≡ Some r → Contains rs r) → (if b then Some x else row_named rs n) ≡ Some r → Contains (x ∷ rs) r
found true x rs n r later e = (0, omega arith, cc)
found false x rs n r later e =
    let h = later e in
    (suc h.0, omega (arith, h.1), h.2)

pub row_named-contains : (rs : List Row) (n : List ℕ) (r : Row) → row_named rs n ≡ Some r → Contains rs r
row_named-contains [] n r e = cc
row_named-contains (x ∷ rs) n r e = found (pointwise nat_eq x.name n) x rs n r (row_named-contains rs n r) e
