-- A line that cites a row is good where the trees may fill the row and its premises are there.
use Rattle.std.specs.Prelude.{◌≡◌, ℕ, suc, true, ◌&&◌, nat_eq, List, [], ◌∷◌, length, map, Ok, refl}
use Rattle.std.proofs.Common.{ap, arith}
use Rattle.std.proofs.lemmas.Bool.{and_parts, and_from}
use Rattle.std.proofs.lemmas.Bool.Decides.{nat_tests}
use Rattle.alg_terms.specs.declared.sorts.Sort.{Sort}
use Rattle.alg_terms.specs.Tree.{Tree, Statement, of_list, sort_of_tree}
use Rattle.alg_terms.proofs.OrderLaws.{tree_same-self, sort_same-self, rel_same-self}
use Rattle.alg_terms.specs.Order.{sort_same}
use Rattle.alg_law.specs.declared.rows.Need.{Need}
use Rattle.alg_law.specs.declared.rows.Need.TheVariants as need
use Rattle.alg_law.specs.declared.marks.Mark.TheVariants.{Good}
use Rattle.alg_law.specs.Declarations.{Declaration}
use Rattle.alg_law.specs.Having.{has_class}
use Rattle.alg_law.specs.WellSorted.{worse, sort_mark, marks_of, AreWellSorted}
use Rattle.alg_law.specs.Patterns.{PatStatement, sort_for, letter_sort, fill_statement}
use Rattle.alg_law.specs.Rows.{Row, letters_of, meets, meets_all, MayFill}
use Rattle.alg_law.specs.Laws.{law_table}
use Rattle.alg_proof.specs.Causes.{statement_same}
use Rattle.alg_proof.specs.Instances.{letters_agree, letters_fit, premises_agree, premises_fit, sort_meets_all, class_meets_all, premises_alike, instance_of, row_line}
use Rattle.alg_proof.specs.Steps.{Theory, Law, Lemma, conclude}
use Rattle.alg_proof.specs.Citing.{premises_of, conclusion_of, Cites}

equal_numbers : (m n : ℕ) → m ≡ n → nat_eq m n ≡ true
equal_numbers m n e = grind (arith, nat_tests)

same-self : (s : Statement) → statement_same s s ≡ true
same-self s = rw (rel_same-self s.rel, sort_same-self s.sort, tree_same-self s.lhs, tree_same-self s.rhs) refl

letters : (s : Sort) (ks : List ℕ) (xs : List Tree) → map sort_of_tree xs ≡ map (letter_sort s) ks → (length ks ≡ length xs) × (letters_agree s ks xs ≡ true)
letters s [] [] e = (refl, refl)
letters s [] (x ∷ xs) e = cc
letters s (k ∷ ks) [] e = cc
letters s (k ∷ ks) (x ∷ xs) e =
    let h : sort_of_tree x ≡ letter_sort s k = cc in
    let t : map sort_of_tree xs ≡ map (letter_sort s) ks = cc in
    let r = letters s ks xs t in
    (ap suc r.0, and_from (sort_same (sort_of_tree x) (letter_sort s k)) (letters_agree s ks xs) (rw h (sort_same-self (letter_sort s k))) r.1)

premises : (ks : List ℕ) (s : Sort) (xs : List Tree) (ps : List PatStatement) → (length ps ≡ length (map (fill_statement ks s xs) ps)) × ((premises_agree s ps (map (fill_statement ks s xs) ps) ≡ true) × (premises_alike ks s xs ps (map (fill_statement ks s xs) ps) ≡ true))
premises ks s xs [] = (refl, (refl, refl))
premises ks s xs (p ∷ ps) =
    let r = premises ks s xs ps in
    let l = fill_statement ks s xs p in (
      ap suc r.0,
      (
        and_from (sort_same (sort_for s p.sort) (sort_for s p.sort)) (premises_agree s ps (map (fill_statement ks s xs) ps)) (sort_same-self (sort_for s p.sort)) r.1.0,
        and_from (statement_same l l) (premises_alike ks s xs ps (map (fill_statement ks s xs) ps)) (same-self l) r.1.1,
      ),
    )

needs : (ds : List Declaration) (s : Sort) (ns : List Need) → meets_all ds s ns ≡ true → (sort_meets_all s ns ≡ true) × (class_meets_all ds s ns ≡ true)
needs ds s [] e = (refl, refl)
needs ds s (need.Class c ∷ ns) e =
    let p = and_parts (has_class ds s c) (meets_all ds s ns) e in
    let r = needs ds s ns p.1 in
    (r.0, and_from (has_class ds s c) (class_meets_all ds s ns) p.0 r.1)
needs ds s (need.IsNat ∷ ns) e =
    let p = and_parts (meets ds s need.IsNat) (meets_all ds s ns) e in
    let r = needs ds s ns p.1 in
    (and_from (meets ds s need.IsNat) (sort_meets_all s ns) p.0 r.0, r.1)

instance : (ds : List Declaration) (r : Row) (s : Sort) (xs : List Tree) → MayFill ds r s xs → instance_of ds r s xs (premises_of r s xs) ≡ Ok (conclusion_of r s xs)
instance ds r s xs m =
    let ks = letters_of r in
    let ls = premises_of r s xs in
    let l = letters s ks xs m.sorts in
    let p = premises ks s xs r.premises in
    let n = needs ds s r.needs m.needs in
    let a : letters_fit s ks xs ≡ true = and_from (nat_eq (length ks) (length xs)) (letters_agree s ks xs) (equal_numbers _ _ l.0) l.1 in
    let b : premises_fit s r.premises ls ≡ true = and_from (nat_eq (length r.premises) (length ls)) (premises_agree s r.premises ls) (equal_numbers _ _ p.0) p.1.0 in
    let c : (letters_fit s ks xs && premises_fit s r.premises ls) ≡ true = and_from (letters_fit s ks xs) (premises_fit s r.premises ls) a b in
    let d : (letters_fit s ks xs && premises_fit s r.premises ls && sort_meets_all s r.needs) ≡ true = and_from (letters_fit s ks xs && premises_fit s r.premises ls) (sort_meets_all s r.needs) c n.0 in
    rw (d, n.1, p.1.1) refl

cited : (ds : List Declaration) (rows : List Row) (done : List Statement) (r : Row) (s : Sort) (xs : List Tree) (is : List ℕ) → Cites ds rows done r s xs is → row_line ds rows done r.name s xs is ≡ Ok (conclusion_of r s xs)
cited ds rows done r s xs is c = rw (c.premises, c.named) (instance ds r s xs c.fills)

first_look : (ds : List Declaration) (s : Sort) (xs : List Tree) → sort_mark ds s ≡ Good → AreWellSorted ds (of_list xs) → worse (sort_mark ds s) (marks_of ds (of_list xs)) ≡ Good
first_look ds s xs p q = rw (p, q) refl

pub lemma_leads : (th : Theory) (done : List Statement) (r : Row) (s : Sort) (xs : List Tree) (is : List ℕ) → Cites th.declarations th.lemmas done r s xs is → conclude th done (Lemma r.name s xs is) ≡ Ok (conclusion_of r s xs)
lemma_leads th done r s xs is c = rw (first_look th.declarations s xs c.fills.known c.fills.trees) (cited th.declarations th.lemmas done r s xs is c)

pub law_leads : (th : Theory) (done : List Statement) (r : Row) (s : Sort) (xs : List Tree) (is : List ℕ) → Cites th.declarations law_table done r s xs is → conclude th done (Law r.name s xs is) ≡ Ok (conclusion_of r s xs)
law_leads th done r s xs is c = rw (first_look th.declarations s xs c.fills.known c.fills.trees) (cited th.declarations law_table done r s xs is c)
