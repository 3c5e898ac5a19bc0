-- What a good computation tells: a law of literals.
use Rattle.std.specs.Prelude.{◌≡◌, ℕ, suc, ℤ, pos, negsuc, unsigned_abs, Bool, true, false, ◌&&◌, nat_eq, nat_lt, ◌^◌, List, [], ◌∷◌, map, length, Option, Some, None, option_map, Ok, refl, if◌then◌else◌}
use Rattle.std.proofs.Common.{ap, ap₂, sym, ◌∙◌, subst}
use Rattle.std.proofs.lemmas.Bool.{and_parts}
use Rattle.alg_terms.specs.declared.sorts.Sort.{Sort}
use Rattle.alg_terms.specs.declared.sorts.Sort.TheVariants.{Nat, Int, Rat, Decl}
use Rattle.alg_terms.specs.declared.symbols.Sym.{Sym}
use Rattle.alg_terms.specs.declared.relations.Rel.TheVariants.{Dvd}
use Rattle.alg_terms.specs.declared.causes.BadCause.TheVariants as cause
use Rattle.alg_terms.specs.Symbols.{is_integral}
use Rattle.alg_terms.specs.Tree.{Lit, App, of_list, Statement, equal}
use Rattle.alg_law.specs.declared.classes.Class.{Class}
use Rattle.alg_law.specs.declared.classes.Class.TheVariants.{AddGroup}
use Rattle.alg_law.specs.Declarations.{Declaration, Carrier, Instance, Variable, Function, Hypothesis}
use Rattle.alg_law.specs.Having.{has_class, instances_give}
use Rattle.alg_law.specs.WellSorted.{head_mark}
use Rattle.alg_law.specs.Computing.{natural_value, integer_value, divides, literal_value}
use Rattle.alg_law.proofs.ComputingLaws.{natural_value-is, integer_value-is, divides-is}
use Rattle.alg_law.specs.Derivations.{numeral, related, LiteralLaw, natural_value as natural_law, integer_value as integer_law, natural_divides, integer_divides}
use Rattle.alg_proof.specs.Causes.{or_cause, only_if, only_good}
use Rattle.alg_proof.proofs.InstanceLaws.{only_if-ok, only_good-ok, or_cause-ok}
use Rattle.alg_proof.specs.LiteralLines.{has_literal}
use Rattle.alg_proof.specs.Computations.{numeral_at, numerals_at, has_numeral, has_numerals, is_small_integer, are_small, value_at, sorts_like, value_line, divides_next, first_number, second_number, divides_line}

numeral-at : (x : ℤ) → numeral_at Int x ≡ numeral x
numeral-at (pos n) = refl
numeral-at (negsuc n) = refl

numerals-at : (xs : List ℤ) → numerals_at Int xs ≡ map numeral xs
numerals-at [] = refl
numerals-at (x ∷ xs) = ap₂ (λ y ys. y ∷ ys) (numeral-at x) (numerals-at xs)

-- ℕ gets no class from declarations
none-given : (ds : List Declaration) (c : Class) → instances_give ds Nat c ≡ false
none-given [] c = refl
none-given (Carrier n ∷ ds) c = none-given ds c
none-given (Instance k b ∷ ds) c = none-given ds c
none-given (Variable n s ∷ ds) c = none-given ds c
none-given (Function n ss s ∷ ds) c = none-given ds c
none-given (Hypothesis n h ∷ ds) c = none-given ds c

no-negation : (ds : List Declaration) → has_class ds Nat AddGroup ≡ true → ⊥
no-negation ds e =
    let f : instances_give ds Nat AddGroup ≡ true = e in
    let g : true ≡ false = sym f ∙ none-given ds AddGroup in
    cc

natural-at : (ds : List Declaration) (x : ℤ) → has_numeral ds Nat x ≡ true → numeral_at Nat x ≡ Lit Nat (unsigned_abs x)
natural-at ds (pos n) e = refl
natural-at ds (negsuc n) e = absurd (no-negation ds (and_parts (has_class ds Nat AddGroup) (has_literal ds Nat (suc n)) e).0)

naturals-at : (ds : List Declaration) (xs : List ℤ) → has_numerals ds Nat xs ≡ true → numerals_at Nat xs ≡ map (Lit Nat) (map unsigned_abs xs)
naturals-at ds [] e = refl
naturals-at ds (x ∷ xs) e =
    let k = and_parts (has_numeral ds Nat x) (has_numerals ds Nat xs) e in
    ap₂ (λ y ys. y ∷ ys) (natural-at ds x k.0) (naturals-at ds xs k.1)

small-value : (b : Bool) (v n : ℕ) → (if b then Some v else None) ≡ Some n → v ≡ n
small-value true v n e = cc
small-value false v n e = cc

literal_value-is : (o : Option ℕ) (n : ℕ) → literal_value o ≡ Some n → o ≡ Some n
literal_value-is None n e = cc
literal_value-is (Some v) n e = ap Some (small-value (nat_lt v (2 ^ 127)) v n e)

mapped : (o : Option ℕ) (v : ℤ) → option_map pos o ≡ Some v → (n : ℕ) × (o ≡ Some n) × (pos n ≡ v)
mapped None v e = cc
mapped (Some n) v e = (n, refl, cc)

value-law : (ds : List Declaration) (f : Sym) (s : Sort) (xs : List ℤ) (v : ℤ) → has_numerals ds s xs ≡ true → value_at s f xs ≡ Some v → LiteralLaw ds (equal (App f s (of_list (numerals_at s xs))) (numeral_at s v))
value-law ds f Nat xs v h e =
    let k = mapped (literal_value (natural_value f (map unsigned_abs xs))) v e in
    let l = literal_value-is (natural_value f (map unsigned_abs xs)) k.0 k.1 in
    let law : LiteralLaw ds (equal (App f Nat (of_list (map (Lit Nat) (map unsigned_abs xs)))) (Lit Nat k.0)) = natural_law f (map unsigned_abs xs) k.0 (natural_value-is f (map unsigned_abs xs) k.0 l) in
    rw (naturals-at ds xs h, ← k.2) law
value-law ds f Int xs v h e = rw (numerals-at xs, numeral-at v) (integer_law f xs v (integer_value-is f xs v e))
value-law ds f Rat xs v h e = cc
value-law ds f (Decl k) xs v h e = cc

pub value_line-law : (ds : List Declaration) (f : Sym) (s : Sort) (xs : List ℤ) (st : Statement) → value_line ds f s xs ≡ Ok st → LiteralLaw ds st
value_line-law ds f s xs st e =
    let a = only_good-ok (head_mark ds f s (sorts_like s xs)) _ st e in
    let b = only_if-ok (has_numerals ds s xs) cause.NoInstance _ st a.1 in
    let c = or_cause-ok (value_at s f xs) cause.Literal (λ v. only_if (are_small xs && is_small_integer v) cause.Literal (Ok (equal (App f s (of_list (numerals_at s xs))) (numeral_at s v)))) st b.1 in
    let d = only_if-ok (are_small xs && is_small_integer c.0) cause.Literal (Ok (equal (App f s (of_list (numerals_at s xs))) (numeral_at s c.0))) st c.2 in
    let q : equal (App f s (of_list (numerals_at s xs))) (numeral_at s c.0) ≡ st = cc in
    subst (LiteralLaw ds) q (value-law ds f s xs c.0 b.0 c.1)

two-numbers : (ds : List Declaration) (s : Sort) (xs : List ℤ) → is_integral s ≡ true → has_numerals ds s xs ≡ true → divides_next xs ≡ true → LiteralLaw ds (related Dvd s (numeral_at s (first_number xs)) (numeral_at s (second_number xs)))
two-numbers ds s [] i h e = cc
two-numbers ds s (x ∷ []) i h e = cc
two-numbers ds Nat (x ∷ y ∷ zs) i h e =
    let k = and_parts (has_numeral ds Nat x) (has_numerals ds Nat (y ∷ zs)) h in
    let l = and_parts (has_numeral ds Nat y) (has_numerals ds Nat zs) k.1 in
    rw (natural-at ds x k.0, natural-at ds y l.0) (natural_divides (unsigned_abs x) (unsigned_abs y) (divides-is (unsigned_abs x) (unsigned_abs y) e))
two-numbers ds Int (x ∷ y ∷ zs) i h e = rw (numeral-at x, numeral-at y) (integer_divides x y (divides-is (unsigned_abs x) (unsigned_abs y) e))
two-numbers ds Rat (x ∷ y ∷ zs) i h e = cc
two-numbers ds (Decl k) (x ∷ y ∷ zs) i h e = cc

pub divides_line-law : (ds : List Declaration) (s : Sort) (xs : List ℤ) (st : Statement) → divides_line ds s xs ≡ Ok st → LiteralLaw ds st
divides_line-law ds s xs st e =
    let a = only_if-ok (nat_eq (length xs) 2) cause.Sort _ st e in
    let b = only_if-ok (is_integral s && has_numerals ds s xs) cause.NoInstance _ st a.1 in
    let c = only_if-ok (are_small xs && divides_next xs) cause.Literal (Ok (related Dvd s (numeral_at s (first_number xs)) (numeral_at s (second_number xs)))) st b.1 in
    let d = and_parts (is_integral s) (has_numerals ds s xs) b.0 in
    let q : related Dvd s (numeral_at s (first_number xs)) (numeral_at s (second_number xs)) ≡ st = cc in
    subst (LiteralLaw ds) q (two-numbers ds s xs d.0 d.1 (and_parts (are_small xs) (divides_next xs) c.0).1)
