-- Rows are found by their names.
use Rattle.std.specs.Prelude.{◌≡◌, ℕ, zero, suc, Bool, true, false, if◌then◌else◌, nat_eq, List, [], ◌∷◌, ◌++◌, Option, Some, Contains, refl}
use Rattle.std.proofs.Common.{arith, sym, ◌∙◌, subst}
use Rattle.std.specs.Cmp.Lexicographic.{pointwise, same_text, other_text}
use Rattle.std.proofs.lemmas.Bool.{and_parts}
use Rattle.alg_law.specs.Rows.{Row}
use Rattle.alg_law.specs.AdditiveLaws.{sum_laws, multiple_laws}
use Rattle.alg_law.specs.MultiplicativeLaws.{product_laws, power_laws}
use Rattle.alg_law.specs.RingLaws.{semiring_laws, field_laws, unequal_laws}
use Rattle.alg_law.specs.OrderLaws.{order_laws, min_max_laws}
use Rattle.alg_law.specs.OrderedRingLaws.{ordered_semiring_laws, ordered_ring_laws}
use Rattle.alg_law.specs.Laws.{law_groups, law_table, row_named}
use Rattle.alg_law.specs.RowNames.{first_some, is_none, are_apart, IsLawNamed}

first_some-pick : (b : Bool) (x : Row) (o p q : Option Row) → o ≡ first_some p q → (if b then Some x else o) ≡ first_some (if b then Some x else p) q
first_some-pick true x o p q e = refl
first_some-pick false x o p q e = e

-- it is looked for in one list, then in the other
pub row_named-append : (xs ys : List Row) (n : List ℕ) → row_named (xs ++ ys) n ≡ first_some (row_named xs n) (row_named ys n)
row_named-append [] ys n = refl
row_named-append (x ∷ xs) ys n = first_some-pick (pointwise nat_eq x.name n) x (row_named (xs ++ ys) n) (row_named xs n) (row_named ys n) (row_named-append xs ys n)

abbrev IsThere : List Row → List ℕ → Row → Type 0
IsThere rs n r = Contains rs r × (r.name ≡ n)

IsThere-later : (x : Row) (rs : List Row) (n : List ℕ) (r : Row) → IsThere rs n r → IsThere (x ∷ rs) n r
IsThere-later x rs n r ((k, l, e), same) = ((suc k, omega (arith, l), e), same)

IsThere-pick : (b : Bool) (x : Row) (rs : List Row) (n : List ℕ) (r : Row) → b ≡ pointwise nat_eq x.name n → (row_named rs n ≡ Some r → IsThere rs n r)
    → (if b then Some x else row_named rs n) ≡ Some r → IsThere (x ∷ rs) n r
IsThere-pick true x rs n r same later e = let is : x ≡ r = cc in subst (λ y. IsThere (x ∷ rs) n y) is ((0, omega arith, refl), same_text x.name n same)
IsThere-pick false x rs n r same later e = IsThere-later x rs n r (later e)

-- a row that is found stands there, and has the name
row_named-there : (rs : List Row) (n : List ℕ) (r : Row) → row_named rs n ≡ Some r → Contains rs r × (r.name ≡ n)
row_named-there [] n r e = cc
row_named-there (x ∷ rs) n r e = IsThere-pick (pointwise nat_eq x.name n) x rs n r refl (row_named-there rs n r) e

table-apart : are_apart law_table ≡ true
unfolding law_table law_groups sum_laws multiple_laws product_laws power_laws semiring_laws field_laws unequal_laws order_laws min_max_laws ordered_semiring_laws ordered_ring_laws
table-apart = refl

own-pick : (b : Bool) (x : Row) (n : List ℕ) (o : Option Row) → b ≡ pointwise nat_eq x.name n → x.name ≡ n → (if b then Some x else o) ≡ Some x
own-pick true x n o same e = refl
own-pick false x n o same e = absurd (other_text x.name n same e)

later-pick : (b : Bool) (x r : Row) (rs : List Row) → b ≡ pointwise nat_eq x.name r.name → is_none (row_named rs x.name) ≡ true → row_named rs r.name ≡ Some r
    → (if b then Some x else row_named rs r.name) ≡ Some r
later-pick true x r rs same none e =
    let h : x.name ≡ r.name = same_text x.name r.name same in
    let k : is_none (Some r) ≡ true = subst (λ o. is_none o ≡ true) e (subst (λ m. is_none (row_named rs m) ≡ true) h none) in
    cc
later-pick false x r rs same none e = e

-- where no two rows have one name, each is found by its name
pub own : (rs : List Row) (r : Row) → are_apart rs ≡ true → Contains rs r → row_named rs r.name ≡ Some r
own [] r a h = absurd (omega (arith, h.1))
own (x ∷ rs) r a (zero, _, e) =
    subst (λ y. (if pointwise nat_eq y.name r.name then Some y else row_named rs r.name) ≡ Some r) (sym e) (own-pick (pointwise nat_eq r.name r.name) r r.name (row_named rs r.name) refl refl)
own (x ∷ rs) r a (suc k, l, e) =
    let h = and_parts (is_none (row_named rs x.name)) (are_apart rs) a in
    later-pick (pointwise nat_eq x.name r.name) x r rs refl h.0 (own rs r h.1 (k, omega (arith, l), e))

-- each law of the table is found by its name
law_named-own : (r : Row) → Contains law_table r → row_named law_table r.name ≡ Some r
law_named-own r i = own law_table r table-apart i

pub row_named-exact : (n : List ℕ) (found : Option Row) → found ≡ row_named law_table n → IsLawNamed n found
row_named-exact n found e =
    record {
      there = λ r f. row_named-there law_table n r (sym e ∙ f);
      own = λ r i same. e ∙ subst (λ m. row_named law_table m ≡ Some r) same (law_named-own r i);
    }
