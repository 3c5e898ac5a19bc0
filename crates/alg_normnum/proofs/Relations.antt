-- What it takes that a relation holds between two values.
use Rattle.std.proofs.Common.{◌≡◌, pos, ◌*ℤ◌, Bool, true, false, ◌&&◌, nat_eq, refl, ap, sym, ◌∙◌, subst, Some, Option, List}
use Rattle.std.specs.Prelude.{if◌then◌else◌, ◌-ℤ◌, Result, IfOk}
use Rattle.std.specs.declared.cmp.Ordering.{Ordering}
use Rattle.std.specs.declared.cmp.Ordering.TheVariants.{Less, Equal, Greater}
use Rattle.std.specs.Ordering.{int_eq, is_eq, is_ne}
use Rattle.std.specs.Cmp.{signed_Decides}
use Rattle.std.proofs.lemmas.Bool.{and_parts, eq-eqb, eqb-true, ltb-true}
use Rattle.alg_terms.specs.declared.sorts.Sort.{Sort}
use Rattle.alg_terms.specs.declared.relations.Rel.{Rel}
use Rattle.alg_terms.specs.declared.relations.Rel.TheVariants.{Eq, Ne, Lt, Le, Dvd}
use Rattle.alg_terms.specs.Tree.{Tree, Statement}
use Rattle.alg_terms.specs.Order.{tree_same}
use Rattle.alg_terms.proofs.OrderLaws.{tree_same-self}
use Rattle.alg_num.specs.Fraction.{Fraction, IsSameValue}
use Rattle.alg_num.specs.LowestTerms.{IsInLowestTerms}
use Rattle.alg_num.specs.Order.{order_of, is_different, CrossProductsInRange, CrossDifferenceInRange}
use Rattle.alg_num.proofs.LowestTermsLaws.{fraction_equal, lowest_terms_equal}
use Rattle.alg_law.specs.declared.classes.Class.TheVariants.{CharZero, IsStrictOrderedRing}
use Rattle.alg_law.specs.Computing.{divides}
use Rattle.alg_law.specs.Declarations.{Declaration}
use Rattle.alg_law.specs.Having.{has_class}
use Rattle.alg_proof.specs.LiteralLines.{relation_class}
use Rattle.alg_build.specs.Answer.{Answer, Closes, Fails, Gives, Leads}
use Rattle.alg_build.specs.Book.{Book}
use Rattle.alg_build.specs.declared.outcome.Outcome.{Outcome}
use Rattle.alg_build.specs.declared.outcome.TacFault.{TacFault}
use Rattle.alg_build.specs.declared.outcome.TacFault.TheVariants.{OutOfRange}
use Rattle.alg_ends.specs.CommonEnd.{common_end, is_reflexive}
use Rattle.alg_numerals.specs.Comparing.{allows}
use Rattle.alg_fraction_sums.specs.Comparing.{ComparisonInRange}
use Rattle.alg_values.specs.Setting.{Classes}
use Rattle.alg_values.specs.Arithmetic.{size_of}
use Rattle.alg_values.specs.Functions.{is_at_most}
use Rattle.alg_values.specs.Ranges.{in_range, cross_products_in_range, difference_in_range}
use Rattle.alg_values.specs.Comparing.{comparison_in_range, decided, is_less, is_same, known_if}
use Rattle.alg_values.specs.declared.value.Value.TheVariants.{Num}
use Rattle.alg_normnum.specs.Answer.{by_decision, by_values}
use Rattle.alg_normnum.specs.Sides.{Holds}

-- one value

pub same_values : (p q : Fraction) → is_same p q ≡ true → p ≡ q
same_values p q e =
    let both = and_parts (int_eq p.numerator q.numerator) (nat_eq p.denominator q.denominator) e in
    fraction_equal p q ((signed_Decides p.numerator q.numerator).0 both.0) (eqb-true p.denominator q.denominator both.1)

same_self : (p : Fraction) → is_same p p ≡ true
same_self p =
    let i : int_eq p.numerator p.numerator ≡ true = (signed_Decides p.numerator p.numerator).1 refl in
    let n : nat_eq p.denominator p.denominator ≡ true = eq-eqb p.denominator p.denominator refl in
    rw (i, n) refl

unequal : (o : Ordering) → (is_eq o ≡ true → ⊥) → is_ne o ≡ true
unequal Less n = refl
unequal Equal n = absurd (n refl)
unequal Greater n = refl

-- values in lowest terms that aren't one differ
pub other_values : (p q : Fraction) → IsInLowestTerms p → IsInLowestTerms q → is_same p q ≡ false → is_different p q ≡ true
other_values p q h i e = unequal (order_of p q) (λ w. (
    let crossed : IsSameValue p q = (signed_Decides (p.numerator *ℤ pos q.denominator) (q.numerator *ℤ pos p.denominator)).0 w in
    let one : p ≡ q = lowest_terms_equal p q h i crossed in
    let f : false ≡ true = sym e ∙ ap (λ r. is_same p r) (sym one) ∙ same_self p in
    cc))

-- a relation that is known to hold

known_true : (b c : Bool) → known_if b c ≡ Some true → (b ≡ true) × (c ≡ true)
known_true true true e = (refl, refl)
known_true true false e = cc
known_true false c e = cc

of_others : (t b c : Bool) → (if t then Some false else known_if b c) ≡ Some true → (t ≡ false) × (b ≡ true) × (c ≡ true)
of_others true b c e = cc
of_others false b c e = let k = known_true b c e in (refl, k.0, k.1)

or_same : (t b c : Bool) → t ≡ false → (if t then Some true else known_if b c) ≡ Some true → (b ≡ true) × (c ≡ true)
or_same true b c n e = cc
or_same false b c n e = known_true b c e

-- a test that answers no
pub not_dvd : (b : Bool) (P : Type 0) → b ≡ false → ((b ≡ true → P) × (P → b ≡ true)) → P → ⊥
not_dvd b P e h p =
    let yes : b ≡ true = h.1 p in
    cc

-- of `≠`, `<` and `≤`, where the common end doesn't close the goal
orders : (ds : List Declaration) (r : Rel) (s : Sort) (p q : Fraction) → (r ≡ Dvd → ⊥) → (is_reflexive r && is_same p q) ≡ false → (is_same p q ≡ false → is_different p q ≡ true) → decided (has_class ds) r s p q ≡ Some true
    → (relation_class ds r s ≡ true) × (allows r (order_of p q) ≡ true)
orders ds Eq s p q n o d e = let k = or_same (is_same p q) (has_class ds s CharZero) false o e in let f : false ≡ true = k.1 in cc
orders ds Ne s p q n o d e = let k = of_others (is_same p q) (has_class ds s CharZero) true e in (k.1, d k.0)
orders ds Lt s p q n o d e = let k = of_others (is_same p q) (has_class ds s IsStrictOrderedRing) (is_less p q) e in (k.1, k.2)
orders ds Le s p q n o d e = or_same (is_same p q) (has_class ds s IsStrictOrderedRing) (is_at_most p q) o e
orders ds Dvd s p q n o d e = absurd (n refl)

cross_fact : (p q : Fraction) → cross_products_in_range p q ≡ true → CrossProductsInRange p q
cross_fact p q e =
    let both = and_parts (in_range (p.numerator *ℤ pos q.denominator)) (in_range (q.numerator *ℤ pos p.denominator)) e in
    record { left = ltb-true _ _ both.0; right = ltb-true _ _ both.1 }

difference_fact : (p q : Fraction) → difference_in_range p q ≡ true → CrossDifferenceInRange p q
difference_fact p q e =
    let both = and_parts (cross_products_in_range p q) (in_range (p.numerator *ℤ pos q.denominator -ℤ q.numerator *ℤ pos p.denominator)) e in
    let crossed = cross_fact p q both.0 in
    record { left = crossed.left; right = crossed.right; difference = ltb-true _ _ both.1 }

ranges : (r : Rel) (o : Ordering) (p q : Fraction) → allows r o ≡ true → comparison_in_range r p q ≡ true → ComparisonInRange r p q
ranges Eq o p q h e = cc
ranges Ne o p q h e = difference_fact p q e
ranges Lt o p q h e = cross_fact p q e
ranges Le o p q h e = cross_fact p q e
ranges Dvd o p q h e = cc

module _ (ds : List Declaration) (r : Rel) (s : Sort) (p q : Fraction) (h : Holds (has_class ds) r s p q) where
  module _ (n : r ≡ Dvd → ⊥) (o : (is_reflexive r && is_same p q) ≡ false) (d : is_same p q ≡ false → is_different p q ≡ true) where
    pub order_class : relation_class ds r s ≡ true
    order_class = (orders ds r s p q n o d h.decided).0

    pub order_allowed : allows r (order_of p q) ≡ true
    order_allowed = (orders ds r s p q n o d h.decided).1

    pub order_ranged : ComparisonInRange r p q
    order_ranged = ranges r (order_of p q) p q order_allowed h.range

  pub is_divisor : r ≡ Dvd → divides (size_of p) (size_of q) ≡ true
  is_divisor e =
      let k : decided (has_class ds) Dvd s p q ≡ Some true = subst (λ (t : Rel). decided (has_class ds) t s p q ≡ Some true) e h.decided in
      cc

-- the common end of a goal between a tree and itself
pub same_closes : (s : Statement) (l r : Tree) → is_reflexive s.rel ≡ true → l ≡ r → common_end s l r ≡ Closes
same_closes s l r e f =
    let t : tree_same r r ≡ true = tree_same-self r in
    rw (f, e, t) refl

-- what the values decide

module _ (has : Classes) (s : Statement) (l r : Tree) (p q : Fraction) where
  pub past_compared : comparison_in_range s.rel p q ≡ false → by_values has s l r (Num p) (Num q) ≡ Fails OutOfRange
  past_compared e = ap (λ b. if b then by_decision s l r (decided has s.rel s.sort p q) else Fails OutOfRange) e

  pub by_decided : (o : Option Bool) → comparison_in_range s.rel p q ≡ true → decided has s.rel s.sort p q ≡ o → by_values has s l r (Num p) (Num q) ≡ by_decision s l r o
  by_decided o i e = ap (λ b. if b then by_decision s l r (decided has s.rel s.sort p q) else Fails OutOfRange) i ∙ ap (by_decision s l r) e

pub gives_same : (b : Book) (o : Result Outcome TacFault) (x y : Answer) → y ≡ x → Gives b o x → Gives b o y
gives_same b o x y e h = subst (λ (z : Answer). Gives b o z) (sym e) h

pub leads_same : (b : Book) (o : Result Outcome TacFault) (s t : Statement) → t ≡ s → IfOk o (λ u. Leads b u s) → IfOk o (λ u. Leads b u t)
leads_same b o s t e h = subst (λ (z : Statement). IfOk o (λ u. Leads b u z)) (sym e) h
