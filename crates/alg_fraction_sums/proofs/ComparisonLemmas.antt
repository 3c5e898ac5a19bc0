-- Fractions compared by their cross products.
use Rattle.std.proofs.Common.{◌≡◌, ℕ, ℤ, pos, ◌*ℤ◌, refl, ap, sym, ◌∙◌, true, List}
use Rattle.std.specs.declared.cmp.Ordering.{Ordering}
use Rattle.std.specs.Ordering.{int_cmp}
use Rattle.alg_terms.specs.declared.sorts.Sort.{Sort}
use Rattle.alg_terms.specs.declared.relations.Rel.{Rel}
use Rattle.alg_terms.specs.declared.relations.Rel.TheVariants.{Eq, Ne, Lt, Le, Dvd}
use Rattle.alg_law.specs.declared.classes.Class.TheVariants.{IsStrictOrderedRing}
use Rattle.alg_law.specs.Declarations.{Declaration}
use Rattle.alg_law.specs.Derivations.{related}
use Rattle.alg_law.specs.Having.{has_class}
use Rattle.alg_num.specs.Fraction.{Fraction}
use Rattle.alg_num.specs.Order.{order_of}
use Rattle.alg_num.specs.Range.{InRange}
use Rattle.alg_num.proofs.IntegerLaws.{*ℤ-pos_one}
use Rattle.alg_proof.specs.LiteralLines.{relation_class}
use Rattle.alg_build.specs.Book.{Book, Concludes}
use Rattle.alg_numerals.specs.Comparing.{allows, DifferenceInRange}
use Rattle.alg_numerals.specs.WholeTree.{whole_tree}
use Rattle.alg_fraction_sums.specs.Comparing.{ComparisonInRange, is_order}
use Rattle.alg_fractions.specs.NumeralTree.{signed_tree}
use Rattle.alg_numerals.proofs.RelationLemmas.{class-ne, class-lt, above-zero}
use Rattle.alg_fractions.proofs.SizeLemmas.{above-differs}
use Rattle.alg_fractions.proofs.FractionLemmas.{signed-whole}
use Rattle.alg_fraction_sums.proofs.QuotientLemmas.{quotients}

-- the class that a relation asks for
module _ (ds : List Declaration) (s : Sort) where
  pub lt-class : relation_class ds Lt s ≡ true → has_class ds s IsStrictOrderedRing ≡ true
  lt-class h = h

  pub le-class : relation_class ds Le s ≡ true → has_class ds s IsStrictOrderedRing ≡ true
  le-class h = h

pub allowed-order : (r : Rel) (o : Ordering) → allows r o ≡ true → is_order r ≡ true
allowed-order Eq o h = h
allowed-order Ne o h = refl
allowed-order Lt o h = refl
allowed-order Le o h = refl
allowed-order Dvd o h = h

-- what is in range, by the relation

pub crossed-left : (r : Rel) (x y : Fraction) → ComparisonInRange r x y → InRange (x.numerator *ℤ pos y.denominator)
crossed-left Eq x y h = h.left
crossed-left Ne x y h = h.left
crossed-left Lt x y h = h.left
crossed-left Le x y h = h.left
crossed-left Dvd x y h = h.left

pub crossed-right : (r : Rel) (x y : Fraction) → ComparisonInRange r x y → InRange (y.numerator *ℤ pos x.denominator)
crossed-right Eq x y h = h.right
crossed-right Ne x y h = h.right
crossed-right Lt x y h = h.right
crossed-right Le x y h = h.right
crossed-right Dvd x y h = h.right

pub crossed-difference : (r : Rel) (x y : Fraction) → ComparisonInRange r x y → DifferenceInRange r (x.numerator *ℤ pos y.denominator) (y.numerator *ℤ pos x.denominator)
crossed-difference Eq x y h = tt
crossed-difference Ne x y h = h.difference
crossed-difference Lt x y h = tt
crossed-difference Le x y h = tt
crossed-difference Dvd x y h = tt

-- whole numbers

times-one : (z : ℤ) (d : ℕ) → d ≡ 1 → z *ℤ pos d ≡ z
times-one z d e = ap (λ n. z *ℤ pos n) e ∙ *ℤ-pos_one z

module _ (x y : Fraction) (m n : ℤ) (d : x.denominator ≡ 1) (e : y.denominator ≡ 1) (l : m ≡ x.numerator) (k : n ≡ y.numerator) where
  left-product : x.numerator *ℤ pos y.denominator ≡ m
  left-product = times-one x.numerator y.denominator e ∙ sym l

  right-product : y.numerator *ℤ pos x.denominator ≡ n
  right-product = times-one y.numerator x.denominator d ∙ sym k

  pub whole-allows : (r : Rel) → allows r (order_of x y) ≡ true → allows r (int_cmp m n) ≡ true
  whole-allows r h = rw (← left-product, ← right-product) h

  pub whole-difference_small : (r : Rel) → ComparisonInRange r x y → DifferenceInRange r m n
  whole-difference_small r h = rw (← left-product, ← right-product) (crossed-difference r x y h)

  pub whole-related : (b : Book) (i : ℕ) (r : Rel) (s : Sort) → Concludes b i (related r s (whole_tree s m) (whole_tree s n)) → Concludes b i (related r s (signed_tree s x) (signed_tree s y))
  whole-related b i r s h = rw (signed-whole s x.numerator x.denominator d, signed-whole s y.numerator y.denominator e, ← l, ← k) h

pub ruleset comparisons = (quotients, class-ne, class-lt, above-zero, above-differs, lt-class, le-class)
