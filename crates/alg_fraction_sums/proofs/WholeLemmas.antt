-- Sums and differences of fractions that are whole.
use Rattle.std.proofs.Common.{◌≡◌, ℕ, ℤ, pos, ◌+ℤ◌, refl}
use Rattle.std.specs.Prelude.{◌-ℤ◌, neg_ℤ}
use Rattle.alg_terms.specs.declared.sorts.Sort.{Sort}
use Rattle.alg_terms.specs.Tree.{Lit, sum_tree}
use Rattle.alg_num.specs.Fraction.{Fraction}
use Rattle.alg_num.specs.LeastSum.{LeastSumInRange}
use Rattle.alg_num.specs.LowestTerms.{Reduces}
use Rattle.alg_num.specs.Negative.{negative_of}
use Rattle.alg_num.specs.Range.{InRange}
use Rattle.alg_num.specs.Sum.{sum_of}
use Rattle.alg_num.proofs.LowestTermsLaws.{fraction_equal}
use Rattle.alg_num.proofs.WholeNumbers.{whole_fraction, wholes_in_range}
use Rattle.alg_build.specs.Book.{Book}
use Rattle.alg_build.specs.Rewriting.{Turns}
use Rattle.alg_build.specs.declared.rewriting.Rewriting.{Rewriting}
use Rattle.alg_rows.specs.Operations.{difference_tree}
use Rattle.alg_numerals.specs.WholeTree.{whole_tree}
use Rattle.alg_fraction_numbers.proofs.ResultLemmas.{whole-sum}
use Rattle.alg_fractions.specs.NumeralTree.{signed_tree}
use Rattle.alg_fractions.proofs.FractionLemmas.{signed-whole}

pub literal-tree : (s : Sort) (n : ℕ) → Lit s n ≡ whole_tree s (pos n)
unfolding whole_tree
literal-tree s n = refl

module _ (x y z : Fraction) (m n : ℤ) (d : x.denominator ≡ 1) (e : y.denominator ≡ 1) (l : m ≡ x.numerator) (k : n ≡ y.numerator) where
  pub whole-sum_small : LeastSumInRange x y → InRange (m +ℤ n)
  whole-sum_small h =
      rw (l, k)
      (wholes_in_range x.numerator y.numerator
      (rw (← fraction_equal x (whole_fraction x.numerator) refl d, ← fraction_equal y (whole_fraction y.numerator) refl e) h))

  pub whole-sum_turns : (b : Book) (s : Sort) (r : Rewriting) → Reduces (sum_of x y) z → Turns b s r (sum_tree s (whole_tree s m) (whole_tree s n)) (whole_tree s (m +ℤ n)) → Turns b s r (sum_tree s (signed_tree s x) (signed_tree s y)) (signed_tree s z)
  whole-sum_turns b s r a h =
      rw (whole-sum x y z d e a, signed-whole s x.numerator x.denominator d, signed-whole s y.numerator y.denominator e, signed-whole s (x.numerator +ℤ y.numerator) 1 refl, ← l, ← k) h

  pub whole-difference_small : LeastSumInRange x (negative_of y) → InRange (m -ℤ n)
  whole-difference_small h =
      rw (l, k)
      (wholes_in_range x.numerator (neg_ℤ y.numerator)
      (rw (← fraction_equal x (whole_fraction x.numerator) refl d, ← fraction_equal (negative_of y) (whole_fraction (neg_ℤ y.numerator)) refl e) h))

  pub whole-difference_turns : (b : Book) (s : Sort) (r : Rewriting) → Reduces (sum_of x (negative_of y)) z → Turns b s r (difference_tree s (whole_tree s m) (whole_tree s n)) (whole_tree s (m -ℤ n)) → Turns b s r (difference_tree s (signed_tree s x) (signed_tree s y)) (signed_tree s z)
  whole-difference_turns b s r a h =
      rw (whole-sum x (negative_of y) z d e a, signed-whole s x.numerator x.denominator d, signed-whole s y.numerator y.denominator e, signed-whole s (x.numerator +ℤ neg_ℤ y.numerator) 1 refl, ← l, ← k) h
