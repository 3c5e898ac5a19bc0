-- How the order of two whole numbers tells that of their sizes.
use Rattle.std.proofs.Common.{◌≡◌, ℕ, suc, ◌+◌, ◌<◌, ◌^◌, ℤ, pos, negsuc, Bool, true, false, nat_eq, nat_lt, refl, arith}
use Rattle.std.specs.Prelude.{◌-ℤ◌, unsigned_abs}
use Rattle.std.proofs.lemmas.Bool.Decides.{nat_tests}
use Rattle.std.proofs.lemmas.Int.{ints}
use Rattle.std.specs.Ordering.{int_cmp}
use Rattle.alg_terms.specs.declared.relations.Rel.{Rel}
use Rattle.alg_terms.specs.declared.relations.Rel.TheVariants.{Eq, Ne, Lt, Le, Dvd}
use Rattle.alg_proof.specs.LiteralLines.{relation_holds}
use Rattle.alg_num.specs.Range.{InRange}
use Rattle.alg_numerals.specs.Comparing.{allows, DifferenceInRange}
use Rattle.alg_numerals.proofs.WholeLemmas.{wholes}
use Rattle.alg_numerals.proofs.RelationLemmas.{relations}

-- two numbers that aren't below 0
pub sizes-hold : (r : Rel) (m n : ℕ) → allows r (int_cmp (pos m) (pos n)) ≡ true → relation_holds r m n ≡ true
sizes-hold Eq m n h = cc
sizes-hold Ne m n h = grind (arith, nat_tests, h)
sizes-hold Lt m n h = grind (arith, nat_tests, h)
sizes-hold Le m n h = grind (arith, nat_tests, h)
sizes-hold Dvd m n h = cc

-- two numbers below 0
pub minus-differ : (m n : ℕ) → allows Ne (int_cmp (negsuc m) (negsuc n)) ≡ true → relation_holds Ne (suc m) (suc n) ≡ true
minus-differ m n h = grind (arith, nat_tests, h)

pub minus-less : (m n : ℕ) → allows Lt (int_cmp (negsuc m) (negsuc n)) ≡ true → relation_holds Lt (suc n) (suc m) ≡ true
minus-less m n h = grind (arith, nat_tests, h)

pub minus-at_most : (m n : ℕ) → allows Le (int_cmp (negsuc m) (negsuc n)) ≡ true → relation_holds Le (suc n) (suc m) ≡ true
minus-at_most m n h = grind (arith, nat_tests, h)

-- one number below 0
pub not-below : (m n : ℕ) → allows Lt (int_cmp (pos m) (negsuc n)) ≡ true → ⊥
not-below m n h = cc

pub not-at_most : (m n : ℕ) → allows Le (int_cmp (pos m) (negsuc n)) ≡ true → ⊥
not-at_most m n h = cc

pub sizes-add : (m n : ℕ) → InRange (pos m -ℤ negsuc n) → suc n + m < 2 ^ 127
sizes-add m n h = omega (arith, ints, h)

pub minus-sizes-add : (m n : ℕ) → InRange (negsuc m -ℤ pos n) → suc m + n < 2 ^ 127
minus-sizes-add m n h = omega (arith, ints, h)

pub ruleset comparisons = (wholes, relations, sizes-hold, minus-differ, minus-less, minus-at_most, not-below, not-at_most, sizes-add, minus-sizes-add)
