-- A sort that has a fraction's numeral by its classes has what the lines ask for.
use Rattle.std.proofs.Common.{◌≡◌, ℕ, zero, suc, ℤ, pos, negsuc, refl, ◌⊎◌, inl, inr, arith}
use Rattle.alg_terms.specs.declared.sorts.Sort.{Sort}
use Rattle.alg_num.specs.Fraction.{Fraction}
use Rattle.alg_law.specs.declared.classes.Class.TheVariants.{Ring, AddGroup, AddCommGroup}
use Rattle.alg_law.specs.declared.marks.Mark.TheVariants.{Good}
use Rattle.alg_law.specs.WellSorted.{sort_mark}
use Rattle.alg_law.proofs.HavingLaws.{has_class-all}
use Rattle.alg_lemma.specs.Library.{HoldsLibrary}
use Rattle.alg_build.specs.Book.{Book}
use Rattle.alg_numerals.specs.Numerals.{HasSigns, SignsOf}
use Rattle.alg_value_laws.specs.Fitting.{Fits, IsRing, IsFieldOfZero}
use Rattle.alg_value_laws.proofs.Fractions.{field_of, char_zero_of, ring_of, semiring_of}
use Rattle.alg_fractions.specs.Fractions.{HasFraction, HasQuotients, QuotientsOf}

module _ (b : Book) (s : Sort) (known : sort_mark b.theory.declarations s ≡ Good) (library : HoldsLibrary b.theory.lemmas) where
  pub ring_signs : IsRing b.theory.declarations s → HasSigns b s
  ring_signs r = record {
    literals = record { known = known; semiring = semiring_of b.theory.declarations s r; library = library };
    group = has_class-all b.theory.declarations s Ring AddGroup refl r;
    commutative = has_class-all b.theory.declarations s Ring AddCommGroup refl r;
    ring = r;
  }

  pub field_quotients : IsFieldOfZero b.theory.declarations s → HasQuotients b s
  field_quotients f = record { signs = ring_signs (ring_of b.theory.declarations s f); field = field_of b.theory.declarations s f; char_zero = char_zero_of b.theory.declarations s f }

  signs_of : (z : ℤ) → IsRing b.theory.declarations s ⊎ ((n : ℕ) × (z ≡ pos n)) → SignsOf b s z
  signs_of (pos n) h = tt
  signs_of (negsuc n) (inl r) = ring_signs r
  signs_of (negsuc n) (inr q) = let e : negsuc n ≡ pos q.0 = q.1 in cc

  quotients_of : (d : ℕ) → IsFieldOfZero b.theory.declarations s ⊎ (d ≡ 1) → QuotientsOf b s d
  quotients_of zero (inl f) = field_quotients f
  quotients_of zero (inr e) = absurd (omega (arith, e))
  quotients_of (suc zero) h = tt
  quotients_of (suc (suc d)) (inl f) = field_quotients f
  quotients_of (suc (suc d)) (inr e) = absurd (omega (arith, e))

  pub fits_fraction : (p : Fraction) → Fits b.theory.declarations s p → HasFraction b s p
  fits_fraction p f = record {
    whole = record { literals = record { known = known; semiring = f.semiring; library = library }; signs = signs_of p.numerator f.sign };
    quotients = quotients_of p.denominator f.over;
  }
