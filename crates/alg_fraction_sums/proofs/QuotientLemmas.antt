-- What a sort with quotients has.
use Rattle.std.proofs.Common.{◌≡◌, ℕ, zero, suc, ℤ, [], ◌∷◌, refl, true}
use Rattle.alg_terms.specs.declared.sorts.Sort.{Sort}
use Rattle.alg_terms.specs.declared.symbols.Sym.TheVariants.{Add}
use Rattle.alg_law.specs.declared.classes.Class.TheVariants.{AddGroup, AddMonoid, CommMonoid, Field, CharZero, Semiring}
use Rattle.alg_law.specs.declared.marks.Mark.TheVariants.{Good}
use Rattle.alg_law.specs.Having.{has_class}
use Rattle.alg_law.specs.WellSorted.{sort_mark}
use Rattle.alg_law.proofs.HavingLaws.{has_class-all}
use Rattle.alg_lemma.specs.Library.{HoldsLibrary}
use Rattle.alg_num.specs.Fraction.{Fraction}
use Rattle.alg_build.specs.Book.{Book}
use Rattle.alg_build.specs.Rewriting.{Heads}
use Rattle.alg_build.proofs.HeadFacts.{add-heads}
use Rattle.alg_build.proofs.Leading.{concludes-grows}
use Rattle.alg_build.proofs.Rewritings.{rewritings, grows-sorted}
use Rattle.alg_numerals.specs.Numerals.{HasLiterals, HasSigns, HasWhole}
use Rattle.alg_numerals.proofs.LiteralLemmas.{own-stands}
use Rattle.alg_numerals.proofs.WholeLemmas.{signs-whole}
use Rattle.alg_fractions.specs.Fractions.{HasFraction, HasQuotients, QuotientsOf}
use Rattle.alg_fractions.proofs.SizeLemmas.{grows-quotients}
use Rattle.alg_fractions.proofs.FractionLemmas.{quotients-fraction}

module _ (b : Book) (s : Sort) (h : HasQuotients b s) where
  pub quotients-signs : HasSigns b s
  quotients-signs = h.signs

  pub quotients-literals : HasLiterals b s
  quotients-literals = h.signs.literals

  pub quotients-whole : (z : ℤ) → HasWhole b s z
  quotients-whole z = signs-whole b s z h.signs

  pub quotients-library : HoldsLibrary b.theory.lemmas
  quotients-library = h.signs.literals.library

  pub quotients-known : sort_mark b.theory.declarations s ≡ Good
  quotients-known = h.signs.literals.known

  pub quotients-semiring : has_class b.theory.declarations s Semiring ≡ true
  quotients-semiring = h.signs.literals.semiring

  pub quotients-add_group : has_class b.theory.declarations s AddGroup ≡ true
  quotients-add_group = h.signs.group

  pub quotients-field : has_class b.theory.declarations s Field ≡ true
  quotients-field = h.field

  pub quotients-char_zero : has_class b.theory.declarations s CharZero ≡ true
  quotients-char_zero = h.char_zero

  pub quotients-add_monoid : has_class b.theory.declarations s AddMonoid ≡ true
  quotients-add_monoid = has_class-all b.theory.declarations s Semiring AddMonoid refl h.signs.literals.semiring

  pub quotients-comm_monoid : has_class b.theory.declarations s CommMonoid ≡ true
  quotients-comm_monoid = has_class-all b.theory.declarations s Field CommMonoid refl h.field

-- one of two fractions isn't whole
either-from : (b : Book) (s : Sort) (d e : ℕ) → ((d ≡ 1) × (e ≡ 1) → ⊥) → QuotientsOf b s d → QuotientsOf b s e → HasQuotients b s
either-from b s zero e n h k = h
either-from b s (suc zero) zero n h k = k
either-from b s (suc zero) (suc zero) n h k = absurd (n (refl, refl))
either-from b s (suc zero) (suc (suc e)) n h k = k
either-from b s (suc (suc d)) e n h k = h

pub either-quotients : (b : Book) (s : Sort) (x y : Fraction) → ((x.denominator ≡ 1) × (y.denominator ≡ 1) → ⊥) → HasFraction b s x → HasFraction b s y → HasQuotients b s
either-quotients b s x y n h k = either-from b s x.denominator y.denominator n h.quotients k.quotients

pub sum-heads : (b : Book) (s : Sort) → HasQuotients b s → Heads b Add s (s ∷ s ∷ [])
sum-heads b s h = add-heads b s (quotients-known b s h) (quotients-add_monoid b s h)

pub ruleset quotients = (rewritings, concludes-grows, own-stands, grows-quotients, quotients-fraction, quotients-signs, quotients-literals, quotients-whole, quotients-library, quotients-known, quotients-semiring, quotients-add_group, quotients-field, quotients-char_zero, quotients-add_monoid, quotients-comm_monoid)
