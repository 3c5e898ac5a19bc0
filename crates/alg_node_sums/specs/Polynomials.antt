-- What lines of polynomials rest on.
use Rattle.std.specs.Prelude.{◌≡◌, true}
use Rattle.alg_terms.specs.declared.sorts.Sort.{Sort}
use Rattle.alg_law.specs.declared.classes.Class.TheVariants.{AddMonoid, AddCommMonoid, AddGroup, AddCommGroup, Semigroup, CommSemigroup, Monoid, CommMonoid, Semiring, CommSemiring, Ring}
use Rattle.alg_law.specs.declared.marks.Mark.TheVariants.{Good}
use Rattle.alg_law.specs.Having.{has_class}
use Rattle.alg_law.specs.WellSorted.{sort_mark}
use Rattle.alg_lemma.specs.Library.{HoldsLibrary}
use Rattle.alg_proof.specs.Steps.{Theory}

-- a commutative semiring, with all classes that it gives
pub record HasPolynomials (t : Theory) (s : Sort) : Type 0 where
  pub known : sort_mark t.declarations s ≡ Good
  pub library : HoldsLibrary t.lemmas
  pub add_monoid : has_class t.declarations s AddMonoid ≡ true
  pub add_comm_monoid : has_class t.declarations s AddCommMonoid ≡ true
  pub semigroup : has_class t.declarations s Semigroup ≡ true
  pub comm_semigroup : has_class t.declarations s CommSemigroup ≡ true
  pub monoid : has_class t.declarations s Monoid ≡ true
  pub comm_monoid : has_class t.declarations s CommMonoid ≡ true
  pub semiring : has_class t.declarations s Semiring ≡ true
  pub comm_semiring : has_class t.declarations s CommSemiring ≡ true

-- a commutative ring
pub record HasNegations (t : Theory) (s : Sort) : Type 0 where
  pub polynomials : HasPolynomials t s
  pub add_group : has_class t.declarations s AddGroup ≡ true
  pub add_comm_group : has_class t.declarations s AddCommGroup ≡ true
  pub ring : has_class t.declarations s Ring ≡ true
