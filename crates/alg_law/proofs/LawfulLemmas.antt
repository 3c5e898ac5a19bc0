-- What holds in a lawful list of declarations.
use Rattle.std.proofs.Common.{◌≡◌, Bool, true, false, ◌&&◌, ◌||◌, List, refl}
use Rattle.std.proofs.lemmas.Bool.{and_parts}
use Rattle.std.specs.Prelude.{not}
use Rattle.alg_terms.specs.declared.sorts.Sort.{Sort}
use Rattle.alg_law.specs.declared.classes.Class.TheVariants.{Group, AddGroup, Semiring, CommSemiring, Ring, CommRing, LinearOrder, CharZero, IsStrictOrderedRing}
use Rattle.alg_law.specs.Declarations.{Declaration}
use Rattle.alg_law.specs.Having.{has_class}
use Rattle.alg_law.specs.Lawful.{IsLawful}

from_not : (x y : Bool) → (not x || y) ≡ true → x ≡ true → y ≡ true
from_not true y e h = e
from_not false y e h = cc

from_both : (x z y : Bool) → (not (x && z) || y) ≡ true → x ≡ true → z ≡ true → y ≡ true
from_both true true y e h k = e
from_both true false y e h k = cc
from_both false z y e h k = cc

not_both : (x y : Bool) → not (x && y) ≡ true → x ≡ true → y ≡ false
not_both true true e h = cc
not_both true false e h = refl
not_both false y e h = cc

module _ (ds : List Declaration) (lawful : IsLawful ds) (s : Sort) where
  pub char_zero-semiring : has_class ds s CharZero ≡ true → has_class ds s Semiring ≡ true
  char_zero-semiring = from_not _ _ (and_parts _ _ (and_parts _ _ (and_parts _ _ (lawful s)).0).0).0

  pub ordered-parts : has_class ds s IsStrictOrderedRing ≡ true → (has_class ds s Semiring ≡ true) × (has_class ds s LinearOrder ≡ true)
  ordered-parts h = and_parts _ _ (from_not _ _ (and_parts _ _ (and_parts _ _ (and_parts _ _ (lawful s)).0).0).1 h)

  pub group-no_semiring : has_class ds s Group ≡ true → has_class ds s Semiring ≡ false
  group-no_semiring = not_both _ _ (and_parts _ _ (and_parts _ _ (lawful s)).0).1

  pub semiring-ring : has_class ds s Semiring ≡ true → has_class ds s AddGroup ≡ true → has_class ds s Ring ≡ true
  semiring-ring = from_both _ _ _ (and_parts _ _ (and_parts _ _ (lawful s)).1).0

  pub comm_semiring-comm_ring : has_class ds s CommSemiring ≡ true → has_class ds s AddGroup ≡ true → has_class ds s CommRing ≡ true
  comm_semiring-comm_ring = from_both _ _ _ (and_parts _ _ (and_parts _ _ (lawful s)).1).1
