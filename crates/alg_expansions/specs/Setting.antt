-- What the expansion of a tree asks of a sort.
use Rattle.std.specs.Prelude.{Bool, ◌&&◌, List}
use Rattle.alg_terms.specs.declared.sorts.Sort.{Sort}
use Rattle.alg_law.specs.declared.classes.Class.TheVariants.{CommSemiring, Field, CharZero}
use Rattle.alg_law.specs.Declarations.{Declaration}
use Rattle.alg_law.specs.Having.{has_class}

pub record Setting : Type 0 where
  -- it is a commutative semiring
  pub is_ring : Sort → Bool
  -- it is a field of characteristic zero, where each number but 0 has an inverse that is a coefficient
  pub is_exact : Sort → Bool

-- the setting of declarations
abbrev pub setting_of : List Declaration → Setting
setting_of ds = record { is_ring = λ s. has_class ds s CommSemiring; is_exact = λ s. has_class ds s Field && has_class ds s CharZero }
