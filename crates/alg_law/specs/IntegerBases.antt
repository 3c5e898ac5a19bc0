-- The bases whose sorts other than ℚ may all be read as the integers.
use Rattle.std.specs.Prelude.{◌≡◌, ◌≢◌, ℕ, false, List, All, Some, slice_get}
use Rattle.alg_terms.specs.declared.sorts.Sort.{Sort}
use Rattle.alg_terms.specs.declared.sorts.Sort.TheVariants.{Rat, Decl}
use Rattle.alg_law.specs.declared.classes.Class.TheVariants.{Group, Field}
use Rattle.alg_law.specs.Declarations.{Declaration}
use Rattle.alg_law.specs.Having.{has_class}
use Rattle.alg_law.specs.WellSorted.{function_of}

-- no type variable has Group or Field, and no declared function has ℚ among its sorts
pub record IsIntegerBase (ds : List Declaration) : Type 0 where
  pub no_group : (k : ℕ) → has_class ds (Decl k) Group ≡ false
  pub no_field : (k : ℕ) → has_class ds (Decl k) Field ≡ false
  pub no_rational_argument : (k : ℕ) (ss : List Sort) (s : Sort) → function_of (slice_get ds k) ≡ Some (ss, s) → All (λ t. t ≢ Rat) ss
  pub no_rational_value : (k : ℕ) (ss : List Sort) (s : Sort) → function_of (slice_get ds k) ≡ Some (ss, s) → s ≢ Rat
