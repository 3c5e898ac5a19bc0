-- Powers of whole numbers, with their values.
use Rattle.std.specs.Prelude.{◌≡◌, ℕ, ℤ}
use Rattle.std.specs.Int.{int_pow}
use Rattle.alg_terms.specs.declared.sorts.Sort.{Sort}
use Rattle.alg_terms.specs.declared.sorts.Sort.TheVariants.{Nat}
use Rattle.alg_terms.specs.Tree.{Lit}
use Rattle.alg_build.specs.Book.{Book}
use Rattle.alg_build.specs.Rewriting.{Turns}
use Rattle.alg_rows.specs.Operations.{power_tree}
use Rattle.alg_numerals.specs.WholeTree.{whole_tree}
use Rattle.alg_powers.specs.declared.powers.Power.{Power}

-- the value is the power, and the rewriting leads to its tree
pub record IsPower (b : Book) (s : Sort) (x : ℤ) (n : ℕ) (p : Power) : Type 0 where
  pub value : p.value ≡ int_pow x n
  pub turns : Turns b s p.by (power_tree s (whole_tree s x) (Lit Nat n)) (whole_tree s (int_pow x n))
