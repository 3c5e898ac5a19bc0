-- When a line may compute with numerals.
use Rattle.std.specs.Prelude.{◌≡◌, ◌∷◌, [], ℤ, List, Some, true}
use Rattle.alg_terms.specs.declared.sorts.Sort.{Sort}
use Rattle.alg_terms.specs.declared.symbols.Sym.{Sym}
use Rattle.alg_terms.specs.Symbols.{is_integral}
use Rattle.alg_law.specs.declared.marks.Mark.TheVariants.{Good}
use Rattle.alg_law.specs.WellSorted.{head_mark, sort_mark}
use Rattle.alg_proof.specs.Computations.{are_small, divides_next, has_numerals, is_small_integer, sorts_like, value_at}
use Rattle.alg_proof.specs.Steps.{name_mark}
use Rattle.alg_build.specs.Book.{Book}

-- the symbol has a value at these numerals of the sort, and no number is too large
pub record Computes (b : Book) (f : Sym) (s : Sort) (xs : List ℤ) : Type 0 where
  pub name : name_mark b.theory.declarations f ≡ Good
  pub known : sort_mark b.theory.declarations s ≡ Good
  pub head : head_mark b.theory.declarations f s (sorts_like s xs) ≡ Good
  pub numerals : has_numerals b.theory.declarations s xs ≡ true
  pub small : are_small xs ≡ true
  pub value : ℤ
  pub is : value_at s f xs ≡ Some value
  pub small_value : is_small_integer value ≡ true

-- the first of these numerals of the sort divides the second, and no number is too large
pub record Divides (b : Book) (s : Sort) (x y : ℤ) : Type 0 where
  pub known : sort_mark b.theory.declarations s ≡ Good
  pub integral : is_integral s ≡ true
  pub numerals : has_numerals b.theory.declarations s (x ∷ y ∷ []) ≡ true
  pub small : are_small (x ∷ y ∷ []) ≡ true
  pub divides : divides_next (x ∷ y ∷ []) ≡ true
