-- What the variables and functions of a goal stand for when every sort is read as the integers.
use Rattle.std.specs.Prelude.{◌≡◌, ℕ, Bool, true, false, ◌&&◌, if◌then◌else◌, nat_eq, List, [], ◌∷◌, All, Some, slice_get, ℤ, pos, negsuc, ◌≤ℤ◌}
use Rattle.alg_terms.specs.declared.sorts.Sort.{Sort}
use Rattle.alg_terms.specs.declared.sorts.Sort.TheVariants.{Nat}
use Rattle.alg_law.specs.Declarations.{Declaration}
use Rattle.alg_law.specs.WellSorted.{variable_of, function_of}

-- the result of a declared function, by its number, at these arguments
pub record Listed : Type 0 where
  pub function : ℕ
  pub arguments : List ℤ
  pub result : ℤ

-- an integer for each declared variable, by its number, and results of the declared functions
pub record Valuation : Type 0 where
  pub variables : ℕ → ℤ
  pub results : List Listed

abbrev pub same_integer : ℤ → ℤ → Bool
same_integer (pos a) (pos b) = nat_eq a b
same_integer (pos a) (negsuc b) = false
same_integer (negsuc a) (pos b) = false
same_integer (negsuc a) (negsuc b) = nat_eq a b

abbrev pub same_integers : List ℤ → List ℤ → Bool
same_integers [] [] = true
same_integers [] (y ∷ ys) = false
same_integers (x ∷ xs) [] = false
same_integers (x ∷ xs) (y ∷ ys) = same_integer x y && same_integers xs ys

abbrev pub is_listed_at : Listed → ℕ → List ℤ → Bool
is_listed_at e k xs = nat_eq e.function k && same_integers e.arguments xs

-- the first result that is listed for the function at these arguments, and 0 where none is
abbrev pub result_at : List Listed → ℕ → List ℤ → ℤ
result_at [] k xs = pos 0
result_at (e ∷ es) k xs = if is_listed_at e k xs then e.result else result_at es k xs

-- the result is at least 0 where the function's value is of ℕ
abbrev pub IsResult : List Declaration → Listed → Type 0
IsResult ds e = (ss : List Sort) → function_of (slice_get ds e.function) ≡ Some (ss, Nat) → pos 0 ≤ℤ e.result

-- what is of ℕ is at least 0
pub record IsValuation (ds : List Declaration) (v : Valuation) : Type 0 where
  pub naturals : (d : ℕ) → variable_of (slice_get ds d) ≡ Some Nat → pos 0 ≤ℤ v.variables d
  pub results : All (IsResult ds) v.results
