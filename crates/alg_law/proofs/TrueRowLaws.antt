-- What each true row rests on.
use Rattle.std.specs.Prelude.{◌≡◌, ◌≢◌, ℕ, Bool, true, ◌&&◌, List, map, get_or, ℤ, pos, ◌≤ℤ◌}
use Rattle.std.proofs.Common.{sym, subst}
use Rattle.std.proofs.lemmas.Bool.{and_parts}
use Rattle.alg_terms.specs.declared.sorts.Sort.{Sort}
use Rattle.alg_terms.specs.declared.sorts.Sort.TheVariants.{Nat, Rat}
use Rattle.alg_terms.specs.Tree.{Tree, Lit}
use Rattle.alg_law.specs.declared.classes.Class.TheVariants.{Group, Field}
use Rattle.alg_law.specs.Declarations.{Declaration}
use Rattle.alg_law.specs.Having.{has_class}
use Rattle.alg_law.specs.IntegerBases.{IsIntegerBase}
use Rattle.alg_law.proofs.IntegerTrees.{no_group, no_field, natural_letter}
use Rattle.alg_law.specs.IntegerValues.{value_of}
use Rattle.alg_law.specs.Patterns.{letter_sort}
use Rattle.alg_law.specs.Rows.{Row, letters_of, MayFill}
use Rattle.alg_law.specs.Valuations.{Valuation, IsValuation}

-- the integer that the letter at a place of the row's letters stands for
abbrev pub letter : Valuation → List Tree → ℕ → ℤ
letter v with k = value_of v (get_or with k (Lit Nat 0))

-- a letter of ℕ stands for an integer that is at least 0
pub natural_at : (ds : List Declaration) (v : Valuation) (r : Row) (s : Sort) (with : List Tree) (k : ℕ) → IsValuation ds v → MayFill ds r s with
    → get_or (map (letter_sort s) (letters_of r)) k Nat ≡ Nat → pos 0 ≤ℤ letter v with k
natural_at ds v r s with k val fill e = natural_letter ds v val with k fill.trees (subst (λ ss. get_or ss k Nat ≡ Nat) (sym fill.sorts) e)

-- a law of groups or of fields has no instance
pub not_of_group : {P : Type 0} (ds : List Declaration) (s : Sort) (rest : Bool) → IsIntegerBase ds → s ≢ Rat → (has_class ds s Group && rest) ≡ true → P
not_of_group ds s rest base beside e = absurd (no_group ds s base beside (and_parts (has_class ds s Group) rest e).0)

pub not_of_field : {P : Type 0} (ds : List Declaration) (s : Sort) (rest : Bool) → IsIntegerBase ds → s ≢ Rat → (has_class ds s Field && rest) ≡ true → P
not_of_field ds s rest base beside e = absurd (no_field ds s base beside (and_parts (has_class ds s Field) rest e).0)
