-- Lists of one sort.
use Rattle.std.proofs.Common.{◌≡◌, ℕ, zero, suc, ◌≤◌, ◌<◌, refl, ap, arith, length, Some, None}
use Rattle.std.specs.Prelude.{slice_get}
use Rattle.alg_terms.specs.declared.sorts.Sort.{Sort}
use Rattle.alg_elaborate.specs.Meanings.{times}

pub length_times : (n : ℕ) (k : Sort) → length (times n k) ≡ n
length_times zero k = refl
length_times (suc n) k = ap suc (length_times n k)

pub get_times : (n i : ℕ) (k : Sort) → i < n → slice_get (times n k) i ≡ Some k
get_times zero i k l = absurd (omega arith)
get_times (suc n) zero k l = refl
get_times (suc n) (suc i) k l = get_times n i k (omega arith)

pub get_past : (n i : ℕ) (k : Sort) → n ≤ i → slice_get (times n k) i ≡ None
get_past zero i k l = refl
get_past (suc n) zero k l = absurd (omega arith)
get_past (suc n) (suc i) k l = get_past n i k (omega arith)
