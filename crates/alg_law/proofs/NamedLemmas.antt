-- A row looked for in one list of rows after another.
use Rattle.std.specs.Prelude.{◌≡◌, ℕ, zero, suc, ◌+◌, List, [], ◌∷◌, drop, map, get_or, refl}
use Rattle.std.proofs.Common.{add-one}
use Rattle.alg_law.specs.Rows.{Row}
use Rattle.alg_law.specs.Laws.{rows_in, row_named}
use Rattle.alg_law.specs.RowNames.{first_some}
use Rattle.alg_law.proofs.RowNameLaws.{row_named-append}

by_suc : {X : Type 0} (f : X → List Row) (d : X) (n : List ℕ) → f d ≡ [] → (xs : List X) (i : ℕ)
    → row_named (rows_in (map f (drop i xs))) n ≡ first_some (row_named (f (get_or xs i d)) n) (row_named (rows_in (map f (drop (suc i) xs))) n)
by_suc f d n e [] zero = rw e refl
by_suc f d n e [] (suc i) = rw e refl
by_suc f d n e (x ∷ xs) zero = row_named-append (f x) (rows_in (map f xs)) n
by_suc f d n e (x ∷ xs) (suc i) = by_suc f d n e xs i

-- it is looked for at place i, then after it
pub row_named-at : {X : Type 0} (f : X → List Row) (d : X) (n : List ℕ) → f d ≡ [] → (xs : List X) (i : ℕ)
    → row_named (rows_in (map f (drop i xs))) n ≡ first_some (row_named (f (get_or xs i d)) n) (row_named (rows_in (map f (drop (i + 1) xs))) n)
row_named-at f d n e xs i = rw (add-one i) (by_suc f d n e xs i)
