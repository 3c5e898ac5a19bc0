-- The words of the map, and those of the names.
use Rattle.std.proofs.Common.{◌≡◌, ℕ, List, [], ◌∷◌, Some, refl, ap, map}
use Rattle.std.specs.Map.{lookup}
use Rattle.std.specs.Prelude.{cond, bytes_eq}
use Rattle.alg_names.specs.Found.{found}

pub found_looked_up : {K A : Type 0} (f : K → List ℕ) (es : List (K × A)) (x : List ℕ) → found (map (λ e. (f e.0, e.1)) es) x ≡ lookup (λ k. bytes_eq x (f k)) es
found_looked_up f [] x = refl
found_looked_up f (e ∷ es) x = ap (cond (bytes_eq x (f e.0)) (Some e.1)) (found_looked_up f es x)
