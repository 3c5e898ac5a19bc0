-- The words of the map, and those of the names.
use Rattle.std.proofs.Common.{◌≡◌, ℕ, List, [], ◌∷◌, Bool, true, false, cond, ◌||◌, Option, Some, None, refl, sym, ap, ◌∙◌, map}
use Rattle.std.specs.Map.{lookup}
use Rattle.std.specs.Prelude.{bytes_eq, is_some, option_map}
use Rattle.alg_binders.specs.Binders.{is_among}

either : {A : Type 0} (b : Bool) (a : A) (more : Bool) (o : Option A) → more ≡ is_some o → (b || more) ≡ is_some (cond b (Some a) o)
either true a more o h = refl
either false a more o h = h

pub among_looked_up : {K A : Type 0} (f : K → List ℕ) (es : List (K × A)) (x : List ℕ) → is_among (map (λ e. f e.0) es) x ≡ is_some (lookup (λ k. bytes_eq x (f k)) es)
among_looked_up f [] x = refl
among_looked_up f (e ∷ es) x = either (bytes_eq x (f e.0)) e.1 (is_among (map (λ d. f d.0) es) x) (lookup (λ k. bytes_eq x (f k)) es) (among_looked_up f es x)

no_some : {A : Type 0} (o : Option A) → is_some o ≡ false → o ≡ None
no_some None h = refl
no_some (Some a) h = cc

pub none_looked_up : {K A : Type 0} (f : K → List ℕ) (es : List (K × A)) (x : List ℕ) → is_among (map (λ e. f e.0) es) x ≡ false → lookup (λ k. bytes_eq x (f k)) es ≡ None
none_looked_up f es x h = no_some _ (sym (among_looked_up f es x) ∙ h)

pub some_through : {A B : Type 0} (f : A → B) (o : Option A) (p : Option B) → option_map f o ≡ p → is_some o ≡ is_some p
some_through f None p e = ap is_some e
some_through f (Some a) p e = ap is_some e
