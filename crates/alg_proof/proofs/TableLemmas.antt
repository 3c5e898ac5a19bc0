-- Rows that stand under their names.
use Rattle.std.proofs.Common.{◌≡◌, ℕ, List, [], ◌∷◌, ◌++◌, map, All, Bool, true, false, cond, Option, Some, None, refl, ap, ap₂, sym, ◌∙◌, subst, if◌then◌else◌, nat_eq}
use Rattle.std.specs.Prelude.{bytes_eq, option_map}
use Rattle.std.specs.Map.{lookup}
use Rattle.std.specs.Cmp.Lexicographic.{pointwise, same_text, other_text}
use Rattle.std.proofs.lemmas.List.{map-append}
use Rattle.std.proofs.lemmas.List.Elements.{All-push}
use Rattle.alg_law.specs.Rows.{Row}
use Rattle.alg_law.specs.Laws.{row_named}

-- what holds of each row of a table holds with one more
pub All-push_row : {X Y Z : Type 0} (f : X → Y) (g : Y → Z) (P : Z → Type 0) (xs new : List X) (x : X) → new ≡ xs ++ x ∷ [] → All P (map g (map f xs)) → P (g (f x)) → All P (map g (map f new))
All-push_row f g P xs new x e h p =
    let a : map f new ≡ map f xs ++ f x ∷ [] = ap (map f) e ∙ map-append f xs (x ∷ []) in
    let b : map g (map f new) ≡ map g (map f xs) ++ g (f x) ∷ [] = ap (map g) a ∙ map-append g (map f xs) (f x ∷ []) in
    subst (All P) (sym b) (All-push P (map g (map f xs)) (g (f x)) h p)

-- two maps that agree agree with one more
pub maps-push : {X Y : Type 0} (f g : X → Y) (xs new : List X) (x : X) → new ≡ xs ++ x ∷ [] → map f xs ≡ map g xs → f x ≡ g x → map f new ≡ map g new
maps-push f g xs new x e h p = ap (map f) e ∙ (map-append f xs (x ∷ []) ∙ (ap₂ (λ ys y. ys ++ y ∷ []) h p ∙ (sym (map-append g xs (x ∷ [])) ∙ sym (ap (map g) e))))

turned-pick : (m n : List ℕ) (b c : Bool) → b ≡ pointwise nat_eq m n → c ≡ pointwise nat_eq n m → b ≡ c
turned-pick m n true true e f = refl
turned-pick m n true false e f = absurd (other_text n m f (sym (same_text m n e)))
turned-pick m n false true e f = absurd (other_text m n e (sym (same_text n m f)))
turned-pick m n false false e f = refl

turned : (m n : List ℕ) → pointwise nat_eq m n ≡ pointwise nat_eq n m
turned m n = turned-pick m n (pointwise nat_eq m n) (pointwise nat_eq n m) refl refl

pick : {V : Type 0} (r : V → Row) (b c : Bool) (v : V) (o : Option V) (p : Option Row) → b ≡ c → option_map r o ≡ p → option_map r (cond b (Some v) o) ≡ (if c then Some (r v) else p)
pick r true true v o p e h = refl
pick r true false v o p e h = cc
pick r false true v o p e h = cc
pick r false false v o p e h = h

-- where each entry's key is the name of its row, a look at the keys finds the first row with the name
module _ {K V L : Type 0} (key : K → List ℕ) (f : V → L) (g : L → Row) where
  pub looked_up : (es : List (K × V)) (n : List ℕ) → map (λ e. key e.0) es ≡ map (λ e. (g (f e.1)).name) es → option_map (λ v. g (f v)) (lookup (λ k. bytes_eq n (key k)) es) ≡ row_named (map g (map (λ e. f e.1) es)) n
  looked_up [] n h = refl
  looked_up (e ∷ es) n h =
      let here : key e.0 ≡ (g (f e.1)).name = cc in
      let later : map (λ d. key d.0) es ≡ map (λ d. (g (f d.1)).name) es = cc in
      pick (λ v. g (f v)) (bytes_eq n (key e.0)) (pointwise nat_eq (g (f e.1)).name n) e.1 (lookup (λ k. bytes_eq n (key k)) es) (row_named (map g (map (λ d. f d.1) es)) n)
      (ap (bytes_eq n) here ∙ turned n (g (f e.1)).name) (looked_up es n later)

  no_row : (o : Option V) → option_map (λ v. g (f v)) o ≡ None → o ≡ None
  no_row None h = refl
  no_row (Some v) h = cc

  pub none_looked_up : (es : List (K × V)) (n : List ℕ) → map (λ e. key e.0) es ≡ map (λ e. (g (f e.1)).name) es → row_named (map g (map (λ e. f e.1) es)) n ≡ None → lookup (λ k. bytes_eq n (key k)) es ≡ None
  none_looked_up es n h none = no_row _ (looked_up es n h ∙ none)
