-- How a form is stored: its tokens in the order of a stack machine.
use Rattle.std.specs.Prelude.{◌≡◌, ℕ, zero, suc, List, [], ◌∷◌, ◌++◌, refl}
use Rattle.std.proofs.Common.{ap, sym, ◌∙◌, append_assoc}
use Rattle.std.specs.Coded.{Coded, code_by, coded×, coded_ℕ, coded_list}
use Rattle.alg_horner.specs.Form.{Form, constant, skip, sum}

abbrev pub Token : Type 0 → Type 0
Token C = ℕ × (ℕ × C)

abbrev pub tokens : {C : Type 0} → C → Form C → List (Token C)
tokens n (constant c) = (0, (0, c)) ∷ []
tokens n (skip k h) = tokens n h ++ (1, (k, n)) ∷ []
tokens n (sum p i q) = tokens n p ++ (tokens n q ++ (2, (i, n)) ∷ [])

abbrev pub on_one : {C : Type 0} → ℕ → List (Form C) → List (Form C)
on_one k [] = []
on_one k (h ∷ s) = skip k h ∷ s

abbrev pub on_two : {C : Type 0} → ℕ → List (Form C) → List (Form C)
on_two i [] = []
on_two i (q ∷ []) = []
on_two i (q ∷ p ∷ s) = sum p i q ∷ s

abbrev pub step : {C : Type 0} → ℕ → ℕ → C → List (Form C) → List (Form C)
step zero k c s = constant c ∷ s
step (suc zero) k c s = on_one k s
step (suc (suc n)) k c s = on_two k s

abbrev pub run : {C : Type 0} → List (Token C) → List (Form C) → List (Form C)
run [] s = s
run (t ∷ ts) s = run ts (step t.0 t.1.0 t.1.1 s)

abbrev pub top : {C : Type 0} → C → List (Form C) → Form C
top n [] = constant n
top n (h ∷ s) = h

run-tokens : {C : Type 0} (n : C) (h : Form C) (ts : List (Token C)) (s : List (Form C)) → run (tokens n h ++ ts) s ≡ run ts (h ∷ s)
run-tokens n (constant c) ts s = refl
run-tokens n (skip k h) ts s = ap (λ u. run u s) (append_assoc (tokens n h) ((1, (k, n)) ∷ []) ts) ∙ run-tokens n h ((1, (k, n)) ∷ ts) s
run-tokens n (sum p i q) ts s =
    ap (λ u. run u s) (append_assoc (tokens n p) (tokens n q ++ (2, (i, n)) ∷ []) ts ∙ ap (λ u. tokens n p ++ u) (append_assoc (tokens n q) ((2, (i, n)) ∷ []) ts))
    ∙ run-tokens n p (tokens n q ++ (2, (i, n)) ∷ ts) s
    ∙ run-tokens n q ((2, (i, n)) ∷ ts) (p ∷ s)

end_none : {A : Type 0} (l : List A) → l ++ [] ≡ l
end_none [] = refl
end_none (x ∷ l) = ap (λ u. x ∷ u) (end_none l)

pub back : {C : Type 0} (n : C) (h : Form C) → top n (run (tokens n h) []) ≡ h
back n h = ap (λ u. top n (run u [])) (let e = end_none (tokens n h) in sym e) ∙ ap (top n) (run-tokens n h [] [])

abbrev pub form_code : {C : Type 0} → C → Coded C → Coded (Form C)
form_code {C} n c = code_by (List (Token C)) (coded_list (coded× coded_ℕ (coded× coded_ℕ c))) (tokens n) (λ u. top n (run u [])) (back n)
