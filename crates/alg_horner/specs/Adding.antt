-- How two forms are taken apart for their sum.
use Rattle.std.specs.Prelude.{◌≡◌, ℕ, ◌+◌, ◌-◌, ◌*◌, ◌<◌, ◌≤◌, cond, ◌==◌, nat_le, List, ◌∷◌, max, take, drop}
use Rattle.alg_sums.specs.Coefficients.{Coefficients}
use Rattle.alg_horner.specs.Form.{Form, coefficient, atoms, degree, shifted, nodes, weigh, is_one, first, others}

-- the sum's coefficient
abbrev pub total : {C : Type 0} → Coefficients C → Form C → Form C → List ℕ → C
total r f g m = r.plus (coefficient r f m) (coefficient r g m)

-- a coefficient where x is not in the monomial, of the others
abbrev pub at_others : {C : Type 0} → Coefficients C → (List ℕ → C) → List ℕ → C
at_others r f m = cond (first m == 0) (f (others m)) r.nil

abbrev pub at_power : {C : Type 0} → Coefficients C → ℕ → (List ℕ → C) → List ℕ → C
at_power r i f m = cond (nat_le i (first m)) (f ((first m - i) ∷ others m)) r.nil

-- f + g is the constant c + d
pub record IsConstants {C : Type 0} (r : Coefficients C) (f g : Form C) (c d : C) : Type 0 where
  pub map : (m : List ℕ) → total r f g m ≡ cond (is_one m) (r.plus c d) r.nil
  pub weight : (w : C → ℕ) → w c + w d ≤ weigh w f + weigh w g

-- f + g is f' + g' over the atoms after the first k
pub record IsUnder {C : Type 0} (r : Coefficients C) (f g : Form C) (k : ℕ) (f' g' : Form C) : Type 0 where
  pub map : (m : List ℕ) → total r f g m ≡ cond (is_one (take k m)) (total r f' g' (drop k m)) r.nil
  pub atoms : k + max (atoms f') (atoms g') ≤ max (atoms f) (atoms g)
  pub degree : (v : ℕ → ℕ) → max (degree (shifted k v) f') (degree (shifted k v) g') ≤ max (degree v f) (degree v g)
  pub nodes : nodes f' + nodes g' < nodes f + nodes g
  pub weight : (w : C → ℕ) → w r.nil ≡ 0 → weigh w f' + weigh w g' ≤ weigh w f + weigh w g

-- f + g is p * x^i + (q + t)
pub record IsBeside {C : Type 0} (r : Coefficients C) (f g p : Form C) (i : ℕ) (q t : Form C) : Type 0 where
  pub power : 0 < i
  pub map : (m : List ℕ) → total r f g m ≡ r.plus (at_power r i (coefficient r p) m) (at_others r (total r q t) m)
  pub atoms : max (atoms p) (max (atoms q) (atoms t) + 1) ≤ max (atoms f) (atoms g)
  pub degree : (v : ℕ → ℕ) → max (degree v p + i * v 0) (max (degree (shifted 1 v) q) (degree (shifted 1 v) t)) ≤ max (degree v f) (degree v g)
  pub nodes : nodes q + nodes t < nodes f + nodes g
  pub weight : (w : C → ℕ) → w r.nil ≡ 0 → weigh w p + (weigh w q + weigh w t) ≤ weigh w f + weigh w g

-- f + g is (p + s) * x^i + (q + t)
pub record IsNodes {C : Type 0} (r : Coefficients C) (f g p s : Form C) (i : ℕ) (q t : Form C) : Type 0 where
  pub power : 0 < i
  pub map : (m : List ℕ) → total r f g m ≡ r.plus (at_power r i (total r p s) m) (at_others r (total r q t) m)
  pub atoms : max (max (atoms p) (atoms s)) (max (atoms q) (atoms t) + 1) ≤ max (atoms f) (atoms g)
  pub degree : (v : ℕ → ℕ) → max (max (degree v p) (degree v s) + i * v 0) (max (degree (shifted 1 v) q) (degree (shifted 1 v) t)) ≤ max (degree v f) (degree v g)
  pub inner : nodes p + nodes s < nodes f + nodes g
  pub rest : nodes q + nodes t < nodes f + nodes g
  pub weight : (w : C → ℕ) → w r.nil ≡ 0 → (weigh w p + weigh w s) + (weigh w q + weigh w t) ≤ weigh w f + weigh w g

-- t is f over the atoms after the first, which does not occur in f
pub record IsLater {C : Type 0} (r : Coefficients C) (f t : Form C) : Type 0 where
  pub map : (m : List ℕ) → coefficient r f m ≡ at_others r (coefficient r t) m
  pub atoms : atoms t + 1 ≤ max 1 (atoms f)
  pub degree : (v : ℕ → ℕ) → degree (shifted 1 v) t ≤ degree v f
  pub nodes : nodes t ≤ nodes f
  pub weight : (w : C → ℕ) → w r.nil ≡ 0 → weigh w t ≤ weigh w f
