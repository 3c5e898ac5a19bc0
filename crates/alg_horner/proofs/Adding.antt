-- How two forms are taken apart for their sum.
use Rattle.std.proofs.Common.{◌≡◌, ℕ, suc, cond, ◌+◌, ◌-◌, ◌<◌, ◌≤◌, ◌∷◌, take, drop, sym, ap, ap₂, ◌∙◌, subst, arith}
use Rattle.std.specs.Prelude.{◌==◌, nat_le}
use Rattle.alg_sums.specs.Coefficients.{Coefficients}
use Rattle.alg_sums.specs.Size.{size_of}
use Rattle.alg_sums.proofs.RingLaws.{plus_swap_middle}
use Rattle.alg_sums.proofs.Sizes.{size_nil}
use Rattle.alg_horner.specs.Form.{Form, constant, skip, sum, first, others, is_one, coefficient, shifted, nodes}
use Rattle.alg_horner.specs.Facts.{IsNormalOf, IsSumOf, CanSum, CanAdd}
use Rattle.alg_horner.specs.Adding.{at_others, at_power, IsConstants, IsUnder, IsBeside, IsNodes, IsLater}
use Rattle.alg_horner.proofs.Degrees.{degree-twice, split_power}
use Rattle.alg_horner.proofs.Maps.{cond_plus, in_skip, skip_suc, skip_twice, powers, zero_rest}

module _ {C : Type 0} (r : Coefficients C) where
  pub constants : (c d : C) → IsConstants r (constant c) (constant d) c d
  constants c d = record { map = λ m. cond_plus r (is_one m) c d; weight = λ w. omega arith }

  pub under_same : (k : ℕ) (f g : Form C) → IsUnder r (skip k f) (skip k g) k f g
  under_same k f g = record {
    map = λ m. cond_plus r (is_one (take k m)) (coefficient r f (drop k m)) (coefficient r g (drop k m));
    atoms = omega arith;
    degree = λ v. omega arith;
    nodes = omega arith;
    weight = λ w z. omega arith;
  }

  -- the same where each form has the map of the other
  pub under_left : (k j : ℕ) (f g t : Form C) → k ≤ j → IsNormalOf r (skip (j - k) g) t → IsUnder r (skip k f) (skip j g) k f t
  under_left k j f g t h n = record {
    map = λ m. ap (λ x. r.plus (coefficient r (skip k f) m) x) (ap (λ i. coefficient r (skip i g) m) (let e : j ≡ k + (j - k) = omega arith in e) ∙ skip_twice r k (j - k) g m ∙ ap (λ x. cond (is_one (take k m)) x r.nil) (sym (n.map (drop k m)))) ∙ cond_plus r (is_one (take k m)) (coefficient r f (drop k m)) (coefficient r t (drop k m));
    atoms = omega (arith, n.atoms, h);
    degree = λ v. omega (arith, n.degree (shifted k v), degree-twice v k (j - k) j g (let e : j ≡ k + (j - k) = omega (arith, h) in e));
    nodes = omega (arith, n.nodes);
    weight = λ w z. omega (arith, n.weight w z);
  }

  pub under_swap : (f g : Form C) (k : ℕ) (f' g' : Form C) → IsUnder r f g k f' g' → IsUnder r g f k g' f'
  under_swap f g k f' g' u = record {
    map = λ m. r.plus_comm _ _ ∙ u.map m ∙ ap (λ x. cond (is_one (take k m)) x r.nil) (r.plus_comm _ _);
    atoms = omega (arith, u.atoms);
    degree = λ v. omega (arith, u.degree v);
    nodes = omega (arith, u.nodes);
    weight = λ w z. omega (arith, u.weight w z);
  }

  pub under_constant : (c : C) (k : ℕ) (g : Form C) → IsUnder r (constant c) (skip k g) k (constant c) g
  under_constant c k g = record {
    map = λ m. ap (λ x. r.plus x (coefficient r (skip k g) m)) (in_skip r k c m) ∙ cond_plus r (is_one (take k m)) (coefficient r (constant c) (drop k m)) (coefficient r g (drop k m));
    atoms = omega arith;
    degree = λ v. omega arith;
    nodes = omega arith;
    weight = λ w z. omega arith;
  }

  pub later_constant : (c : C) → IsLater r (constant c) (constant c)
  later_constant c = record {
    map = λ m. in_skip r 1 c m ∙ skip_suc r 0 (constant c) m;
    atoms = omega arith;
    degree = λ v. omega arith;
    nodes = omega arith;
    weight = λ w z. omega arith;
  }

  later_suc : (k : ℕ) (h t : Form C) → IsNormalOf r (skip k h) t → IsLater r (skip (suc k) h) t
  later_suc k h t n = record {
    map = λ m. skip_suc r k h m ∙ ap (λ x. cond (first m == 0) x r.nil) (sym (n.map (others m)));
    atoms = omega (arith, n.atoms);
    degree = λ v. omega (arith, n.degree (shifted 1 v), degree-twice v 1 k (suc k) h (let e : suc k ≡ 1 + k = omega arith in e));
    nodes = omega (arith, n.nodes);
    weight = λ w z. omega (arith, n.weight w z);
  }

  pub later_skip : (k : ℕ) (h t : Form C) → 0 < k → IsNormalOf r (skip (k - 1) h) t → IsLater r (skip k h) t
  later_skip k h t l n = let e : suc (k - 1) ≡ k = omega arith in subst (λ j. IsLater r (skip j h) t) e (later_suc (k - 1) h t n)

  pub beside : (p : Form C) (i : ℕ) (q g t : Form C) → 0 < i → IsLater r g t → IsBeside r (sum p i q) g p i q t
  beside p i q g t h l = record {
    power = h;
    map = λ m. ap (λ x. r.plus (coefficient r (sum p i q) m) x) (l.map m) ∙ r.plus_assoc _ _ _ ∙ ap (λ x. r.plus (at_power r i (coefficient r p) m) x) (cond_plus r (first m == 0) (coefficient r q (others m)) (coefficient r t (others m)));
    atoms = omega (arith, l.atoms);
    degree = λ v. omega (arith, l.degree v);
    nodes = omega (arith, l.nodes);
    weight = λ w z. omega (arith, l.weight w z);
  }

  pub beside_swap : (p : Form C) (i : ℕ) (q g t : Form C) → 0 < i → IsLater r g t → IsBeside r g (sum p i q) p i q t
  beside_swap p i q g t h l = let b = beside p i q g t h l in record {
    power = h;
    map = λ m. r.plus_comm (coefficient r g m) (coefficient r (sum p i q) m) ∙ b.map m;
    atoms = omega (arith, b.atoms);
    degree = λ v. omega (arith, b.degree v);
    nodes = omega (arith, b.nodes);
    weight = λ w z. omega (arith, b.weight w z);
  }

  pub nodes_same : (p s : Form C) (i : ℕ) (q t : Form C) → 0 < i → IsNodes r (sum p i q) (sum s i t) p s i q t
  nodes_same p s i q t h = record {
    power = h;
    map = λ m. plus_swap_middle r _ _ _ _ ∙ ap₂ r.plus (cond_plus r (nat_le i (first m)) (coefficient r p ((first m - i) ∷ others m)) (coefficient r s ((first m - i) ∷ others m))) (cond_plus r (first m == 0) (coefficient r q (others m)) (coefficient r t (others m)));
    atoms = omega arith;
    degree = λ v. omega arith;
    inner = omega arith;
    rest = omega arith;
    weight = λ w z. omega arith;
  }

  nodes_positive : (f : Form C) → 0 < nodes f
  nodes_positive (constant c) = omega arith
  nodes_positive (skip k h) = omega arith
  nodes_positive (sum p i q) = omega arith

  -- the power of f is the greater
  pub nodes_left : (p : Form C) (i : ℕ) (q s : Form C) (j : ℕ) (t : Form C) → 0 < j → j < i → IsNodes r (sum p i q) (sum s j t) (sum p (i - j) (constant r.nil)) s j q t
  nodes_left p i q s j t h l =
      let b = nodes_same (sum p (i - j) (constant r.nil)) s j q t h in
      let n = nodes_positive q in record {
        power = h;
        map = λ m.
            ap (λ x. r.plus (r.plus x (at_others r (coefficient r q) m)) (coefficient r (sum s j t) m))
            (ap (λ k. at_power r k (coefficient r p) m) (let e : i ≡ (i - j) + j = omega arith in e) ∙ powers r (λ n. coefficient r p (n ∷ others m)) j (i - j) (first m) ∙ sym (ap (λ x. cond (nat_le j (first m)) x r.nil) (zero_rest r p (i - j) ((first m - j) ∷ others m))))
            ∙ b.map m;
        atoms = omega (arith, b.atoms);
        degree = λ v. omega (arith, b.degree v, split_power i j (v 0) l);
        inner = omega (arith, n);
        rest = omega arith;
        weight = λ w z. omega (arith, b.weight w z, z);
      }

  pub nodes_swap : (f g p s : Form C) (i : ℕ) (q t : Form C) → IsNodes r f g p s i q t → IsNodes r g f s p i t q
  nodes_swap f g p s i q t n = record {
    power = n.power;
    map = λ m. r.plus_comm _ _ ∙ n.map m ∙ ap₂ r.plus (ap (λ x. cond (nat_le i (first m)) x r.nil) (r.plus_comm _ _)) (ap (λ x. cond (first m == 0) x r.nil) (r.plus_comm _ _));
    atoms = omega (arith, n.atoms);
    degree = λ v. omega (arith, n.degree v);
    inner = omega (arith, n.inner);
    rest = omega (arith, n.rest);
    weight = λ w z. omega (arith, n.weight w z);
  }

  -- the sums of the parts give the sum
  pub sum_constants : (f g : Form C) (c d : C) → IsConstants r f g c d → IsSumOf r f g (constant (r.plus c d))
  sum_constants f g c d n = record {
    map = λ m. sym (n.map m);
    atoms = omega arith;
    degree = λ v. omega arith;
    weight = λ w s l. let k = n.weight w in let h = s.plus c d (omega (arith, k, l)) in omega (arith, k, h);
  }

  pub sum_under : (f g : Form C) (k : ℕ) (f' g' u h : Form C) → IsUnder r f g k f' g' → IsSumOf r f' g' u → IsNormalOf r (skip k u) h → IsSumOf r f g h
  sum_under f g k f' g' u h n s o = record {
    map = λ m. o.map m ∙ ap (λ x. cond (is_one (take k m)) x r.nil) (s.map (drop k m)) ∙ sym (n.map m);
    atoms = omega (arith, o.atoms, s.atoms, n.atoms);
    degree = λ v. omega (arith, o.degree v, s.degree (shifted k v), n.degree v);
    weight = λ w y l. let a = n.weight w y.nil in let b = s.weight w y (omega (arith, a, l)) in omega (arith, a, b, o.weight w y.nil);
  }

  pub sum_beside : (f g p : Form C) (i : ℕ) (q t v h : Form C) → IsBeside r f g p i q t → IsSumOf r q t v → IsNormalOf r (sum p i v) h → IsSumOf r f g h
  sum_beside f g p i q t v h n s o = record {
    map = λ m. o.map m ∙ ap (λ x. r.plus (at_power r i (coefficient r p) m) (cond (first m == 0) x r.nil)) (s.map (others m)) ∙ sym (n.map m);
    atoms = omega (arith, o.atoms, s.atoms, n.atoms);
    degree = λ v. omega (arith, o.degree v, s.degree (shifted 1 v), n.degree v);
    weight = λ w y l. let a = n.weight w y.nil in let b = s.weight w y (omega (arith, a, l)) in omega (arith, a, b, o.weight w y.nil);
  }

  pub sum_nodes : (f g p s : Form C) (i : ℕ) (q t u v h : Form C) → IsNodes r f g p s i q t → IsSumOf r p s u → IsSumOf r q t v → IsNormalOf r (sum u i v) h → IsSumOf r f g h
  sum_nodes f g p s i q t u v h n a b o = record {
    map = λ m. o.map m ∙ ap₂ (λ x y. r.plus (cond (nat_le i (first m)) x r.nil) (cond (first m == 0) y r.nil)) (a.map ((first m - i) ∷ others m)) (b.map (others m)) ∙ sym (n.map m);
    atoms = omega (arith, o.atoms, a.atoms, b.atoms, n.atoms);
    degree = λ vs. omega (arith, o.degree vs, a.degree vs, b.degree (shifted 1 vs), n.degree vs);
    weight = λ w s l. let k = n.weight w s.nil in let x = a.weight w s (omega (arith, k, l)) in let y = b.weight w s (omega (arith, k, l)) in omega (arith, k, x, y, o.weight w s.nil);
  }

  -- the sums of the parts are allowed
  pub under_can : (f g : Form C) (k : ℕ) (f' g' : Form C) → IsUnder r f g k f' g' → CanSum r f g → CanSum r f' g'
  under_can f g k f' g' n s = record { denominator = s.denominator; positive = s.positive; bounded = s.bounded; small = omega (arith, n.weight (size_of r s.denominator) (size_nil r s.denominator), s.small) }

  pub beside_can : (f g p : Form C) (i : ℕ) (q t : Form C) → IsBeside r f g p i q t → CanSum r f g → CanSum r q t
  beside_can f g p i q t n s = record { denominator = s.denominator; positive = s.positive; bounded = s.bounded; small = omega (arith, n.weight (size_of r s.denominator) (size_nil r s.denominator), s.small) }

  pub inner_can : (f g p s : Form C) (i : ℕ) (q t : Form C) → IsNodes r f g p s i q t → CanSum r f g → CanSum r p s
  inner_can f g p s i q t n a = record { denominator = a.denominator; positive = a.positive; bounded = a.bounded; small = omega (arith, n.weight (size_of r a.denominator) (size_nil r a.denominator), a.small) }

  pub rest_can : (f g p s : Form C) (i : ℕ) (q t : Form C) → IsNodes r f g p s i q t → CanSum r f g → CanSum r q t
  rest_can f g p s i q t n a = record { denominator = a.denominator; positive = a.positive; bounded = a.bounded; small = omega (arith, n.weight (size_of r a.denominator) (size_nil r a.denominator), a.small) }

  pub constants_can : (f g : Form C) (c d : C) → IsConstants r f g c d → CanSum r f g → CanAdd r c d
  constants_can f g c d n a = record { denominator = a.denominator; positive = a.positive; bounded = a.bounded; small = omega (arith, n.weight (size_of r a.denominator), a.small) }
