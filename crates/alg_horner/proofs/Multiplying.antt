-- How the products of the parts give the product.
use Rattle.std.proofs.Common.{◌≡◌, ℕ, suc, zero, Bool, true, false, cond, ◌+◌, ◌-◌, ◌<◌, ◌≤◌, List, [], ◌∷◌, take, drop, refl, sym, ap, ap₂, ◌∙◌, arith}
use Rattle.std.specs.Prelude.{◌==◌, nat_le}
use Rattle.alg_sums.specs.Coefficients.{Coefficients}
use Rattle.alg_sums.specs.Size.{is_whole, size_of}
use Rattle.alg_sums.proofs.RingLaws.{nil_times, plus_times}
use Rattle.alg_sums.proofs.Sizes.{size_nil, whole_nil}
use Rattle.alg_horner.specs.Form.{Form, constant, skip, sum, first, others, is_one, coefficient, shifted, weigh, cost, IsWhole}
use Rattle.alg_sums.specs.Exponents.{convolved}
use Rattle.alg_horner.specs.Facts.{IsNormalOf, IsSumOf, CanSum, CanMultiply}
use Rattle.alg_horner.specs.Adding.{at_others, at_power}
use Rattle.alg_horner.specs.Multiplying.{CanScale, CanConvolve, IsProductOf, IsMultipleOf}
use Rattle.alg_horner.proofs.Maps.{skip_suc, in_skip, skip_twice, zero_rest, cond_and, take_none, drop_none}
use Rattle.alg_horner.proofs.Degrees.{degree-twice}
use Rattle.alg_horner.proofs.Weights.{sizes_add}
use Rattle.alg_horner.proofs.Adding.{later_skip}
use Rattle.alg_horner.proofs.Convolving.{convolved-same, convolved-comm, convolved-plus, plus-convolved, convolved-power, power-convolved, convolved-others, convolved-constant}

module _ {C : Type 0} (r : Coefficients C) where
  -- weights
  pub weigh-same : (x y : C → ℕ) (f : Form C) → ((a : C) → x a ≡ y a) → weigh x f ≡ weigh y f
  weigh-same x y (constant c) h = h c
  weigh-same x y (skip k f) h = weigh-same x y f h
  weigh-same x y (sum p i q) h = ap₂ (λ m n. m + n) (weigh-same x y p h) (weigh-same x y q h)

  pub weigh-le : (x y : C → ℕ) (f : Form C) → ((a : C) → x a ≤ y a) → weigh x f ≤ weigh y f
  weigh-le x y (constant c) h = h c
  weigh-le x y (skip k f) h = weigh-le x y f h
  weigh-le x y (sum p i q) h = omega (arith, weigh-le x y p h, weigh-le x y q h)

  pub weigh-plus : (x y : C → ℕ) (f : Form C) → weigh (λ a. x a + y a) f ≡ weigh x f + weigh y f
  weigh-plus x y (constant c) = refl
  weigh-plus x y (skip k f) = weigh-plus x y f
  weigh-plus x y (sum p i q) = omega (arith, weigh-plus x y p, weigh-plus x y q)

  pub weigh-zero : (x : C → ℕ) (f : Form C) → ((a : C) → x a ≡ 0) → weigh x f ≡ 0
  weigh-zero x (constant c) h = h c
  weigh-zero x (skip k f) h = weigh-zero x f h
  weigh-zero x (sum p i q) h = omega (arith, weigh-zero x p h, weigh-zero x q h)

  pub cost-comm : (w : C → ℕ) (f g : Form C) → cost r w f g ≡ cost r w g f
  cost-comm w (constant c) g = weigh-same _ _ g (λ b. ap w (r.times_comm c b))
  cost-comm w (skip k f) g = cost-comm w f g
  cost-comm w (sum p i q) g =
      ap₂ (λ m n. m + n) (cost-comm w p g) (cost-comm w q g)
      ∙ sym (weigh-plus (λ b. weigh (λ a. w (r.times b a)) p) (λ b. weigh (λ a. w (r.times b a)) q) g)

  nil_cost : (w : C → ℕ) → w r.nil ≡ 0 → (g : Form C) → weigh (λ b. w (r.times r.nil b)) g ≡ 0
  nil_cost w z g = weigh-zero _ g (λ b. ap w (nil_times r b) ∙ z)

  pub cost_left : (w : C → ℕ) → w r.nil ≡ 0 → (f2 f g : Form C) → IsNormalOf r f2 f → cost r w f g ≤ cost r w f2 g
  cost_left w z f2 f g n = n.weight (λ a. weigh (λ b. w (r.times a b)) g) (nil_cost w z g)

  pub cost_right : (w : C → ℕ) → w r.nil ≡ 0 → (f g2 g : Form C) → IsNormalOf r g2 g → cost r w f g ≤ cost r w f g2
  cost_right w z f g2 g n = omega (arith, cost-comm w f g, cost-comm w f g2, cost_left w z g2 g f n)

  pub cost-sum : (w : C → ℕ) (f p : Form C) (j : ℕ) (q : Form C) → cost r w f (sum p j q) ≡ cost r w f p + cost r w f q
  cost-sum w f p j q = weigh-plus (λ a. weigh (λ b. w (r.times a b)) p) (λ a. weigh (λ b. w (r.times a b)) q) f

  whole_zero : (d : ℕ) → ◌≡◌ {A = ℕ} (cond (is_whole r d r.nil) 0 1) 0
  whole_zero d = ap (λ b. cond {A = ℕ} b 0 1) (whole_nil r d)

  pub whole_normal : (d : ℕ) (f2 f : Form C) → IsNormalOf r f2 f → IsWhole r d f2 → IsWhole r d f
  whole_normal d f2 f n w = omega (arith, n.weight (λ c. cond (is_whole r d c) 0 1) (whole_zero d), w)

  pub whole_by : (b : Bool) → ◌≡◌ {A = ℕ} (cond b 0 1) 0 → b ≡ true
  whole_by true e = refl
  whole_by false e = absurd (omega (arith, e))

  -- multiples
  cond_times : (b : Bool) (x c : C) → cond b (r.times x c) r.nil ≡ r.times (cond b x r.nil) c
  cond_times true x c = refl
  cond_times false x c = sym (nil_times r c)

  pub multiple_constant : (a c : C) → IsMultipleOf r (constant a) c (constant (r.times a c))
  multiple_constant a c = record { map = λ m. cond_times (is_one m) a c; atoms = omega arith; degree = λ v. omega arith; weight = λ w z. omega arith }

  pub multiple_skip : (k : ℕ) (f : Form C) (c : C) (u h : Form C) → IsMultipleOf r f c u → IsNormalOf r (skip k u) h → IsMultipleOf r (skip k f) c h
  multiple_skip k f c u h s n = record {
    map = λ m. n.map m ∙ ap (λ x. cond (is_one (take k m)) x r.nil) (s.map (drop k m)) ∙ cond_times (is_one (take k m)) (coefficient r f (drop k m)) c;
    atoms = omega (arith, n.atoms, s.atoms);
    degree = λ v. omega (arith, n.degree v, s.degree (shifted k v));
    weight = λ w z. omega (arith, n.weight w z, s.weight w z);
  }

  pub multiple_sum : (p : Form C) (i : ℕ) (q : Form C) (c : C) (u v h : Form C) → IsMultipleOf r p c u → IsMultipleOf r q c v → IsNormalOf r (sum u i v) h → IsMultipleOf r (sum p i q) c h
  multiple_sum p i q c u v h s t n = record {
    map = λ m.
        n.map m
        ∙ ap₂ (λ x y. r.plus (cond (nat_le i (first m)) x r.nil) (cond (first m == 0) y r.nil)) (s.map ((first m - i) ∷ others m)) (t.map (others m))
        ∙ ap₂ r.plus (cond_times (nat_le i (first m)) (coefficient r p ((first m - i) ∷ others m)) c) (cond_times (first m == 0) (coefficient r q (others m)) c)
        ∙ sym (plus_times r _ _ c);
    atoms = omega (arith, n.atoms, s.atoms, t.atoms);
    degree = λ vs. omega (arith, n.degree vs, s.degree vs, t.degree (shifted 1 vs));
    weight = λ w z. omega (arith, n.weight w z, s.weight w z, t.weight w z);
  }

  pub scale_rest : (k : ℕ) (f : Form C) (c : C) → CanScale r (skip k f) c → CanScale r f c
  scale_rest k f c s = record { denominator = s.denominator; positive = s.positive; bounded = s.bounded; first = s.first; second = s.second; small = s.small }

  pub scale_first : (p : Form C) (i : ℕ) (q : Form C) (c : C) → CanScale r (sum p i q) c → CanScale r p c
  scale_first p i q c s = record { denominator = s.denominator; positive = s.positive; bounded = s.bounded; first = omega (arith, s.first); second = s.second; small = omega (arith, s.small) }

  pub scale_second : (p : Form C) (i : ℕ) (q : Form C) (c : C) → CanScale r (sum p i q) c → CanScale r q c
  scale_second p i q c s = record { denominator = s.denominator; positive = s.positive; bounded = s.bounded; first = omega (arith, s.first); second = s.second; small = omega (arith, s.small) }

  pub scale_constant : (a c : C) → CanScale r (constant a) c → CanMultiply r a c
  scale_constant a c s = record { denominator = s.denominator; positive = s.positive; bounded = s.bounded; first = whole_by _ s.first; second = s.second; small = s.small }

  -- products
  pub product_comm : (f g h : Form C) → IsProductOf r f g h → IsProductOf r g f h
  product_comm f g h p = record {
    map = λ m. p.map m ∙ convolved-comm r (coefficient r f) (coefficient r g) m;
    atoms = omega (arith, p.atoms);
    degree = λ v. omega (arith, p.degree v);
    weight = λ w y l. let e = cost-comm w f g in let s = p.weight w y (omega (arith, e, l)) in omega (arith, e, s);
  }

  pub product_constant : (f : Form C) (c : C) (h : Form C) → IsMultipleOf r f c h → IsProductOf r f (constant c) h
  product_constant f c h s = record {
    map = λ m. s.map m ∙ sym (convolved-constant r (coefficient r f) c m);
    atoms = omega (arith, s.atoms);
    degree = λ v. omega (arith, s.degree v);
    weight = λ w y l. s.weight w y.nil;
  }

  -- the second factor put into normal form
  pub product_normal : (f g2 g h : Form C) → IsNormalOf r g2 g → IsProductOf r f g h → IsProductOf r f g2 h
  product_normal f g2 g h n p = record {
    map = λ m. p.map m ∙ convolved-same r (coefficient r f) (coefficient r f) (coefficient r g) (coefficient r g2) m (λ u. refl) n.map;
    atoms = omega (arith, p.atoms, n.atoms);
    degree = λ v. omega (arith, p.degree v, n.degree v);
    weight = λ w y l. let e = cost_right w y.nil f g2 g n in let s = p.weight w y (omega (arith, e, l)) in omega (arith, e, s);
  }

  -- skips
  others_skip : (k : ℕ) (f : List ℕ → C) (m : List ℕ) → at_others r (λ v. cond (is_one (take k v)) (f (drop k v)) r.nil) m ≡ cond (is_one (take (suc k) m)) (f (drop (suc k) m)) r.nil
  others_skip k f [] = let e = take_none k in let d = drop_none k in rw (e, d) refl
  others_skip k f (e ∷ m) = sym (cond_and (e == 0) (is_one (take k m)) (f (drop k m)) r.nil)

  pub convolved-skip : (k : ℕ) (f g : List ℕ → C) (m : List ℕ) →
      convolved r (λ v. cond (is_one (take k v)) (f (drop k v)) r.nil) (λ v. cond (is_one (take k v)) (g (drop k v)) r.nil) m ≡ cond (is_one (take k m)) (convolved r f g (drop k m)) r.nil
  convolved-skip zero f g m = refl
  convolved-skip (suc k) f g m =
      convolved-same r _ (at_others r (λ v. cond (is_one (take k v)) (f (drop k v)) r.nil)) _ (at_others r (λ v. cond (is_one (take k v)) (g (drop k v)) r.nil)) m (λ u. sym (others_skip k f u)) (λ v. sym (others_skip k g v))
      ∙ convolved-others r (λ v. cond (is_one (take k v)) (f (drop k v)) r.nil) (λ v. cond (is_one (take k v)) (g (drop k v)) r.nil) m
      ∙ ap (λ x. cond (first m == 0) x r.nil) (convolved-skip k f g (others m))
      ∙ others_skip k (convolved r f g) m

  pub product_under : (k : ℕ) (f g u h : Form C) → IsProductOf r f g u → IsNormalOf r (skip k u) h → IsProductOf r (skip k f) (skip k g) h
  product_under k f g u h p n = record {
    map = λ m. n.map m ∙ ap (λ x. cond (is_one (take k m)) x r.nil) (p.map (drop k m)) ∙ sym (convolved-skip k (coefficient r f) (coefficient r g) m);
    atoms = omega (arith, n.atoms, p.atoms);
    degree = λ v. omega (arith, n.degree v, p.degree (shifted k v));
    weight = λ w y l. let s = p.weight w y l in omega (arith, s, n.weight w y.nil);
  }

  pub product_constant_under : (c : C) (k : ℕ) (g u h : Form C) → IsProductOf r (constant c) g u → IsNormalOf r (skip k u) h → IsProductOf r (constant c) (skip k g) h
  product_constant_under c k g u h p n =
      let q = product_under k (constant c) g u h p n in record {
        map = λ m. q.map m ∙ sym (convolved-same r (coefficient r (constant c)) (coefficient r (skip k (constant c))) (coefficient r (skip k g)) (coefficient r (skip k g)) m (in_skip r k c) (λ v. refl));
        atoms = omega (arith, q.atoms);
        degree = λ v. omega (arith, q.degree v);
        weight = λ w y l. q.weight w y l;
      }

  -- a skip in two steps
  pub product_steps : (f : Form C) (k j : ℕ) (g h : Form C) → k ≤ j → IsProductOf r f (skip k (skip (j - k) g)) h → IsProductOf r f (skip j g) h
  product_steps f k j g h l p = record {
    map = λ m. p.map m ∙ convolved-same r (coefficient r f) (coefficient r f) (coefficient r (skip k (skip (j - k) g))) (coefficient r (skip j g)) m (λ u. refl) (λ v. sym (skip_twice r k (j - k) g v) ∙ ap (λ n. coefficient r (skip n g) v) (let e : k + (j - k) ≡ j = omega (arith, l) in e));
    atoms = omega (arith, p.atoms, l);
    degree = λ v. omega (arith, p.degree v, degree-twice v k (j - k) j g (let e : j ≡ k + (j - k) = omega (arith, l) in e));
    weight = λ w y s. p.weight w y s;
  }

  -- the first factor begins with fewer skipped atoms
  pub product_skips : (k j : ℕ) (f g t u h : Form C) → k ≤ j → IsNormalOf r (skip (j - k) g) t → IsProductOf r f t u → IsNormalOf r (skip k u) h → IsProductOf r (skip k f) (skip j g) h
  product_skips k j f g t u h l n p o = product_steps (skip k f) k j g h l (product_under k f (skip (j - k) g) u h (product_normal f (skip (j - k) g) t u n p) o)

  pub product_sum : (f p : Form C) (j : ℕ) (q u w v h : Form C) → 0 < j → IsProductOf r f p u → IsNormalOf r (sum u j (constant r.nil)) w → IsProductOf r f (skip 1 q) v → IsSumOf r w v h → IsProductOf r f (sum p j q) h
  product_sum f p j q u w v h l a n b s = record {
    map = λ m.
        s.map m
        ∙ ap₂ r.plus
        (n.map m ∙ zero_rest r u j m ∙ ap (λ x. cond (nat_le j (first m)) x r.nil) (a.map ((first m - j) ∷ others m)) ∙ sym (convolved-power r (coefficient r f) (coefficient r p) j m l))
        (b.map m ∙ convolved-same r (coefficient r f) (coefficient r f) (coefficient r (skip 1 q)) (at_others r (coefficient r q)) m (λ x. refl) (skip_suc r 0 q))
        ∙ sym (convolved-plus r (coefficient r f) (at_power r j (coefficient r p)) (at_others r (coefficient r q)) m);
    atoms = omega (arith, s.atoms, n.atoms, a.atoms, b.atoms);
    degree = λ vs. omega (arith, s.degree vs, n.degree vs, a.degree vs, b.degree vs);
    weight = λ ws c k.
        let e = cost-sum ws f p j q in
        let x = a.weight ws c (omega (arith, e, k)) in
        let y = b.weight ws c (omega (arith, e, k)) in
        let z = n.weight ws c.nil in
        let o = c.nil in
        let t = s.weight ws c (omega (arith, e, k, x, y, z, o)) in
        omega (arith, e, t, x, y, z, o);
  }

  pub product_later : (p : Form C) (i : ℕ) (q : Form C) (k : ℕ) (g t u v h : Form C) → 0 < i → 0 < k → IsNormalOf r (skip (k - 1) g) t → IsProductOf r p (skip k g) u → IsProductOf r q t v → IsNormalOf r (sum u i v) h → IsProductOf r (sum p i q) (skip k g) h
  product_later p i q k g t u v h l y n a b o =
      let s = later_skip r k g t y n in record {
        map = λ m.
            o.map m
            ∙ ap₂ (λ x z. r.plus (cond (nat_le i (first m)) x r.nil) (cond (first m == 0) z r.nil)) (a.map ((first m - i) ∷ others m)) (b.map (others m))
            ∙ sym
            (plus-convolved r (at_power r i (coefficient r p)) (at_others r (coefficient r q)) (coefficient r (skip k g)) m
            ∙ ap₂ r.plus
            (power-convolved r (coefficient r p) (coefficient r (skip k g)) i m l)
            (convolved-same r (at_others r (coefficient r q)) (at_others r (coefficient r q)) (coefficient r (skip k g)) (at_others r (coefficient r t)) m (λ x. refl) s.map ∙ convolved-others r (coefficient r q) (coefficient r t) m));
        atoms = omega (arith, o.atoms, a.atoms, b.atoms, s.atoms);
        degree = λ vs. omega (arith, o.degree vs, a.degree vs, b.degree (shifted 1 vs), s.degree vs);
        weight = λ ws c x.
            let e = cost_right ws c.nil q (skip (k - 1) g) t n in
            let z = a.weight ws c (omega (arith, x)) in
            let w = b.weight ws c (omega (arith, e, x)) in
            omega (arith, e, z, w, o.weight ws c.nil);
      }

  -- the products of the parts are allowed
  pub can_constant : (f : Form C) (c : C) → CanConvolve r f (constant c) → CanScale r f c
  can_constant f c s = record { denominator = s.denominator; positive = s.positive; bounded = s.bounded; first = s.first; second = whole_by _ s.second; small = s.small }

  pub can_inner : (f p : Form C) (j : ℕ) (q : Form C) → CanConvolve r f (sum p j q) → CanConvolve r f p
  can_inner f p j q s = record { denominator = s.denominator; positive = s.positive; bounded = s.bounded; first = s.first; second = omega (arith, s.second); small = omega (arith, s.small, cost-sum (size_of r s.denominator) f p j q) }

  pub can_rest : (f p : Form C) (j : ℕ) (q : Form C) → CanConvolve r f (sum p j q) → CanConvolve r f (skip 1 q)
  can_rest f p j q s = record { denominator = s.denominator; positive = s.positive; bounded = s.bounded; first = s.first; second = omega (arith, s.second); small = omega (arith, s.small, cost-sum (size_of r s.denominator) f p j q) }

  pub can_sum : (f p : Form C) (j : ℕ) (q u w v : Form C) → CanConvolve r f (sum p j q) → IsProductOf r f p u → IsNormalOf r (sum u j (constant r.nil)) w → IsProductOf r f (skip 1 q) v → CanSum r w v
  can_sum f p j q u w v s a n b =
      let d = s.denominator in
      let e = cost-sum (size_of r d) f p j q in
      let x = a.weight (size_of r d) (sizes_add r d) (omega (arith, e, s.small)) in
      let y = b.weight (size_of r d) (sizes_add r d) (omega (arith, e, s.small)) in
      record { denominator = d; positive = s.positive; bounded = s.bounded; small = omega (arith, e, s.small, x, y, n.weight (size_of r d) (size_nil r d), size_nil r d) }

  pub can_normal : (f g2 g : Form C) → IsNormalOf r g2 g → CanConvolve r f g2 → CanConvolve r f g
  can_normal f g2 g n s = record { denominator = s.denominator; positive = s.positive; bounded = s.bounded; first = s.first; second = whole_normal s.denominator g2 g n s.second; small = omega (arith, s.small, cost_right (size_of r s.denominator) (size_nil r s.denominator) f g2 g n) }

  pub can_comm : (f g : Form C) → CanConvolve r f g → CanConvolve r g f
  can_comm f g s = record { denominator = s.denominator; positive = s.positive; bounded = s.bounded; first = s.second; second = s.first; small = omega (arith, s.small, cost-comm (size_of r s.denominator) f g) }

  -- of skips only the parts count
  pub skips_can : (k j : ℕ) (f g t : Form C) → IsNormalOf r (skip (j - k) g) t → CanConvolve r (skip k f) (skip j g) → CanConvolve r f t
  skips_can k j f g t n s = can_normal f (skip (j - k) g) t n (record { denominator = s.denominator; positive = s.positive; bounded = s.bounded; first = s.first; second = s.second; small = s.small })

  pub later_can : (p : Form C) (i : ℕ) (q : Form C) (k : ℕ) (g t : Form C) → IsNormalOf r (skip (k - 1) g) t → CanConvolve r (sum p i q) (skip k g) → CanConvolve r q t
  later_can p i q k g t n s = can_normal q (skip (k - 1) g) t n (record { denominator = s.denominator; positive = s.positive; bounded = s.bounded; first = omega (arith, s.first); second = s.second; small = omega (arith, s.small) })
