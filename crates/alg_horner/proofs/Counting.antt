-- A form has as many coefficients that are not nil as its map has monomials.
use Rattle.std.proofs.Common.{◌≡◌, ℕ, suc, zero, Bool, true, false, cond, ◌+◌, ◌-◌, ◌<◌, ◌≤◌, List, [], ◌∷◌, ◌++◌, length, take, drop, replicate, refl, sym, ap, ap₂, ◌∙◌, subst, arith, ◌⊎◌, inl, inr, length-append, length-drop}
use Rattle.std.specs.Prelude.{◌==◌, ◌&&◌}
use Rattle.std.proofs.lemmas.Bool.{cases_lt}
use Rattle.std.proofs.lemmas.List.{length-replicate}
use Rattle.alg_sums.specs.Coefficients.{Coefficients}
use Rattle.alg_horner.specs.Form.{Form, constant, skip, sum, first, others, is_one, coefficient, IsForm, atoms}
use Rattle.alg_horner.specs.Negating.{terms}
use Rattle.alg_horner.specs.Monomials.{IsIn, AreApart, AreMonomials, HasTerms}
use Rattle.alg_horner.proofs.Maps.{cond_same}
use Rattle.alg_horner.proofs.Canonical.{at_skip, at_rest, at_inner, at_between}

-- ---- lists of monomials
in_left : (m : List ℕ) (p q : List (List ℕ)) → IsIn m p → IsIn m (p ++ q)
in_left m [] q h = absurd h
in_left m (u ∷ p) q (inl e) = inl e
in_left m (u ∷ p) q (inr h) = inr (in_left m p q h)

in_right : (m : List ℕ) (p q : List (List ℕ)) → IsIn m q → IsIn m (p ++ q)
in_right m [] q h = h
in_right m (u ∷ p) q h = inr (in_right m p q h)

one_more : (m u : List ℕ) (p q : List (List ℕ)) → IsIn m p ⊎ IsIn m q → IsIn m (u ∷ p) ⊎ IsIn m q
one_more m u p q (inl h) = inl (inr h)
one_more m u p q (inr h) = inr h

in_either : (m : List ℕ) (p q : List (List ℕ)) → IsIn m (p ++ q) → IsIn m p ⊎ IsIn m q
in_either m [] q h = inr h
in_either m (u ∷ p) q (inl e) = inl (inl e)
in_either m (u ∷ p) q (inr h) = one_more m u p q (in_either m p q h)

apart_left : (m : List ℕ) (p q : List (List ℕ)) → (IsIn m p → ⊥) → (IsIn m q → ⊥) → IsIn m p ⊎ IsIn m q → ⊥
apart_left m p q h k (inl i) = h i
apart_left m p q h k (inr i) = k i

apart-append : (p q : List (List ℕ)) → AreApart p → AreApart q → ((m : List ℕ) → IsIn m p → IsIn m q → ⊥) → AreApart (p ++ q)
apart-append [] q h i n = i
apart-append (u ∷ p) q h i n = (λ j. apart_left u p q h.0 (n u (inl refl)) (in_either u p q j), apart-append p q h.1 i (λ m j. n m (inr j)))

-- each changed
abbrev each_by : (List ℕ → List ℕ) → List (List ℕ) → List (List ℕ)
each_by f [] = []
each_by f (u ∷ p) = f u ∷ each_by f p

length-each : (f : List ℕ → List ℕ) (p : List (List ℕ)) → length (each_by f p) ≡ length p
length-each f [] = refl
length-each f (u ∷ p) = ap suc (length-each f p)

in_each : (f : List ℕ → List ℕ) (m : List ℕ) (p : List (List ℕ)) → IsIn m p → IsIn (f m) (each_by f p)
in_each f m [] h = absurd h
in_each f m (u ∷ p) (inl e) = inl (ap f e)
in_each f m (u ∷ p) (inr h) = inr (in_each f m p h)

record Comes (f : List ℕ → List ℕ) (m : List ℕ) (p : List (List ℕ)) : Type 0 where
  from : List ℕ
  is : m ≡ f from
  in_list : IsIn from p

later : (f : List ℕ → List ℕ) (m u : List ℕ) (p : List (List ℕ)) → Comes f m p → Comes f m (u ∷ p)
later f m u p c = record { from = c.from; is = c.is; in_list = inr c.in_list }

from_each : (f : List ℕ → List ℕ) (m : List ℕ) (p : List (List ℕ)) → IsIn m (each_by f p) → Comes f m p
from_each f m [] h = absurd h
from_each f m (u ∷ p) (inl e) = record { from = u; is = e; in_list = inl refl }
from_each f m (u ∷ p) (inr h) = later f m u p (from_each f m p h)

apart-each : (f : List ℕ → List ℕ) (p : List (List ℕ)) → ((u v : List ℕ) → f u ≡ f v → u ≡ v) → AreApart p → AreApart (each_by f p)
apart-each f [] i h = tt
apart-each f (u ∷ p) i h = (
  λ j. let c = from_each f (f u) p j in h.0 (subst (λ m. IsIn m p) (sym (i u c.from c.is)) c.in_list),
  apart-each f p i h.1,
)

-- ---- monomials without the first atoms, and with a power of the first
abbrev after : ℕ → List ℕ → List ℕ
after k m = replicate k 0 ++ m

length-after : (k : ℕ) (m : List ℕ) → length (after k m) ≡ k + length m
length-after k m = length-append (replicate k 0) m ∙ ap (λ n. n + length m) (length-replicate k 0)

after-inj : (k : ℕ) (u v : List ℕ) → after k u ≡ after k v → u ≡ v
after-inj zero u v e = e
after-inj (suc k) u v e = after-inj k u v (ap others e)

and_true : (a b : Bool) → (a && b) ≡ true → (a ≡ true) × (b ≡ true)
and_true true b h = (refl, h)
and_true false b h = cc

zero_by : (n : ℕ) → (n == 0) ≡ true → n ≡ 0
zero_by n e = grind (arith, e)

is_after : (k : ℕ) (m : List ℕ) → k ≤ length m → is_one (take k m) ≡ true → m ≡ after k (drop k m)
is_after zero m l h = refl
is_after (suc k) [] l h = absurd (omega (arith, l))
is_after (suc k) (e ∷ m) l h =
    let s = and_true (e == 0) (is_one (take k m)) h in
    ap₂ (λ x y. x ∷ y) (zero_by e s.0) (is_after k m (omega (arith, l)) s.1)

zeros_one : (k : ℕ) → is_one (replicate k 0) ≡ true
zeros_one zero = refl
zeros_one (suc k) = zeros_one k

one_is : (k : ℕ) (m : List ℕ) → length m ≡ k → is_one m ≡ true → m ≡ replicate k 0
one_is zero [] l h = refl
one_is zero (e ∷ m) l h = absurd (omega (arith, l))
one_is (suc k) [] l h = absurd (omega (arith, l))
one_is (suc k) (e ∷ m) l h =
    let s = and_true (e == 0) (is_one m) h in
    ap₂ (λ x y. x ∷ y) (zero_by e s.0) (one_is k m (omega (arith, l)) s.1)

abbrev behind : List ℕ → List ℕ
behind m = 0 ∷ m

abbrev raise : ℕ → List ℕ → List ℕ
raise i [] = []
raise i (e ∷ m) = (e + i) ∷ m

raise-inj : (i : ℕ) (u v : List ℕ) → raise i u ≡ raise i v → u ≡ v
raise-inj i [] [] h = refl
raise-inj i [] (f ∷ v) h = absurd (let l : 0 ≡ suc (length v) = ap length h in omega (arith, l))
raise-inj i (e ∷ u) [] h = absurd (let l : suc (length u) ≡ 0 = ap length h in omega (arith, l))
raise-inj i (e ∷ u) (f ∷ v) h =
    let x : e + i ≡ f + i = ap first h in
    ap₂ (λ y z. y ∷ z) (let w : e ≡ f = omega (arith, x) in w) (ap others h)

raise_not : (i : ℕ) (u v : List ℕ) → 0 < i → raise i u ≡ behind v → ⊥
raise_not i [] v h e = let l : 0 ≡ suc (length v) = ap length e in omega (arith, l)
raise_not i (f ∷ u) v h e = let x : f + i ≡ 0 = ap first e in omega (arith, h, x)

cross_by : (i : ℕ) (m : List ℕ) (p q : List (List ℕ)) → 0 < i → Comes (raise i) m p → Comes behind m q → ⊥
cross_by i m p q h c d = raise_not i c.from d.from h (sym c.is ∙ d.is)

module _ {C : Type 0} (r : Coefficients C) where
  -- as many monomials as n
  abbrev Counts : (List ℕ → C) → ℕ → ℕ → Type 0
  Counts f k n = (ms : List (List ℕ)) × AreMonomials r f k ms × (length ms ≡ n)

  abbrev Counted : (List ℕ → C) → ℕ → List ℕ → Type 0
  Counted f k m = (length m ≡ k) × (f m ≡ r.nil → ⊥)

  cond_not : (b : Bool) (x : C) → (cond b x r.nil ≡ r.nil → ⊥) → b ≡ true
  cond_not true x h = refl
  cond_not false x h = absurd (h refl)

  not_nil : (c : C) → r.is_nil c ≡ false → c ≡ r.nil → ⊥
  not_nil c h e = let k : r.is_nil c ≡ true = ap r.is_nil e ∙ r.is_nil-nil in absurd (let x : false ≡ true = sym h ∙ k in cc)

  -- ---- constants
  only_zeros : (c : C) (k : ℕ) → (c ≡ r.nil → ⊥) → (m : List ℕ) → IsIn m (replicate k 0 ∷ []) → Counted (coefficient r (constant c)) k m
  only_zeros c k n m (inl e) = (
    ap length e ∙ length-replicate k 0,
    λ z. n (sym (ap (λ b. cond b c r.nil) (ap is_one e ∙ zeros_one k)) ∙ z),
  )
  only_zeros c k n m (inr h) = absurd h

  constant_count : (c : C) (k : ℕ) (b : Bool) → r.is_nil c ≡ b → Counts (coefficient r (constant c)) k (cond b 0 1)
  constant_count c k true e = (
    [],
    record {
      each = λ m h. absurd h;
      all = λ m l n. absurd (n (ap (λ x. cond (is_one m) x r.nil) (r.nil_is c e) ∙ cond_same (is_one m) r.nil));
      apart = tt;
    },
    refl,
  )
  constant_count c k false e = (
    replicate k 0 ∷ [],
    record {
      each = only_zeros c k (not_nil c e);
      all = λ m l n. inl (one_is k m l (cond_not (is_one m) c n));
      apart = (λ h. h, tt);
    },
    refl,
  )

  -- ---- later atoms
  skip_each : (j : ℕ) (h : Form C) (k : ℕ) (m : List ℕ) (ms : List (List ℕ)) → j ≤ k → AreMonomials r (coefficient r h) (k - j) ms → Comes (after j) m ms → Counted (coefficient r (skip j h)) k m
  skip_each j h k m ms l a c =
      let s = a.each c.from c.in_list in (
        ap length c.is ∙ length-after j c.from ∙ (let x : j + length c.from ≡ k = omega (arith, l, s.0) in x),
        λ z. s.1 (sym (ap (coefficient r (skip j h)) c.is ∙ at_skip r j h c.from) ∙ z),
      )

  skip_all : (j : ℕ) (h : Form C) (k : ℕ) (m : List ℕ) (ms : List (List ℕ)) → j ≤ k → AreMonomials r (coefficient r h) (k - j) ms → length m ≡ k → (coefficient r (skip j h) m ≡ r.nil → ⊥) → IsIn m (each_by (after j) ms)
  skip_all j h k m ms l a o n =
      let t = cond_not (is_one (take j m)) (coefficient r h (drop j m)) n in
      let e = is_after j m (omega (arith, l, o)) t in
      let d : length (drop j m) ≡ k - j = length-drop j m ∙ ap (λ x. x - j) o in
      let i = a.all (drop j m) d (λ z. n (ap (λ b. cond b (coefficient r h (drop j m)) r.nil) t ∙ z)) in
      subst (λ x. IsIn x (each_by (after j) ms)) (sym e) (in_each (after j) (drop j m) ms i)

  skip_count : (j : ℕ) (h : Form C) (k n : ℕ) → j ≤ k → Counts (coefficient r h) (k - j) n → Counts (coefficient r (skip j h)) k n
  skip_count j h k n l c = (
    each_by (after j) c.0,
    record {
      each = λ m i. skip_each j h k m c.0 l c.1 (from_each (after j) m c.0 i);
      all = λ m o i. skip_all j h k m c.0 l c.1 o i;
      apart = apart-each (after j) c.0 (after-inj j) c.1.apart;
    },
    length-each (after j) c.0 ∙ c.2,
  )

  -- ---- a power of the first atom and the rest
  module _ (p : Form C) (i : ℕ) (q : Form C) (h : 0 < i) (k : ℕ) where
    raised_each : (u : List ℕ) → Counted (coefficient r p) (suc k) u → Counted (coefficient r (sum p i q)) (suc k) (raise i u)
    raised_each [] s = absurd (let l : 0 ≡ suc k = s.0 in omega (arith, l))
    raised_each (e ∷ u) s = (s.0, λ z. s.1 (sym (at_inner r p i q e u h) ∙ z))

    behind_each : (u : List ℕ) → Counted (coefficient r q) k u → Counted (coefficient r (sum p i q)) (suc k) (behind u)
    behind_each u s = (ap suc s.0, λ z. s.1 (sym (at_rest r p i q u h) ∙ z))

    sum_each : (m : List ℕ) (ms ns : List (List ℕ)) → AreMonomials r (coefficient r p) (suc k) ms → AreMonomials r (coefficient r q) k ns → IsIn m (each_by (raise i) ms) ⊎ IsIn m (each_by behind ns) → Counted (coefficient r (sum p i q)) (suc k) m
    sum_each m ms ns a b (inl x) =
        let c = from_each (raise i) m ms x in
        subst (Counted (coefficient r (sum p i q)) (suc k)) (sym c.is) (raised_each c.from (a.each c.from c.in_list))
    sum_each m ms ns a b (inr x) =
        let c = from_each behind m ns x in
        subst (Counted (coefficient r (sum p i q)) (suc k)) (sym c.is) (behind_each c.from (b.each c.from c.in_list))

    abbrev Missing : ℕ → List ℕ → Type 0
    Missing e m = coefficient r (sum p i q) (e ∷ m) ≡ r.nil → ⊥

    from_power : (e : ℕ) (m : List ℕ) (ms : List (List ℕ)) → AreMonomials r (coefficient r p) (suc k) ms → suc (length m) ≡ suc k → i ≤ e → Missing e m → IsIn (e ∷ m) (each_by (raise i) ms)
    from_power e m ms a l g n =
        let s : (e - i) + i ≡ e = omega (arith, g) in
        let c = a.all ((e - i) ∷ m) l (λ z. n (ap (λ x. coefficient r (sum p i q) (x ∷ m)) (sym s) ∙ at_inner r p i q (e - i) m h ∙ z)) in
        subst (λ x. IsIn (x ∷ m) (each_by (raise i) ms)) s (in_each (raise i) ((e - i) ∷ m) ms c)

    from_rest : (e : ℕ) (m : List ℕ) (ns : List (List ℕ)) → AreMonomials r (coefficient r q) k ns → suc (length m) ≡ suc k → e ≡ 0 → Missing e m → IsIn (e ∷ m) (each_by behind ns)
    from_rest e m ns b l g n =
        let c = b.all m (omega (arith, l)) (λ z. n (ap (λ x. coefficient r (sum p i q) (x ∷ m)) g ∙ at_rest r p i q m h ∙ z)) in
        subst (λ x. IsIn (x ∷ m) (each_by behind ns)) (sym g) (in_each behind m ns c)

    below : (e : ℕ) (m : List ℕ) → e < i → Missing e m → (0 < e) ⊎ (e ≤ 0) → e ≡ 0
    below e m g n (inl o) = absurd (n (at_between r p i q e m o g))
    below e m g n (inr o) = omega (arith, o)

    all_by : (e : ℕ) (m : List ℕ) (ms ns : List (List ℕ)) → AreMonomials r (coefficient r p) (suc k) ms → AreMonomials r (coefficient r q) k ns → suc (length m) ≡ suc k → Missing e m → (e < i) ⊎ (i ≤ e) → IsIn (e ∷ m) (each_by (raise i) ms ++ each_by behind ns)
    all_by e m ms ns a b l n (inl g) = in_right (e ∷ m) (each_by (raise i) ms) (each_by behind ns) (from_rest e m ns b l (below e m g n (cases_lt 0 e)) n)
    all_by e m ms ns a b l n (inr g) = in_left (e ∷ m) (each_by (raise i) ms) (each_by behind ns) (from_power e m ms a l g n)

    sum_all : (m : List ℕ) (ms ns : List (List ℕ)) → AreMonomials r (coefficient r p) (suc k) ms → AreMonomials r (coefficient r q) k ns → length m ≡ suc k → (coefficient r (sum p i q) m ≡ r.nil → ⊥) → IsIn m (each_by (raise i) ms ++ each_by behind ns)
    sum_all [] ms ns a b l n = absurd (let o : 0 ≡ suc k = l in omega (arith, o))
    sum_all (e ∷ m) ms ns a b l n = all_by e m ms ns a b l n (cases_lt e i)

    sum_count : (a b : ℕ) → Counts (coefficient r p) (suc k) a → Counts (coefficient r q) k b → Counts (coefficient r (sum p i q)) (suc k) (a + b)
    sum_count a b c d = (
      each_by (raise i) c.0 ++ each_by behind d.0,
      record {
        each = λ m x. sum_each m c.0 d.0 c.1 d.1 (in_either m (each_by (raise i) c.0) (each_by behind d.0) x);
        all = λ m l n. sum_all m c.0 d.0 c.1 d.1 l n;
        apart = apart-append (each_by (raise i) c.0) (each_by behind d.0)
            (apart-each (raise i) c.0 (raise-inj i) c.1.apart)
            (apart-each behind d.0 (λ u v e. ap others e) d.1.apart)
            (λ m x y. cross_by i m c.0 d.0 h (from_each (raise i) m c.0 x) (from_each behind m d.0 y));
      },
      length-append (each_by (raise i) c.0) (each_by behind d.0) ∙ ap₂ (λ x y. x + y) (length-each (raise i) c.0 ∙ c.2) (length-each behind d.0 ∙ d.2),
    )

  count : (f : Form C) → IsForm r f → (k : ℕ) → atoms f ≤ k → Counts (coefficient r f) k (terms r f)
  count (constant c) h k l = constant_count c k (r.is_nil c) refl
  count (skip j f) h k l = skip_count j f k (terms r f) (omega (arith, l)) (count f h.2 (k - j) (omega (arith, l)))
  count (sum p i q) h zero l = absurd (omega (arith, l))
  count (sum p i q) h (suc k) l = sum_count p i q h.0 k (terms r p) (terms r q) (count p h.3 (suc k) (omega (arith, l))) (count q h.4 k (omega (arith, l)))

  pub has_terms : (f : Form C) → IsForm r f → HasTerms r f (terms r f)
  has_terms f h = record { monomials = λ k l. count f h k l }
