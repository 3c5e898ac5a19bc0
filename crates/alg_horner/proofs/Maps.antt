-- Coefficients of forms that are built from others.
use Rattle.std.proofs.Common.{◌≡◌, ℕ, suc, zero, Bool, true, false, cond, ◌+◌, ◌-◌, ◌<◌, ◌≤◌, List, [], ◌∷◌, take, drop, refl, sym, ap, ap₂, ◌∙◌, arith, ◌⊎◌, inl, inr, le-leb}
use Rattle.std.specs.Prelude.{◌&&◌, ◌==◌, nat_le}
use Rattle.std.proofs.lemmas.Bool.{cases_lt}
use Rattle.alg_sums.specs.Coefficients.{Coefficients}
use Rattle.alg_sums.proofs.RingLaws.{nil_plus}
use Rattle.alg_horner.specs.Form.{Form, constant, skip, sum, first, others, is_one, coefficient, IsSameMap}

pub cond_same : {A : Type 0} (b : Bool) (x : A) → cond b x x ≡ x
cond_same true x = refl
cond_same false x = refl

pub cond_and : {A : Type 0} (a b : Bool) (x y : A) → cond (a && b) x y ≡ cond a (cond b x y) y
cond_and true b x y = refl
cond_and false b x y = refl

pub and_assoc : (a b c : Bool) → (a && b) && c ≡ a && (b && c)
and_assoc true b c = refl
and_assoc false b c = refl

pub one_split : (k : ℕ) (m : List ℕ) → is_one m ≡ is_one (take k m) && is_one (drop k m)
one_split zero m = refl
one_split (suc k) [] = refl
one_split (suc k) (e ∷ m) = ap (λ b. (e == 0) && b) (one_split k m) ∙ sym (and_assoc (e == 0) (is_one (take k m)) (is_one (drop k m)))

pub in_skip : {C : Type 0} (r : Coefficients C) (k : ℕ) (c : C) → IsSameMap r (constant c) (skip k (constant c))
in_skip r k c m = ap (λ b. cond b c r.nil) (one_split k m) ∙ cond_and (is_one (take k m)) (is_one (drop k m)) c r.nil

pub skip_none : {C : Type 0} (r : Coefficients C) (h : Form C) → IsSameMap r h (skip 0 h)
skip_none r h m = refl

pub take_none : (k : ℕ) → take {A = ℕ} k [] ≡ []
take_none zero = refl
take_none (suc k) = refl

pub drop_none : (k : ℕ) → drop {A = ℕ} k [] ≡ []
drop_none zero = refl
drop_none (suc k) = refl

one_twice : (k j : ℕ) (m : List ℕ) → is_one (take (k + j) m) ≡ is_one (take k m) && is_one (take j (drop k m))
one_twice zero j m = ap (λ n. is_one (take n m)) (omega arith)
one_twice (suc k) j [] = let e : suc k + j ≡ suc (k + j) = omega arith in rw e (sym (ap is_one (take_none j)))
one_twice (suc k) j (e ∷ m) = let f : suc k + j ≡ suc (k + j) = omega arith in rw f (ap (λ b. (e == 0) && b) (one_twice k j m) ∙ sym (and_assoc (e == 0) (is_one (take k m)) (is_one (take j (drop k m)))))

drop_twice : (k j : ℕ) (m : List ℕ) → drop (k + j) m ≡ drop j (drop k m)
drop_twice zero j m = ap (λ n. drop n m) (omega arith)
drop_twice (suc k) j [] = let e : suc k + j ≡ suc (k + j) = omega arith in rw e (sym (drop_none j))
drop_twice (suc k) j (e ∷ m) = let f : suc k + j ≡ suc (k + j) = omega arith in rw f (drop_twice k j m)

pub skip_twice : {C : Type 0} (r : Coefficients C) (k j : ℕ) (h : Form C) → IsSameMap r (skip (k + j) h) (skip k (skip j h))
skip_twice r k j h m =
    ap₂ (λ b l. cond b (coefficient r h l) r.nil) (one_twice k j m) (drop_twice k j m)
    ∙ cond_and (is_one (take k m)) (is_one (take j (drop k m))) (coefficient r h (drop j (drop k m))) r.nil

-- a form over the atoms after the first k, where k is above 0: the first does not occur
pub skip_suc : {C : Type 0} (r : Coefficients C) (k : ℕ) (h : Form C) (m : List ℕ) → coefficient r (skip (suc k) h) m ≡ cond (first m == 0) (coefficient r (skip k h) (others m)) r.nil
skip_suc r k h [] = let e = take_none k in let d = drop_none k in rw (e, d) refl
skip_suc r k h (e ∷ m) = cond_and (e == 0) (is_one (take k m)) (coefficient r h (drop k m)) r.nil

pub cond_plus : {C : Type 0} (r : Coefficients C) (b : Bool) (x y : C) → r.plus (cond b x r.nil) (cond b y r.nil) ≡ cond b (r.plus x y) r.nil
cond_plus r true x y = refl
cond_plus r false x y = r.plus_nil r.nil

pub in_zero : {C : Type 0} (r : Coefficients C) (m : List ℕ) → coefficient r (constant r.nil) m ≡ r.nil
in_zero r m = cond_same (is_one m) r.nil

-- a sum with nothing before the power
pub zero_inner : {C : Type 0} (r : Coefficients C) (i : ℕ) (q : Form C) → IsSameMap r (skip 1 q) (sum (constant r.nil) i q)
zero_inner r i q m =
    skip_suc r 0 q m
    ∙ sym (nil_plus r _)
    ∙ ap (λ x. r.plus x (cond (first m == 0) (coefficient r q (others m)) r.nil)) (sym (ap (λ x. cond (nat_le i (first m)) x r.nil) (in_zero r ((first m - i) ∷ others m)) ∙ cond_same (nat_le i (first m)) r.nil))

pub le_true : (i n : ℕ) → i ≤ n → nat_le i n ≡ true
le_true i n h = le-leb i n h

pub le_false : (i n : ℕ) → n < i → nat_le i n ≡ false
le_false i n h = grind arith

-- a power in two steps
powers_by : {C : Type 0} (r : Coefficients C) (f : ℕ → C) (i j e : ℕ) → (e < i) ⊎ (i ≤ e) → (e < j + i) ⊎ (j + i ≤ e) → cond (nat_le (j + i) e) (f (e - (j + i))) r.nil ≡ cond (nat_le i e) (cond (nat_le j (e - i)) (f (e - i - j)) r.nil) r.nil
powers_by r f i j e (inl h) (inl k) = rw (le_false i e h, le_false (j + i) e k) refl
powers_by r f i j e (inl h) (inr k) = absurd (omega (arith, h, k))
powers_by r f i j e (inr h) (inl k) = rw (le_true i e h, le_false (j + i) e k, le_false j (e - i) (omega arith)) refl
powers_by r f i j e (inr h) (inr k) =
    let d : e - (j + i) ≡ e - i - j = omega arith in
    rw (le_true i e h, le_true (j + i) e k, le_true j (e - i) (omega arith), d) refl

pub powers : {C : Type 0} (r : Coefficients C) (f : ℕ → C) (i j e : ℕ) → cond (nat_le (j + i) e) (f (e - (j + i))) r.nil ≡ cond (nat_le i e) (cond (nat_le j (e - i)) (f (e - i - j)) r.nil) r.nil
powers r f i j e = powers_by r f i j e (cases_lt e i) (cases_lt e (j + i))

-- with nothing after the power
pub zero_rest : {C : Type 0} (r : Coefficients C) (p : Form C) (i : ℕ) (m : List ℕ) → coefficient r (sum p i (constant r.nil)) m ≡ cond (nat_le i (first m)) (coefficient r p ((first m - i) ∷ others m)) r.nil
zero_rest r p i m = ap (λ x. r.plus (cond (nat_le i (first m)) (coefficient r p ((first m - i) ∷ others m)) r.nil) x) (ap (λ x. cond (first m == 0) x r.nil) (in_zero r (others m)) ∙ cond_same (first m == 0) r.nil) ∙ r.plus_nil _

-- a multiple before a power
pub multiple_inner : {C : Type 0} (r : Coefficients C) (p : Form C) (j i : ℕ) (q : Form C) → IsSameMap r (sum p (j + i) q) (sum (sum p j (constant r.nil)) i q)
multiple_inner r p j i q m =
    ap (λ x. r.plus x (cond (first m == 0) (coefficient r q (others m)) r.nil))
    (powers r (λ n. coefficient r p (n ∷ others m)) i j (first m) ∙ sym (ap (λ x. cond (nat_le i (first m)) x r.nil) (zero_rest r p j ((first m - i) ∷ others m))))
