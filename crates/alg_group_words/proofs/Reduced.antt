-- A word cancels to one reduced word, in whatever order its neighbours cancel.
use Rattle.std.proofs.Common.{◌≡◌, Bool, true, false, cond, not, List, [], ◌∷◌, ◌++◌, refl, sym, ap, ◌∙◌, subst, arith, ℤ, pos, negsuc, suc, zero, ◌+ℤ◌}
use Rattle.std.specs.Prelude.{replicate}
use Rattle.std.proofs.lemmas.Int.{ints}
use Rattle.std.proofs.Math.IntN.{suc_ℤ, pred_ℤ, suc_ℤ-+ℤ, pred_ℤ-+ℤ, +ℤ_idl}
use Rattle.std.specs.Prelude.{◌&&◌}
use Rattle.alg_terms.specs.Tree.{Tree}
use Rattle.alg_terms.specs.Order.{tree_same}
use Rattle.alg_terms.proofs.OrderLaws.{tree_same-equal, tree_same-self}
use Rattle.alg_group_words.specs.Word.{Letter, inverse, cancel, CancelsTo, done, pair, IsReduced, IsReducedAfter, put, reduced, power}

-- ---- letters
bools : (b c : Bool) → cond b (not c) c ≡ true → c ≡ not b
bools true true h = cc
bools true false h = refl
bools false true h = refl
bools false false h = cc

both : (a b : Bool) → (a && b) ≡ true → (a ≡ true) × (b ≡ true)
both true b h = (refl, h)
both false b h = cc

letter : (l m : Letter) → l.0 ≡ m.0 → l.1 ≡ m.1 → l ≡ m
letter l m h i = rw (h, i) refl

pub cancel_is : (l m : Letter) → cancel l m ≡ true → m ≡ inverse l
cancel_is l m h =
    let p = both (tree_same l.0 m.0) (cond l.1 (not m.1) m.1) h in
    letter m (inverse l) (sym (tree_same-equal l.0 m.0 p.0)) (bools l.1 m.1 p.1)

not_not : (b : Bool) → not (not b) ≡ b
not_not true = refl
not_not false = refl

pub twice : (l : Letter) → inverse (inverse l) ≡ l
twice l = rw (not_not l.1) refl

not_is : (b : Bool) → cond b (not (not b)) (not b) ≡ true
not_is true = refl
not_is false = refl

cancel-inverse : (l : Letter) → cancel l (inverse l) ≡ true
cancel-inverse l = rw (tree_same-self l.0, not_is l.1) refl

-- ---- a letter and its inverse before a reduced word
after_put : (l : Letter) (w : List Letter) → IsReducedAfter l w → put l w ≡ l ∷ w
after_put l [] h = refl
after_put l (m ∷ w) h = rw h.0 refl

put_cases : (l m : Letter) (w : List Letter) (b : Bool) → cancel (inverse l) m ≡ b → IsReducedAfter m w → put l (cond b w (inverse l ∷ m ∷ w)) ≡ m ∷ w
put_cases l m w true h r = let e : m ≡ l = cancel_is (inverse l) m h ∙ twice l in let P : Letter → Type 0 = λ x. IsReducedAfter x w in after_put l w (subst P e r) ∙ ap (λ x. x ∷ w) (sym e)
put_cases l m w false h r = rw (cancel-inverse l) refl

pub put_twice : (l : Letter) (w : List Letter) → IsReduced w → put l (put (inverse l) w) ≡ w
put_twice l [] h = rw (cancel-inverse l) refl
put_twice l (m ∷ w) h = put_cases l m w (cancel (inverse l) m) refl h

tail_reduced : (m : Letter) (w : List Letter) → IsReducedAfter m w → IsReduced w
tail_reduced m [] h = tt
tail_reduced m (n ∷ w) h = h.1

keep_cases : (l m : Letter) (w : List Letter) (b : Bool) → cancel l m ≡ b → IsReducedAfter m w → IsReduced (cond b w (l ∷ m ∷ w))
keep_cases l m w true h r = tail_reduced m w r
keep_cases l m w false h r = (h, r)

put_reduced : (l : Letter) (w : List Letter) → IsReduced w → IsReduced (put l w)
put_reduced l [] h = tt
put_reduced l (m ∷ w) h = keep_cases l m w (cancel l m) refl h

pub reduced-IsReduced : (w : List Letter) → IsReduced (reduced w)
unfolding reduced
reduced-IsReduced [] = tt
reduced-IsReduced (l ∷ w) = put_reduced l (reduced w) (reduced-IsReduced w)

pub reduced_of-IsReduced : (w : List Letter) → IsReduced w → reduced w ≡ w
unfolding reduced
reduced_of-IsReduced [] h = refl
reduced_of-IsReduced (l ∷ w) h = ap (put l) (reduced_of-IsReduced w (tail_reduced l w h)) ∙ after_put l w h

-- one pair cancelled changes nothing
pub reduced-pair : (x y : List Letter) (l : Letter) → reduced (x ++ (l ∷ inverse l ∷ y)) ≡ reduced (x ++ y)
unfolding reduced
reduced-pair [] y l = put_twice l (reduced y) (reduced-IsReduced y)
reduced-pair (m ∷ x) y l = ap (put m) (reduced-pair x y l)

pub reduced-CancelsTo : (w v : List Letter) → CancelsTo w v → reduced w ≡ reduced v
reduced-CancelsTo w v done = refl
reduced-CancelsTo w v (pair x y l h) = reduced-pair x y l ∙ reduced-CancelsTo (x ++ y) v h

-- the result doesn't depend on the order
pub any_order : (w v : List Letter) → CancelsTo w v → IsReduced v → v ≡ reduced w
any_order w v c h = sym (reduced_of-IsReduced v h) ∙ sym (reduced-CancelsTo w v c)

-- two ends of one word are one
pub one_end : (w u v : List Letter) → CancelsTo w u → CancelsTo w v → IsReduced u → IsReduced v → u ≡ v
one_end w u v c d h i = any_order w u c h ∙ sym (any_order w v d i)

-- ---- the reduced word is reached
after : (l : Letter) (w v : List Letter) → CancelsTo w v → CancelsTo (l ∷ w) (l ∷ v)
after l w v done = done
after l w v (pair x y m h) = pair (l ∷ x) y m (after l (x ++ y) v h)

pub cancels_then : (u v w : List Letter) → CancelsTo u v → CancelsTo v w → CancelsTo u w
cancels_then u v w done i = i
cancels_then u v w (pair x y m h) i = pair x y m (cancels_then (x ++ y) v w h i)

one_pair : (l m : Letter) (w : List Letter) (b : Bool) → cancel l m ≡ b → CancelsTo (l ∷ m ∷ w) (cond b w (l ∷ m ∷ w))
one_pair l m w true h = let P : Letter → Type 0 = λ x. CancelsTo (l ∷ x ∷ w) w in subst P (sym (cancel_is l m h)) (pair [] w l done)
one_pair l m w false h = done

put_cancels : (l : Letter) (w : List Letter) → CancelsTo (l ∷ w) (put l w)
put_cancels l [] = done
put_cancels l (m ∷ w) = one_pair l m w (cancel l m) refl

pub reached : (w : List Letter) → CancelsTo w (reduced w)
unfolding reduced
reached [] = done
reached (l ∷ w) = cancels_then (l ∷ w) (l ∷ reduced w) (put l (reduced w)) (after l w (reduced w) (reached w)) (put_cancels l (reduced w))

-- ---- powers
reduced-cons : (l : Letter) (w : List Letter) → reduced (l ∷ w) ≡ put l (reduced w)
unfolding reduced
reduced-cons l w = refl

power_suc : (a : Tree) (n : ℤ) (w : List Letter) → reduced (power a (suc_ℤ n) ++ w) ≡ put (a, false) (reduced (power a n ++ w))
power_suc a (pos n) w = reduced-cons (a, false) (replicate n (a, false) ++ w)
power_suc a (negsuc zero) w = sym (put_twice (a, false) (reduced w) (reduced-IsReduced w)) ∙ ap (put (a, false)) (sym (reduced-cons (a, true) w))
power_suc a (negsuc (suc n)) w = sym (put_twice (a, false) (reduced (power a (negsuc n) ++ w)) (reduced-IsReduced (power a (negsuc n) ++ w))) ∙ ap (put (a, false)) (sym (reduced-cons (a, true) (power a (negsuc n) ++ w)))

power_pred : (a : Tree) (n : ℤ) (w : List Letter) → reduced (power a (pred_ℤ n) ++ w) ≡ put (a, true) (reduced (power a n ++ w))
power_pred a (negsuc n) w = reduced-cons (a, true) (power a (negsuc n) ++ w)
power_pred a (pos zero) w = reduced-cons (a, true) w
power_pred a (pos (suc n)) w = sym (put_twice (a, true) (reduced (power a (pos n) ++ w)) (reduced-IsReduced (power a (pos n) ++ w))) ∙ ap (put (a, true)) (sym (reduced-cons (a, false) (power a (pos n) ++ w)))

minus_one : (n : ℤ) → pred_ℤ n ≡ negsuc 0 +ℤ n
minus_one (pos zero) = refl
minus_one (pos (suc n)) = omega (arith, ints)
minus_one (negsuc n) = omega (arith, ints)

-- two powers of one atom side by side are one power
pub reduced-powers : (a : Tree) (m n : ℤ) (w : List Letter) → reduced (power a m ++ (power a n ++ w)) ≡ reduced (power a (m +ℤ n) ++ w)
reduced-powers a (pos zero) n w = ap (λ k. reduced (power a k ++ w)) (sym (+ℤ_idl n))
reduced-powers a (pos (suc m)) n w = reduced-cons (a, false) (power a (pos m) ++ (power a n ++ w)) ∙ ap (put (a, false)) (reduced-powers a (pos m) n w) ∙ sym (power_suc a (pos m +ℤ n) w) ∙ ap (λ k. reduced (power a k ++ w)) (sym (suc_ℤ-+ℤ (pos m) n))
reduced-powers a (negsuc zero) n w = reduced-cons (a, true) (power a n ++ w) ∙ sym (power_pred a n w) ∙ ap (λ k. reduced (power a k ++ w)) (minus_one n)
reduced-powers a (negsuc (suc m)) n w = reduced-cons (a, true) (power a (negsuc m) ++ (power a n ++ w)) ∙ ap (put (a, true)) (reduced-powers a (negsuc m) n w) ∙ sym (power_pred a (negsuc m +ℤ n) w) ∙ ap (λ k. reduced (power a k ++ w)) (sym (pred_ℤ-+ℤ (negsuc m) n))

-- a word's reduced word is that of its parts
pub reduced-append : (u v w : List Letter) → reduced v ≡ reduced w → reduced (u ++ v) ≡ reduced (u ++ w)
reduced-append [] v w h = h
reduced-append (l ∷ u) v w h = reduced-cons l (u ++ v) ∙ ap (put l) (reduced-append u v w h) ∙ sym (reduced-cons l (u ++ w))
