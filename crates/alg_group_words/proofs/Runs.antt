-- Each word has one list of runs: the syllables whose letters are its reduced word.
use Rattle.std.proofs.Common.{◌≡◌, ℕ, zero, suc, Bool, true, false, cond, not, List, [], ◌∷◌, ◌++◌, refl, sym, ap, ◌∙◌, subst, arith, ℤ, pos, negsuc, ◌+ℤ◌}
use Rattle.std.specs.Prelude.{replicate}
use Rattle.std.specs.Ordering.{int_eq}
use Rattle.std.specs.Cmp.{signed_Decides}
use Rattle.std.proofs.lemmas.Int.{ints}
use Rattle.alg_terms.specs.Tree.{Tree}
use Rattle.alg_terms.specs.Order.{tree_same}
use Rattle.alg_terms.proofs.OrderLaws.{tree_same-equal, tree_same-self}
use Rattle.alg_group_words.specs.Word.{Letter, cancel, IsReducedAfter, IsReduced, put, reduced, power}
use Rattle.alg_group_words.specs.Syllables.{spelled, IsFresh, AreRuns, kept, put_front, syllable_of, runs}
use Rattle.alg_group_words.proofs.Reduced.{reduced_of-IsReduced, reduced-powers}

is_zero : (z : ℤ) → int_eq z (pos 0) ≡ true → z ≡ pos 0
is_zero z h = (signed_Decides z (pos 0)).0 h

zero_cases : (z : ℤ) (b : Bool) → int_eq z (pos 0) ≡ b → (z ≡ pos 0 → ⊥) → b ≡ false
zero_cases z true e h = absurd (h (is_zero z e))
zero_cases z false e h = refl

pub not_zero : (z : ℤ) → (z ≡ pos 0 → ⊥) → int_eq z (pos 0) ≡ false
not_zero z h = zero_cases z (int_eq z (pos 0)) refl h

pub above_zero : (n : ℕ) → int_eq (pos (suc n)) (pos 0) ≡ false
above_zero n = not_zero (pos (suc n)) (λ e. omega (arith, ints, e))

pub below_zero : (n : ℕ) → int_eq (negsuc n) (pos 0) ≡ false
below_zero n = not_zero (negsuc n) (λ e. omega (arith, ints, e))

kept_some : (s : Tree × ℤ) (ss : List (Tree × ℤ)) → int_eq s.1 (pos 0) ≡ false → kept s ss ≡ s ∷ ss
kept_some s ss e = ap (λ b. cond b ss (s ∷ ss)) e

reduced-cons : (l : Letter) (w : List Letter) → reduced (l ∷ w) ≡ put l (reduced w)
unfolding reduced
reduced-cons l w = refl

-- ---- the letters of runs are a reduced word
not_both : (b : Bool) → cond b (not b) b ≡ false
not_both true = refl
not_both false = refl

cancel-self : (l : Letter) → cancel l l ≡ false
cancel-self l = rw (tree_same-self l.0, not_both l.1) refl

replicate_after : (l : Letter) (n : ℕ) (w : List Letter) → IsReducedAfter l w → IsReducedAfter l (replicate n l ++ w)
replicate_after l zero w h = h
replicate_after l (suc n) w h = (cancel-self l, replicate_after l n w h)

syllable_reduced : (a : Tree) (z : ℤ) (w : List Letter) → IsReducedAfter (a, false) w → IsReducedAfter (a, true) w → IsReduced w → IsReduced (power a z ++ w)
syllable_reduced a (pos zero) w h i r = r
syllable_reduced a (pos (suc n)) w h i r = replicate_after (a, false) n w h
syllable_reduced a (negsuc n) w h i r = replicate_after (a, true) n w i

after_syllable : (l : Letter) (a : Tree) (z : ℤ) (w : List Letter) → tree_same l.0 a ≡ false → int_eq z (pos 0) ≡ false → IsReduced (power a z ++ w) → IsReducedAfter l (power a z ++ w)
after_syllable l a (pos zero) w h e r = cc
after_syllable l a (pos (suc n)) w h e r = (rw h refl, r)
after_syllable l a (negsuc n) w h e r = (rw h refl, r)

after_fresh : (l : Letter) (ss : List (Tree × ℤ)) → IsFresh l.0 ss → AreRuns ss → IsReduced (spelled ss) → IsReducedAfter l (spelled ss)
after_fresh l [] f h r = tt
after_fresh l (s ∷ ss) f h r = after_syllable l s.0 s.1 (spelled ss) f h.1 r

pub spelled-IsReduced : (ss : List (Tree × ℤ)) → AreRuns ss → IsReduced (spelled ss)
spelled-IsReduced [] h = tt
spelled-IsReduced (s ∷ ss) h =
    let r = spelled-IsReduced ss h.2 in
    syllable_reduced s.0 s.1 (spelled ss) (after_fresh (s.0, false) ss h.0 h.2 r) (after_fresh (s.0, true) ss h.0 h.2 r) r

pub reduced-spelled : (ss : List (Tree × ℤ)) → AreRuns ss → reduced (spelled ss) ≡ spelled ss
reduced-spelled ss h = reduced_of-IsReduced (spelled ss) (spelled-IsReduced ss h)

-- ---- the runs of these letters are the list again
front_fresh : (s : Tree × ℤ) (ss : List (Tree × ℤ)) → IsFresh s.0 ss → put_front s ss ≡ kept s ss
front_fresh s [] h = refl
front_fresh s (t ∷ ts) h = rw h refl

more : (n : ℕ) → pos 1 +ℤ pos (suc n) ≡ pos (suc (suc n))
more n = omega (arith, ints)

less : (n : ℕ) → negsuc 0 +ℤ negsuc n ≡ negsuc (suc n)
less n = omega (arith, ints)

front_same : (a : Tree) (x y : ℤ) (ss : List (Tree × ℤ)) → put_front (a, x) ((a, y) ∷ ss) ≡ kept (a, x +ℤ y) ss
front_same a x y ss = ap (λ b. cond b (kept (a, x +ℤ y) ss) (kept (a, x) ((a, y) ∷ ss))) (tree_same-self a)

runs-cons : (l : Letter) (w : List Letter) → runs (l ∷ w) ≡ put_front (syllable_of l) (runs w)
unfolding runs
runs-cons l w = refl

runs_plain : (a : Tree) (n : ℕ) (w : List Letter) → IsFresh a (runs w) → runs (replicate (suc n) (a, false) ++ w) ≡ (a, pos (suc n)) ∷ runs w
runs_plain a zero w f = runs-cons (a, false) w ∙ front_fresh (a, pos 1) (runs w) f ∙ kept_some (a, pos 1) (runs w) (above_zero 0)
runs_plain a (suc n) w f =
    runs-cons (a, false) (replicate (suc n) (a, false) ++ w)
    ∙ ap (put_front (a, pos 1)) (runs_plain a n w f)
    ∙ front_same a (pos 1) (pos (suc n)) (runs w)
    ∙ ap (λ z. kept (a, z) (runs w)) (more n)
    ∙ kept_some (a, pos (suc (suc n))) (runs w) (above_zero (suc n))

runs_inverse : (a : Tree) (n : ℕ) (w : List Letter) → IsFresh a (runs w) → runs (replicate (suc n) (a, true) ++ w) ≡ (a, negsuc n) ∷ runs w
runs_inverse a zero w f = runs-cons (a, true) w ∙ front_fresh (a, negsuc 0) (runs w) f ∙ kept_some (a, negsuc 0) (runs w) (below_zero 0)
runs_inverse a (suc n) w f =
    runs-cons (a, true) (replicate (suc n) (a, true) ++ w)
    ∙ ap (put_front (a, negsuc 0)) (runs_inverse a n w f)
    ∙ front_same a (negsuc 0) (negsuc n) (runs w)
    ∙ ap (λ z. kept (a, z) (runs w)) (less n)
    ∙ kept_some (a, negsuc (suc n)) (runs w) (below_zero (suc n))

runs_power : (a : Tree) (z : ℤ) (w : List Letter) → IsFresh a (runs w) → int_eq z (pos 0) ≡ false → runs (power a z ++ w) ≡ (a, z) ∷ runs w
runs_power a (pos zero) w f e = cc
runs_power a (pos (suc n)) w f e = runs_plain a n w f
runs_power a (negsuc n) w f e = runs_inverse a n w f

runs-nil : runs [] ≡ []
unfolding runs
runs-nil = refl

pub runs-spelled : (ss : List (Tree × ℤ)) → AreRuns ss → runs (spelled ss) ≡ ss
runs-spelled [] h = runs-nil
runs-spelled (s ∷ ss) h =
    let e = runs-spelled ss h.2 in
    runs_power s.0 s.1 (spelled ss) (subst (IsFresh s.0) (sym e) h.0) h.1 ∙ ap (λ x. s ∷ x) e

-- ---- a syllable before runs
kept_cases : (s : Tree × ℤ) (ss : List (Tree × ℤ)) (b : Bool) → int_eq s.1 (pos 0) ≡ b → IsFresh s.0 ss → AreRuns ss → AreRuns (cond b ss (s ∷ ss))
kept_cases s ss true e f h = h
kept_cases s ss false e f h = (f, e, h)

pub kept-AreRuns : (s : Tree × ℤ) (ss : List (Tree × ℤ)) → IsFresh s.0 ss → AreRuns ss → AreRuns (kept s ss)
kept-AreRuns s ss f h = kept_cases s ss (int_eq s.1 (pos 0)) refl f h

spelled_cases : (s : Tree × ℤ) (ss : List (Tree × ℤ)) (b : Bool) → int_eq s.1 (pos 0) ≡ b → spelled (cond b ss (s ∷ ss)) ≡ power s.0 s.1 ++ spelled ss
spelled_cases s ss true e = ap (λ z. power s.0 z ++ spelled ss) (sym (is_zero s.1 e))
spelled_cases s ss false e = refl

pub spelled-kept : (s : Tree × ℤ) (ss : List (Tree × ℤ)) → spelled (kept s ss) ≡ power s.0 s.1 ++ spelled ss
spelled-kept s ss = spelled_cases s ss (int_eq s.1 (pos 0)) refl

front_runs : (s t : Tree × ℤ) (ts : List (Tree × ℤ)) (b : Bool) → tree_same s.0 t.0 ≡ b → AreRuns (t ∷ ts) → AreRuns (cond b (kept (t.0, s.1 +ℤ t.1) ts) (kept s (t ∷ ts)))
front_runs s t ts true e h = kept-AreRuns (t.0, s.1 +ℤ t.1) ts h.0 h.2
front_runs s t ts false e h = kept-AreRuns s (t ∷ ts) e h

front-AreRuns : (s : Tree × ℤ) (ss : List (Tree × ℤ)) → AreRuns ss → AreRuns (put_front s ss)
front-AreRuns s [] h = kept-AreRuns s [] tt tt
front-AreRuns s (t ∷ ts) h = front_runs s t ts (tree_same s.0 t.0) refl h

front_word : (s t : Tree × ℤ) (ts : List (Tree × ℤ)) (b : Bool) → tree_same s.0 t.0 ≡ b → reduced (spelled (cond b (kept (t.0, s.1 +ℤ t.1) ts) (kept s (t ∷ ts)))) ≡ reduced (power s.0 s.1 ++ spelled (t ∷ ts))
front_word s t ts true e =
    ap reduced (spelled-kept (t.0, s.1 +ℤ t.1) ts)
    ∙ sym (reduced-powers t.0 s.1 t.1 (spelled ts))
    ∙ ap (λ a. reduced (power a s.1 ++ spelled (t ∷ ts))) (sym (tree_same-equal s.0 t.0 e))
front_word s t ts false e = ap reduced (spelled-kept s (t ∷ ts))

front-word : (s : Tree × ℤ) (ss : List (Tree × ℤ)) → reduced (spelled (put_front s ss)) ≡ reduced (power s.0 s.1 ++ spelled ss)
front-word s [] = ap reduced (spelled-kept s [])
front-word s (t ∷ ts) = front_word s t ts (tree_same s.0 t.0) refl

-- ---- the runs of any word
pub runs-AreRuns : (w : List Letter) → AreRuns (runs w)
unfolding runs
runs-AreRuns [] = tt
runs-AreRuns (l ∷ w) = front-AreRuns (syllable_of l) (runs w) (runs-AreRuns w)

letter_spelled : (a : Tree) (b : Bool) (w : List Letter) → power a (cond b (negsuc 0) (pos 1)) ++ w ≡ (a, b) ∷ w
letter_spelled a true w = refl
letter_spelled a false w = refl

pub runs-word : (w : List Letter) → reduced (spelled (runs w)) ≡ reduced w
runs-word [] = ap (λ x. reduced (spelled x)) runs-nil
runs-word (l ∷ w) =
    ap (λ x. reduced (spelled x)) (runs-cons l w)
    ∙ front-word (syllable_of l) (runs w)
    ∙ ap reduced (letter_spelled l.0 l.1 (spelled (runs w)))
    ∙ reduced-cons l (spelled (runs w))
    ∙ ap (put l) (runs-word w)
    ∙ sym (reduced-cons l w)

-- the letters of the runs are the reduced word
pub spelled-runs : (w : List Letter) → spelled (runs w) ≡ reduced w
spelled-runs w = sym (reduced-spelled (runs w) (runs-AreRuns w)) ∙ runs-word w

-- runs with one reduced word are one list
pub runs_unique : (ss ts : List (Tree × ℤ)) → AreRuns ss → AreRuns ts → reduced (spelled ss) ≡ reduced (spelled ts) → ss ≡ ts
runs_unique ss ts h i e = sym (runs-spelled ss h) ∙ ap runs (sym (reduced-spelled ss h) ∙ e ∙ reduced-spelled ts i) ∙ runs-spelled ts i

-- runs that spell a word's reduced word are its runs
pub is_runs : (ss : List (Tree × ℤ)) (w : List Letter) → AreRuns ss → reduced (spelled ss) ≡ reduced w → ss ≡ runs w
is_runs ss w h e = runs_unique ss (runs w) h (runs-AreRuns w) (e ∙ sym (runs-word w))

-- words have one reduced word exactly where they have one list of runs
pub same_runs : (w v : List Letter) → reduced w ≡ reduced v → runs w ≡ runs v
same_runs w v e = is_runs (runs w) v (runs-AreRuns w) (runs-word w ∙ e)

pub runs_same : (w v : List Letter) → runs w ≡ runs v → reduced w ≡ reduced v
runs_same w v e = sym (spelled-runs w) ∙ ap spelled e ∙ spelled-runs v
