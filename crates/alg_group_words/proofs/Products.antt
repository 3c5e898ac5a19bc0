-- Products, inverses and powers of runs are runs, and spell those of their words.
use Rattle.std.proofs.Common.{◌≡◌, ℕ, zero, suc, true, false, List, [], ◌∷◌, ◌++◌, refl, sym, ap, ◌∙◌, append_assoc, append-nil, arith, ℤ, pos, negsuc, neg_ℤ, ◌+ℤ◌, ◌*ℤ◌}
use Rattle.std.specs.Prelude.{replicate}
use Rattle.std.proofs.lemmas.Int.{ints}
use Rattle.alg_num.proofs.IntegerLaws.{*ℤ-pos_one, *ℤ-+ℤ, neg_ℤ-*ℤ, *ℤ-neg_ℤ}
use Rattle.alg_terms.specs.Tree.{Tree}
use Rattle.alg_group_words.specs.Word.{Letter, inverse, reduced, inverted, repeated, raised, power}
use Rattle.alg_group_words.specs.Syllables.{spelled, AreRuns, push, joined, joined_inverse, repeated_join, raised_join, raised_runs}
use Rattle.alg_group_words.proofs.Reduced.{reduced-powers}
use Rattle.alg_group_words.proofs.Words.{append-same, inverted-append, repeated-same}
use Rattle.alg_group_words.proofs.Runs.{kept-AreRuns, spelled-kept, runs_unique}
use Rattle.alg_group_words.proofs.Stack.{push-AreRuns, push-word}

-- ---- products
pub joined-AreRuns : (ss ts : List (Tree × ℤ)) → AreRuns ss → AreRuns (joined ss ts)
unfolding joined
joined-AreRuns ss [] h = h
joined-AreRuns ss (t ∷ ts) h = joined-AreRuns (push ss t) ts (push-AreRuns ss t h)

pub joined-word : (ss ts : List (Tree × ℤ)) → reduced (spelled (joined ss ts)) ≡ reduced (spelled ss ++ spelled ts)
unfolding joined
joined-word ss [] = ap reduced (sym (append-nil (spelled ss)))
joined-word ss (t ∷ ts) =
    joined-word (push ss t) ts
    ∙ append-same (spelled (push ss t)) (spelled ss ++ power t.0 t.1) (spelled ts) (spelled ts) (push-word ss t) refl
    ∙ ap reduced (append_assoc (spelled ss) (power t.0 t.1) (spelled ts))

-- one syllable more
pub joined-end : (ss ts : List (Tree × ℤ)) (t : Tree × ℤ) → joined ss (ts ++ t ∷ []) ≡ push (joined ss ts) t
unfolding joined
joined-end ss [] t = refl
joined-end ss (u ∷ ts) t = joined-end (push ss u) ts t

-- the empty list changes nothing
pub joined-nil : (ss : List (Tree × ℤ)) → AreRuns ss → joined [] ss ≡ ss
joined-nil ss h = runs_unique (joined [] ss) ss (joined-AreRuns [] ss tt) h (joined-word [] ss)

-- ---- inverses
pub replicate_end : (n : ℕ) (l : Letter) → replicate n l ++ l ∷ [] ≡ replicate (suc n) l
replicate_end zero l = refl
replicate_end (suc n) l = ap (λ w. l ∷ w) (replicate_end n l)

inverted-replicate : (n : ℕ) (l : Letter) → inverted (replicate n l) ≡ replicate n (inverse l)
inverted-replicate zero l = refl
inverted-replicate (suc n) l = ap (λ w. w ++ inverse l ∷ []) (inverted-replicate n l) ∙ replicate_end n (inverse l)

pub inverted-power : (a : Tree) (z : ℤ) → inverted (power a z) ≡ power a (neg_ℤ z)
inverted-power a (pos zero) = refl
inverted-power a (pos (suc n)) = inverted-replicate (suc n) (a, false)
inverted-power a (negsuc n) = inverted-replicate (suc n) (a, true)

pub inverse-AreRuns : (ss ts : List (Tree × ℤ)) → AreRuns ss → AreRuns (joined_inverse ss ts)
unfolding joined_inverse
inverse-AreRuns ss [] h = h
inverse-AreRuns ss (t ∷ ts) h = push-AreRuns (joined_inverse ss ts) (t.0, neg_ℤ t.1) (inverse-AreRuns ss ts h)

pub inverse-word : (ss ts : List (Tree × ℤ)) → reduced (spelled (joined_inverse ss ts)) ≡ reduced (spelled ss ++ inverted (spelled ts))
unfolding joined_inverse
inverse-word ss [] = ap reduced (sym (append-nil (spelled ss)))
inverse-word ss (t ∷ ts) =
    push-word (joined_inverse ss ts) (t.0, neg_ℤ t.1)
    ∙ append-same (spelled (joined_inverse ss ts)) (spelled ss ++ inverted (spelled ts)) (power t.0 (neg_ℤ t.1)) (power t.0 (neg_ℤ t.1)) (inverse-word ss ts) refl
    ∙ ap reduced (append_assoc (spelled ss) (inverted (spelled ts)) (power t.0 (neg_ℤ t.1)))
    ∙ ap (λ w. reduced (spelled ss ++ (inverted (spelled ts) ++ w))) (sym (inverted-power t.0 t.1))
    ∙ ap (λ w. reduced (spelled ss ++ w)) (sym (inverted-append (power t.0 t.1) (spelled ts)))

-- ---- powers
repeated-AreRuns : (ss : List (Tree × ℤ)) (n : ℕ) → AreRuns (repeated_join ss n)
repeated-AreRuns ss zero = tt
repeated-AreRuns ss (suc n) = joined-AreRuns (repeated_join ss n) ss (repeated-AreRuns ss n)

repeated-word : (ss : List (Tree × ℤ)) (n : ℕ) → reduced (spelled (repeated_join ss n)) ≡ reduced (repeated (spelled ss) n)
repeated-word ss zero = refl
repeated-word ss (suc n) = joined-word (repeated_join ss n) ss ∙ append-same (spelled (repeated_join ss n)) (repeated (spelled ss) n) (spelled ss) (spelled ss) (repeated-word ss n) refl

pub join-AreRuns : (ss : List (Tree × ℤ)) (k : ℤ) → AreRuns (raised_join ss k)
join-AreRuns ss (pos n) = repeated-AreRuns ss n
join-AreRuns ss (negsuc n) = repeated-AreRuns (joined_inverse [] ss) (suc n)

pub join-word : (ss : List (Tree × ℤ)) (k : ℤ) → reduced (spelled (raised_join ss k)) ≡ reduced (raised (spelled ss) k)
join-word ss (pos n) = repeated-word ss n
join-word ss (negsuc n) = repeated-word (joined_inverse [] ss) (suc n) ∙ repeated-same (spelled (joined_inverse [] ss)) (inverted (spelled ss)) (suc n) (inverse-word [] ss)

-- a power of one syllable
no_times : (m : ℤ) → m *ℤ pos 0 ≡ pos 0
no_times m = omega (arith, ints)

next_times : (m : ℤ) (n : ℕ) → m *ℤ pos n +ℤ m ≡ m *ℤ pos (suc n)
next_times m n = ap (λ z. m *ℤ pos n +ℤ z) (sym (*ℤ-pos_one m)) ∙ sym (*ℤ-+ℤ m (pos n) (pos 1)) ∙ ap (λ z. m *ℤ z) (let e : pos n +ℤ pos 1 ≡ pos (suc n) = omega (arith, ints) in e)

two_powers : (a : Tree) (m n : ℤ) → reduced (power a m ++ power a n) ≡ reduced (power a (m +ℤ n))
two_powers a m n = ap (λ w. reduced (power a m ++ w)) (sym (append-nil (power a n))) ∙ reduced-powers a m n [] ∙ ap reduced (append-nil (power a (m +ℤ n)))

power-repeated : (a : Tree) (m : ℤ) (n : ℕ) → reduced (power a (m *ℤ pos n)) ≡ reduced (repeated (power a m) n)
power-repeated a m zero = ap (λ z. reduced (power a z)) (no_times m)
power-repeated a m (suc n) =
    ap (λ z. reduced (power a z)) (sym (next_times m n))
    ∙ sym (two_powers a (m *ℤ pos n) m)
    ∙ append-same (power a (m *ℤ pos n)) (repeated (power a m) n) (power a m) (power a m) (power-repeated a m n) refl

power-raised : (a : Tree) (m k : ℤ) → reduced (power a (m *ℤ k)) ≡ reduced (raised (power a m) k)
power-raised a m (pos n) = power-repeated a m n
power-raised a m (negsuc n) =
    ap (λ z. reduced (power a z)) (*ℤ-neg_ℤ m (pos (suc n)) ∙ sym (neg_ℤ-*ℤ m (pos (suc n))))
    ∙ power-repeated a (neg_ℤ m) (suc n)
    ∙ ap (λ w. reduced (repeated w (suc n))) (sym (inverted-power a m))

nil_repeated : (n : ℕ) → repeated [] n ≡ []
nil_repeated zero = refl
nil_repeated (suc n) = append-nil (repeated [] n) ∙ nil_repeated n

nil_raised : (k : ℤ) → [] ≡ raised [] k
nil_raised (pos n) = sym (nil_repeated n)
nil_raised (negsuc n) = sym (nil_repeated (suc n))

pub raised-AreRuns : (ss : List (Tree × ℤ)) (k : ℤ) → AreRuns (raised_runs ss k)
unfolding raised_runs
raised-AreRuns [] k = tt
raised-AreRuns (s ∷ []) k = kept-AreRuns (s.0, s.1 *ℤ k) [] tt tt
raised-AreRuns (s ∷ t ∷ ts) k = join-AreRuns (s ∷ t ∷ ts) k

pub raised-word : (ss : List (Tree × ℤ)) (k : ℤ) → reduced (spelled (raised_runs ss k)) ≡ reduced (raised (spelled ss) k)
unfolding raised_runs
raised-word [] k = ap reduced (nil_raised k)
raised-word (s ∷ []) k =
    ap reduced (spelled-kept (s.0, s.1 *ℤ k) [] ∙ append-nil (power s.0 (s.1 *ℤ k)))
    ∙ power-raised s.0 s.1 k
    ∙ ap (λ w. reduced (raised w k)) (sym (append-nil (power s.0 s.1)))
raised-word (s ∷ t ∷ ts) k = join-word (s ∷ t ∷ ts) k
