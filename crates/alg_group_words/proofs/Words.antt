-- Products, inverses and powers of words with one reduced word have one reduced word.
use Rattle.std.proofs.Common.{◌≡◌, ℕ, zero, suc, Bool, true, false, cond, List, [], ◌∷◌, ◌++◌, refl, sym, ap, ◌∙◌, append_assoc, append-nil, ℤ, pos, negsuc}
use Rattle.alg_group_words.specs.Word.{Letter, inverse, cancel, put, reduced, inverted, repeated, raised}
use Rattle.alg_group_words.proofs.Reduced.{cancel_is, twice, put_twice, reduced-IsReduced, reduced-pair, reduced-append}

reduced-cons : (l : Letter) (w : List Letter) → reduced (l ∷ w) ≡ put l (reduced w)
unfolding reduced
reduced-cons l w = refl

put_cases : (l m : Letter) (w v : List Letter) (b : Bool) → cancel l m ≡ b → reduced (cond b w (l ∷ m ∷ w) ++ v) ≡ put l (reduced (m ∷ w ++ v))
put_cases l m w v true h =
    sym (put_twice l (reduced (w ++ v)) (reduced-IsReduced (w ++ v)))
    ∙ ap (λ x. put l (put x (reduced (w ++ v)))) (sym (cancel_is l m h))
    ∙ ap (put l) (sym (reduced-cons m (w ++ v)))
put_cases l m w v false h = reduced-cons l (m ∷ w ++ v)

put-append : (l : Letter) (w v : List Letter) → reduced (put l w ++ v) ≡ put l (reduced (w ++ v))
put-append l [] v = reduced-cons l v
put-append l (m ∷ w) v = put_cases l m w v (cancel l m) refl

reduced_left : (u v : List Letter) → reduced (reduced u ++ v) ≡ reduced (u ++ v)
unfolding reduced
reduced_left [] v = refl
reduced_left (l ∷ u) v = put-append l (reduced u) v ∙ ap (put l) (reduced_left u v)

-- products
pub append-same : (u v x y : List Letter) → reduced u ≡ reduced v → reduced x ≡ reduced y → reduced (u ++ x) ≡ reduced (v ++ y)
append-same u v x y h i = sym (reduced_left u x) ∙ ap (λ w. reduced (w ++ x)) h ∙ reduced_left v x ∙ reduced-append v x y i

-- inverses
pub inverted-append : (u v : List Letter) → inverted (u ++ v) ≡ inverted v ++ inverted u
inverted-append [] v = sym (append-nil (inverted v))
inverted-append (l ∷ u) v = ap (λ w. w ++ inverse l ∷ []) (inverted-append u v) ∙ append_assoc (inverted v) (inverted u) (inverse l ∷ [])

inverted_cases : (l m : Letter) (w : List Letter) (b : Bool) → cancel l m ≡ b → reduced (inverted (cond b w (l ∷ m ∷ w))) ≡ reduced (inverted (m ∷ w) ++ inverse l ∷ [])
inverted_cases l m w true h =
    ap reduced (sym (append-nil (inverted w)))
    ∙ sym (reduced-pair (inverted w) [] l)
    ∙ ap (λ x. reduced (inverted w ++ x ∷ inverse l ∷ [])) (sym (ap inverse (cancel_is l m h) ∙ twice l))
    ∙ ap reduced (sym (append_assoc (inverted w) (inverse m ∷ []) (inverse l ∷ [])))
inverted_cases l m w false h = refl

inverted-put : (l : Letter) (w : List Letter) → reduced (inverted (put l w)) ≡ reduced (inverted w ++ inverse l ∷ [])
inverted-put l [] = refl
inverted-put l (m ∷ w) = inverted_cases l m w (cancel l m) refl

nil_reduced : reduced [] ≡ []
unfolding reduced
nil_reduced = refl

inverted-reduced : (u : List Letter) → reduced (inverted (reduced u)) ≡ reduced (inverted u)
inverted-reduced [] = ap (λ w. reduced (inverted w)) nil_reduced
inverted-reduced (l ∷ u) = ap (λ w. reduced (inverted w)) (reduced-cons l u) ∙ inverted-put l (reduced u) ∙ append-same (inverted (reduced u)) (inverted u) (inverse l ∷ []) (inverse l ∷ []) (inverted-reduced u) refl

pub inverted-same : (u v : List Letter) → reduced u ≡ reduced v → reduced (inverted u) ≡ reduced (inverted v)
inverted-same u v h = sym (inverted-reduced u) ∙ ap (λ w. reduced (inverted w)) h ∙ inverted-reduced v

-- powers
pub repeated-same : (u v : List Letter) (n : ℕ) → reduced u ≡ reduced v → reduced (repeated u n) ≡ reduced (repeated v n)
repeated-same u v zero h = refl
repeated-same u v (suc n) h = append-same (repeated u n) (repeated v n) u v (repeated-same u v n h) h

pub raised-same : (u v : List Letter) (k : ℤ) → reduced u ≡ reduced v → reduced (raised u k) ≡ reduced (raised v k)
raised-same u v (pos n) h = repeated-same u v n h
raised-same u v (negsuc n) h = repeated-same (inverted u) (inverted v) (suc n) (inverted-same u v h)
