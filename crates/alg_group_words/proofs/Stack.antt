-- A syllable pushed on a stack of runs gives runs, which spell the product.
use Rattle.std.proofs.Common.{◌≡◌, Bool, true, false, cond, List, [], ◌∷◌, ◌++◌, refl, sym, ap, ◌∙◌, append_assoc, append-nil, ℤ, pos, ◌+ℤ◌}
use Rattle.std.specs.Ordering.{int_eq}
use Rattle.alg_terms.specs.Tree.{Tree}
use Rattle.alg_terms.specs.Order.{tree_same}
use Rattle.alg_terms.proofs.OrderLaws.{tree_same-equal}
use Rattle.alg_group_words.specs.Word.{Letter, reduced, power}
use Rattle.alg_group_words.specs.Syllables.{spelled, IsFresh, AreRuns, kept, push}
use Rattle.alg_group_words.proofs.Reduced.{reduced-powers, reduced-append}
use Rattle.alg_group_words.proofs.Runs.{kept-AreRuns, spelled-kept}

fresh_kept : (a : Tree) (s : Tree × ℤ) (b : Bool) → tree_same a s.0 ≡ false → IsFresh a (cond b [] (s ∷ []))
fresh_kept a s true h = tt
fresh_kept a s false h = h

fresh_cases : (a : Tree) (t s : Tree × ℤ) (b : Bool) → tree_same a t.0 ≡ false → IsFresh a (cond b (kept (t.0, t.1 +ℤ s.1) []) (t ∷ kept s []))
fresh_cases a t s true h = fresh_kept a (t.0, t.1 +ℤ s.1) (int_eq (t.1 +ℤ s.1) (pos 0)) h
fresh_cases a t s false h = h

push-IsFresh : (a : Tree) (t : Tree × ℤ) (ts : List (Tree × ℤ)) (s : Tree × ℤ) → tree_same a t.0 ≡ false → IsFresh a (push (t ∷ ts) s)
push-IsFresh a t [] s h = fresh_cases a t s (tree_same t.0 s.0) h
push-IsFresh a t (u ∷ ts) s h = h

push_runs : (t s : Tree × ℤ) (b : Bool) → tree_same t.0 s.0 ≡ b → int_eq t.1 (pos 0) ≡ false → AreRuns (cond b (kept (t.0, t.1 +ℤ s.1) []) (t ∷ kept s []))
push_runs t s true e h = kept-AreRuns (t.0, t.1 +ℤ s.1) [] tt tt
push_runs t s false e h = (fresh_kept t.0 s (int_eq s.1 (pos 0)) e, h, kept-AreRuns s [] tt tt)

pub push-AreRuns : (ss : List (Tree × ℤ)) (s : Tree × ℤ) → AreRuns ss → AreRuns (push ss s)
push-AreRuns [] s h = kept-AreRuns s [] tt tt
push-AreRuns (t ∷ []) s h = push_runs t s (tree_same t.0 s.0) refl h.1
push-AreRuns (t ∷ u ∷ ts) s h = (push-IsFresh t.0 u ts s h.0, h.1, push-AreRuns (u ∷ ts) s h.2)

push_word : (t s : Tree × ℤ) (b : Bool) → tree_same t.0 s.0 ≡ b → reduced (spelled (cond b (kept (t.0, t.1 +ℤ s.1) []) (t ∷ kept s []))) ≡ reduced (power t.0 t.1 ++ (power s.0 s.1 ++ []))
push_word t s true e =
    ap reduced (spelled-kept (t.0, t.1 +ℤ s.1) [])
    ∙ sym (reduced-powers t.0 t.1 s.1 [])
    ∙ ap (λ a. reduced (power t.0 t.1 ++ (power a s.1 ++ []))) (tree_same-equal t.0 s.0 e)
push_word t s false e = ap (λ w. reduced (power t.0 t.1 ++ w)) (spelled-kept s [])

regroup : (u v : List Letter) → u ++ (v ++ []) ≡ (u ++ []) ++ v
regroup u v = ap (λ x. u ++ x) (append-nil v) ∙ ap (λ x. x ++ v) (sym (append-nil u))

pub push-word : (ss : List (Tree × ℤ)) (s : Tree × ℤ) → reduced (spelled (push ss s)) ≡ reduced (spelled ss ++ power s.0 s.1)
push-word [] s = ap reduced (spelled-kept s [] ∙ append-nil (power s.0 s.1))
push-word (t ∷ []) s = push_word t s (tree_same t.0 s.0) refl ∙ ap reduced (regroup (power t.0 t.1) (power s.0 s.1))
push-word (t ∷ u ∷ ts) s =
    reduced-append (power t.0 t.1) (spelled (push (u ∷ ts) s)) (spelled (u ∷ ts) ++ power s.0 s.1) (push-word (u ∷ ts) s)
    ∙ ap reduced (sym (append_assoc (power t.0 t.1) (spelled (u ∷ ts)) (power s.0 s.1)))

-- only the last syllable is looked at
pub push-end : (ts : List (Tree × ℤ)) (t s : Tree × ℤ) → push (ts ++ t ∷ []) s ≡ ts ++ push (t ∷ []) s
push-end [] t s = refl
push-end (u ∷ []) t s = refl
push-end (u ∷ v ∷ ts) t s = ap (λ x. u ∷ x) (push-end (v ∷ ts) t s)
