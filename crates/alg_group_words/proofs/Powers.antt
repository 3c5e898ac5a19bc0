-- Powers by negative exponents are inverses of powers, and one syllable's is like any other's.
use Rattle.std.proofs.Common.{◌≡◌, ℕ, zero, suc, List, [], ◌++◌, refl, sym, ap, ◌∙◌, append_assoc, append-nil, ℤ, pos, negsuc}
use Rattle.alg_terms.specs.Tree.{Tree}
use Rattle.alg_group_words.specs.Word.{Letter, reduced, inverted, repeated, raised}
use Rattle.alg_group_words.specs.Syllables.{spelled, joined, joined_inverse, raised_join, raised_runs}
use Rattle.alg_group_words.proofs.Words.{inverted-append, inverted-same}
use Rattle.alg_group_words.proofs.Runs.{runs_unique}
use Rattle.alg_group_words.proofs.Products.{inverse-AreRuns, inverse-word, raised-AreRuns, raised-word, join-AreRuns, join-word}

-- once more before is once more after
repeated-first : (w : List Letter) (n : ℕ) → w ++ repeated w n ≡ repeated w n ++ w
repeated-first w zero = append-nil w
repeated-first w (suc n) = sym (append_assoc w (repeated w n) w) ∙ ap (λ x. x ++ w) (repeated-first w n)

pub inverted-repeated : (w : List Letter) (n : ℕ) → inverted (repeated w n) ≡ repeated (inverted w) n
inverted-repeated w zero = refl
inverted-repeated w (suc n) = inverted-append (repeated w n) w ∙ ap (λ x. inverted w ++ x) (inverted-repeated w n) ∙ repeated-first (inverted w) n

-- the inverse of a power, written out
pub raised-negsuc : (w : List Letter) (n : ℕ) → raised w (negsuc n) ≡ inverted (raised w (pos (suc n)))
raised-negsuc w n = sym (inverted-repeated w (suc n))

-- by a negative exponent: the inverse of the power
pub runs-negsuc : (ss : List (Tree × ℤ)) (n : ℕ) → raised_runs ss (negsuc n) ≡ joined_inverse [] (raised_runs ss (pos (suc n)))
runs-negsuc ss n =
    runs_unique (raised_runs ss (negsuc n)) (joined_inverse [] (raised_runs ss (pos (suc n)))) (raised-AreRuns ss (negsuc n)) (inverse-AreRuns [] (raised_runs ss (pos (suc n))) tt)
    (raised-word ss (negsuc n)
    ∙ ap reduced (raised-negsuc (spelled ss) n)
    ∙ inverted-same (raised (spelled ss) (pos (suc n))) (spelled (raised_runs ss (pos (suc n)))) (sym (raised-word ss (pos (suc n))))
    ∙ sym (inverse-word [] (raised_runs ss (pos (suc n)))))

-- the quick power is the one by products
pub raised_is : (ss : List (Tree × ℤ)) (k : ℤ) → raised_runs ss k ≡ raised_join ss k
raised_is ss k = runs_unique (raised_runs ss k) (raised_join ss k) (raised-AreRuns ss k) (join-AreRuns ss k) (raised-word ss k ∙ sym (join-word ss k))

-- one factor more
pub raised-suc : (ss : List (Tree × ℤ)) (n : ℕ) → raised_runs ss (pos (suc n)) ≡ joined (raised_runs ss (pos n)) ss
raised-suc ss n = raised_is ss (pos (suc n)) ∙ ap (λ x. joined x ss) (sym (raised_is ss (pos n)))
