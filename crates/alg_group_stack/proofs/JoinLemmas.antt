-- The syllables of a word one after another, from both ends, and the room that they take.
use Rattle.std.proofs.Common.{◌≡◌, ℕ, zero, suc, ◌+◌, ◌≤◌, ◌<◌, ◌^◌, ◌-◌, ℤ, Some, List, [], ◌∷◌, ◌++◌, length, get_or, take, drop, refl, sym, ap, ◌∙◌, subst, arith}
use Rattle.std.specs.Prelude.{unsigned_abs, neg_ℤ, slice_get}
use Rattle.std.proofs.Math.Seq.{take-suc, take-length, drop-cons}
use Rattle.std.proofs.lemmas.Option.{get_or_from_slice_get}
use Rattle.alg_terms.specs.declared.sorts.Sort.{Sort}
use Rattle.alg_terms.specs.Tree.{Tree, Lit, product_tree}
use Rattle.alg_build.specs.Book.{Book}
use Rattle.alg_build.specs.Rewriting.{Stands}
use Rattle.alg_group_words.specs.Syllables.{push, joined, joined_inverse, total_size}
use Rattle.alg_group_words.proofs.Products.{joined-end}
use Rattle.alg_group_words.proofs.Sizes.{size-joined, size-joined_inverse}
use Rattle.alg_group_stack.specs.declared.syllable.Syllable.{Syllable}
use Rattle.alg_group_stack.specs.Words.{pair_of, pairs_of, syllable_tree, times_all, word_tree, IsSyllable, Holds, IsWord, HasRoom, HaveRoom}
use Rattle.alg_group_stack.proofs.WordLemmas.{pairs-append, word-end}

module _ (b : Book) (s : Sort) where
  holds-at : (t : Tree) (xs : List Syllable) (i : ℕ) (d : Syllable) → Holds b s t xs → i < length xs → IsSyllable b s (times_all s t (pairs_of b (take i xs))) (get_or xs i d)
  holds-at t [] i d h l = absurd (omega (arith, l))
  holds-at t (x ∷ xs) zero d h l = h.0
  holds-at t (x ∷ xs) (suc i) d h l = holds-at (product_tree s t (syllable_tree s (pair_of b x))) xs i d h.1 (omega (arith, l))

  holds-take : (t : Tree) (xs : List Syllable) (i : ℕ) → Holds b s t xs → Holds b s t (take i xs)
  holds-take t [] zero h = tt
  holds-take t [] (suc i) h = tt
  holds-take t (x ∷ xs) zero h = tt
  holds-take t (x ∷ xs) (suc i) h = (h.0, holds-take (product_tree s t (syllable_tree s (pair_of b x))) xs i h.1)

  -- one syllable, after those before it
  pub word-at : (xs : List Syllable) (i : ℕ) (d : Syllable) → IsWord b s xs → i < length xs → IsSyllable b s (word_tree s (pairs_of b (take i xs))) (get_or xs i d)
  word-at xs i d h l = holds-at (Lit s 1) xs i d h.holds l

  pub word-take : (xs : List Syllable) (i : ℕ) → IsWord b s xs → IsWord b s (take i xs)
  word-take xs i h = record { holds = holds-take (Lit s 1) xs i h.holds }

module _ (b : Book) (xs : List Syllable) (i : ℕ) (d : Syllable) (l : i < length xs) where
  pub pairs-next : pairs_of b (take (suc i) xs) ≡ pairs_of b (take i xs) ++ pair_of b (get_or xs i d) ∷ []
  pairs-next = ap (pairs_of b) (take-suc xs i d l) ∙ pairs-append b (take i xs) (get_or xs i d ∷ [])

  pub pairs-drop : pairs_of b (drop i xs) ≡ pair_of b (get_or xs i d) ∷ pairs_of b (drop (suc i) xs)
  pairs-drop = ap (pairs_of b) (drop-cons xs i d l)

  pub joined-next : (ss : List (Tree × ℤ)) → joined ss (pairs_of b (take (suc i) xs)) ≡ push (joined ss (pairs_of b (take i xs))) (pair_of b (get_or xs i d))
  joined-next ss = ap (joined ss) pairs-next ∙ joined-end ss (pairs_of b (take i xs)) (pair_of b (get_or xs i d))

-- the last syllable has the tree of the word
last-at : (b : Book) (s : Sort) (xs : List Syllable) (n : ℕ) (x : Syllable) → IsWord b s xs → suc n ≡ length xs → slice_get xs n ≡ Some x → Stands b s x.whole (word_tree s (pairs_of b xs))
last-at b s xs n x h m e =
    let l : n < length xs = omega (arith, m) in
    let q : get_or xs n x ≡ x = get_or_from_slice_get xs n x x e in
    let k = word-at b s xs n x h l in
    let p : pairs_of b xs ≡ pairs_of b (take n xs) ++ pair_of b (get_or xs n x) ∷ [] = ap (pairs_of b) (sym (take-length xs) ∙ ap (λ (j : ℕ). take j xs) (sym m)) ∙ pairs-next b xs n x l in
    let w : Stands b s (get_or xs n x).whole (word_tree s (pairs_of b xs)) = subst (λ (u : Tree). Stands b s (get_or xs n x).whole u) (sym (ap (word_tree s) p ∙ word-end s (pairs_of b (take n xs)) (pair_of b (get_or xs n x)))) k.whole in
    subst (λ (y : Syllable). Stands b s y.whole (word_tree s (pairs_of b xs))) q w

pub last-stands : (b : Book) (s : Sort) (xs : List Syllable) (x : Syllable) → IsWord b s xs → Some x ≡ slice_get xs (length xs - 1) → Stands b s x.whole (word_tree s (pairs_of b xs))
last-stands b s [] x h e = cc
last-stands b s (y ∷ xs) x h e = last-at b s (y ∷ xs) (length (y ∷ xs) - 1) x h (omega arith) (sym e)

inverse-cons : (ss ts : List (Tree × ℤ)) (t : Tree × ℤ) → joined_inverse ss (t ∷ ts) ≡ push (joined_inverse ss ts) (t.0, neg_ℤ t.1)
unfolding joined_inverse
inverse-cons ss ts t = refl

pub inverse-next : (b : Book) (xs : List Syllable) (i : ℕ) (d : Syllable) → i < length xs → (ss : List (Tree × ℤ)) → joined_inverse ss (pairs_of b (drop i xs)) ≡ push (joined_inverse ss (pairs_of b (drop (suc i) xs))) ((pair_of b (get_or xs i d)).0, neg_ℤ (get_or xs i d).exponent)
inverse-next b xs i d l ss = ap (joined_inverse ss) (pairs-drop b xs i d l) ∙ inverse-cons ss (pairs_of b (drop (suc i) xs)) (pair_of b (get_or xs i d))

-- ---- room
size-at : (b : Book) (xs : List Syllable) (i : ℕ) (d : Syllable) → i < length xs → total_size (pairs_of b (take i xs)) + unsigned_abs (get_or xs i d).exponent ≤ total_size (pairs_of b xs)
size-at b [] i d l = absurd (omega (arith, l))
size-at b (x ∷ xs) zero d l = omega arith
size-at b (x ∷ xs) (suc i) d l = omega (arith, size-at b xs i d (omega (arith, l)))

size-drop : (b : Book) (xs : List Syllable) (i : ℕ) (d : Syllable) → i < length xs → total_size (pairs_of b (drop (suc i) xs)) + unsigned_abs (get_or xs i d).exponent ≤ total_size (pairs_of b xs)
size-drop b [] i d l = absurd (omega (arith, l))
size-drop b (x ∷ xs) zero d l = omega arith
size-drop b (x ∷ xs) (suc i) d l = omega (arith, size-drop b xs i d (omega (arith, l)))

module _ (b c : Book) (xs : List Syllable) (i : ℕ) (d : Syllable) (l : i < length xs) where
  pub room-next : (ys zs : List Syllable) → HaveRoom b ys xs → pairs_of c zs ≡ joined (pairs_of b ys) (pairs_of b (take i xs)) → HasRoom c zs (get_or xs i d).exponent
  room-next ys zs h e = record { small = omega (arith, h.small, size-at b xs i d l, size-joined (pairs_of b ys) (pairs_of b (take i xs)), ap total_size e) }

  pub room-drop : (ys zs : List Syllable) → HaveRoom b ys xs → pairs_of c zs ≡ joined_inverse (pairs_of b ys) (pairs_of b (drop (suc i) xs)) → HasRoom c zs (get_or xs i d).exponent
  room-drop ys zs h e = record { small = omega (arith, h.small, size-drop b xs i d l, size-joined_inverse (pairs_of b ys) (pairs_of b (drop (suc i) xs)), ap total_size e) }

pub drop-all : (xs : List Syllable) → drop (length xs) xs ≡ []
drop-all [] = refl
drop-all (x ∷ xs) = drop-all xs
