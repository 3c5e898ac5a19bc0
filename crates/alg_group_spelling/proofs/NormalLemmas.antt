-- Syllables as they are left in a goal, and their product.
use Rattle.std.proofs.Common.{◌≡◌, ℕ, zero, suc, ◌<◌, ◌≤◌, arith, ℤ, pos, negsuc, List, [], ◌∷◌, ◌++◌, length, get_or, take, refl, sym, ap, ◌∙◌, true, false, nat_eq}
use Rattle.std.specs.Prelude.{unsigned_abs, ◌<ℤ◌, ◌≤ℤ◌}
use Rattle.std.proofs.lemmas.Int.{ints}
use Rattle.std.proofs.lemmas.Bool.Decides.{nat_tests}
use Rattle.alg_terms.specs.declared.sorts.Sort.{Sort}
use Rattle.alg_terms.specs.declared.sorts.Sort.TheVariants.{Nat, Int}
use Rattle.alg_terms.specs.Tree.{Tree, Lit, product_tree}
use Rattle.alg_expr.specs.Ids.{tree_of}
use Rattle.alg_build.specs.Book.{Book, Grows}
use Rattle.alg_build.specs.Rewriting.{Turns}
use Rattle.alg_build.specs.declared.rewriting.Rewriting.{Rewriting}
use Rattle.alg_rows.specs.Operations.{integer_power_tree, inverse_tree, power_tree as natural_power_tree}
use Rattle.alg_numerals.specs.WholeTree.{whole_tree}
use Rattle.alg_group_words.specs.WordTree.{power_tree, times_syllables, normal_tree}
use Rattle.alg_group_stack.specs.declared.syllable.Syllable.{Syllable}
use Rattle.alg_group_stack.specs.Words.{pair_of, pairs_of, syllable_tree, word_tree, IsWord}
use Rattle.alg_group_stack.proofs.WordLemmas.{grows-pair, word-end}
use Rattle.alg_group_stack.proofs.JoinLemmas.{pairs-next, word-at}
use Rattle.alg_group_stack.proofs.StepLemmas.{turns-cast}

syllables-end : (s : Sort) (t : Tree) (ps : List (Tree × ℤ)) (p : Tree × ℤ) → times_syllables s t (ps ++ p ∷ []) ≡ product_tree s (times_syllables s t ps) (power_tree s p.0 p.1)
syllables-end s t [] p = refl
syllables-end s t (q ∷ ps) p = syllables-end s (product_tree s t (power_tree s q.0 q.1)) ps p

normal-end : (s : Sort) (ps : List (Tree × ℤ)) (p : Tree × ℤ) → 0 < length ps → normal_tree s (ps ++ p ∷ []) ≡ product_tree s (normal_tree s ps) (power_tree s p.0 p.1)
normal-end s [] p l = absurd (omega (arith, l))
normal-end s (q ∷ ps) p l = syllables-end s (power_tree s q.0 q.1) ps p

one-abs : (n : ℕ) → nat_eq n 1 ≡ true → n ≡ 1
one-abs n e = grind (arith, nat_tests, e)

not-one : (n : ℕ) → nat_eq n 1 ≡ false → n ≡ 1 → ⊥
not-one n e q = let f : nat_eq n 1 ≡ true = ap (λ (m : ℕ). nat_eq m 1) q in let g : true ≡ false = sym f ∙ e in cc

-- ---- one syllable
module _ (b : Book) (s : Sort) (r : Rewriting) (a : Tree) where
  pub first-turns : (u : Tree) → Turns b s r (integer_power_tree s a (Lit Int 1)) u → Turns b s r (syllable_tree s (a, pos 1)) u
  unfolding whole_tree
  first-turns u h = h

  pub first-inverse : Turns b s r (inverse_tree s (integer_power_tree s a (Lit Int 1))) (inverse_tree s a) → Turns b s r (inverse_tree s (syllable_tree s (a, pos 1))) (inverse_tree s a)
  unfolding whole_tree
  first-inverse h = h

  pub shown-first : (z : ℤ) → nat_eq (unsigned_abs z) 1 ≡ true → pos 0 ≤ℤ z → Turns b s r (integer_power_tree s a (Lit Int 1)) a → Turns b s r (syllable_tree s (a, z)) (power_tree s a z)
  unfolding whole_tree
  shown-first (pos zero) e l h = absurd (omega (arith, one-abs 0 e))
  shown-first (pos (suc zero)) e l h = h
  shown-first (pos (suc (suc n))) e l h = absurd (omega (arith, one-abs (suc (suc n)) e))
  shown-first (negsuc n) e l h = absurd (omega (arith, ints, l))

  pub shown-inverse : (z : ℤ) → nat_eq (unsigned_abs z) 1 ≡ true → z <ℤ pos 0 → Turns b s r (syllable_tree s (a, negsuc 0)) (inverse_tree s a) → Turns b s r (syllable_tree s (a, z)) (power_tree s a z)
  shown-inverse (pos n) e l h = absurd (omega (arith, ints, l))
  shown-inverse (negsuc zero) e l h = h
  shown-inverse (negsuc (suc n)) e l h = absurd (omega (arith, one-abs (suc (suc n)) e))

  pub shown-below : (z : ℤ) → nat_eq (unsigned_abs z) 1 ≡ false → z <ℤ pos 0 → Turns b s r (syllable_tree s (a, z)) (syllable_tree s (a, z)) → Turns b s r (syllable_tree s (a, z)) (power_tree s a z)
  unfolding whole_tree
  shown-below (pos n) e l h = absurd (omega (arith, ints, l))
  shown-below (negsuc zero) e l h = absurd (not-one 1 e refl)
  shown-below (negsuc (suc n)) e l h = h

  pub shown-above : (z : ℤ) → nat_eq (unsigned_abs z) 1 ≡ false → pos 0 ≤ℤ z → Turns b s r (integer_power_tree s a (Lit Int (unsigned_abs z))) (natural_power_tree s a (Lit Nat (unsigned_abs z))) → Turns b s r (syllable_tree s (a, z)) (power_tree s a z)
  unfolding whole_tree
  shown-above (pos zero) e l h = h
  shown-above (pos (suc zero)) e l h = absurd (not-one 1 e refl)
  shown-above (pos (suc (suc n))) e l h = h
  shown-above (negsuc n) e l h = absurd (omega (arith, ints, l))

-- ---- the loop over a word
module _ (b : Book) (s : Sort) (xs : List Syllable) (i : ℕ) (d : Syllable) (l : i < length xs) where
  pub next-word : word_tree s (pairs_of b (take (suc i) xs)) ≡ product_tree s (word_tree s (pairs_of b (take i xs))) (syllable_tree s (pair_of b (get_or xs i d)))
  next-word = ap (word_tree s) (pairs-next b xs i d l) ∙ word-end s (pairs_of b (take i xs)) (pair_of b (get_or xs i d))

  take-some : (ys : List Syllable) (j : ℕ) → 0 < j → j < length ys → 0 < length (pairs_of b (take j ys))
  take-some [] j p m = absurd (omega (arith, m))
  take-some (y ∷ ys) zero p m = absurd (omega (arith, p))
  take-some (y ∷ ys) (suc j) p m = omega arith

  pub next-normal : 0 < i → normal_tree s (pairs_of b (take (suc i) xs)) ≡ product_tree s (normal_tree s (pairs_of b (take i xs))) (power_tree s (pair_of b (get_or xs i d)).0 (get_or xs i d).exponent)
  next-normal p = ap (normal_tree s) (pairs-next b xs i d l) ∙ normal-end s (pairs_of b (take i xs)) (pair_of b (get_or xs i d)) (take-some xs i p l)

pub first-word : (b : Book) (s : Sort) (xs : List Syllable) (d : Syllable) → 0 < length xs → word_tree s (pairs_of b (take 1 xs)) ≡ product_tree s (Lit s 1) (syllable_tree s (pair_of b (get_or xs 0 d)))
first-word b s [] d l = absurd (omega (arith, l))
first-word b s (x ∷ []) d l = refl
first-word b s (x ∷ y ∷ xs) d l = refl

pub first-normal : (b : Book) (s : Sort) (xs : List Syllable) (d : Syllable) → 0 < length xs → normal_tree s (pairs_of b (take 1 xs)) ≡ power_tree s (tree_of b.trees (get_or xs 0 d).atom) (get_or xs 0 d).exponent
first-normal b s [] d l = absurd (omega (arith, l))
first-normal b s (x ∷ []) d l = refl
first-normal b s (x ∷ y ∷ xs) d l = refl

pub next-shown : (a b c : Book) → Grows a b → (s : Sort) (xs : List Syllable) → IsWord a s xs → (i : ℕ) (d : Syllable) → i < length xs → 0 < i → (r : Rewriting) → Turns c s r (product_tree s (word_tree s (pairs_of a (take i xs))) (syllable_tree s (pair_of b (get_or xs i d)))) (product_tree s (normal_tree s (pairs_of a (take i xs))) (power_tree s (tree_of b.trees (get_or xs i d).atom) (get_or xs i d).exponent))
    → Turns c s r (word_tree s (pairs_of a (take (suc i) xs))) (normal_tree s (pairs_of a (take (suc i) xs)))
next-shown a b c g s xs h i d l some r t =
    let p : pair_of b (get_or xs i d) ≡ pair_of a (get_or xs i d) = grows-pair a b g s (get_or xs i d) (word-at a s xs i d h l).power in
    turns-cast c s r _ _ _ _
    ((λ j. product_tree s (word_tree s (pairs_of a (take i xs))) (syllable_tree s (p j))) ∙ sym (next-word a s xs i d l))
    ((λ j. product_tree s (normal_tree s (pairs_of a (take i xs))) (power_tree s (p j).0 (get_or xs i d).exponent)) ∙ sym (next-normal a s xs i d l some))
    t
